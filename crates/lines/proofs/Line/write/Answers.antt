use mathlib.Core.Path.{refl}
use borrow.Author.Rules.{rules}
use native.Mathlib.Omega.{arith}
use Rattle.lines.proofs.Laws.Whole.{line_written}
use Rattle.lines.proofs.Line.write.Goals as goal
use Rattle.lines.proofs.Line.write.Goals.{in-Table, in-Release, in-Run, in-Refused}

pub returns : goal.returns
returns c =
    elim c.match-self.branch [
      | in-Table w ↦ line_written (omega arith) (search rules) w.part-is w.in-Table.is w.table.ensures refl refl
      | in-Release w ↦ line_written (omega arith) (search rules) w.part-is w.in-Release.is w.release.ensures refl refl
      | in-Run w ↦ line_written (omega arith) (search rules) w.part-is w.in-Run.is w.run.ensures refl refl
      | in-Refused w ↦ line_written (omega arith) (search rules) w.part-is w.in-Refused.is w.refused.ensures refl refl
    ]
