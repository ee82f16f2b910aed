use Rattle.std.proofs.Common.{rules, ℕ, List, ap, ◌∙◌, get_or, ltb, arith}
use Rattle.std.proofs.lemmas.List.{get_or-replicate}
use Rattle.units.specs.declared.Steps.{Steps}
use Rattle.units.specs.Amounts.{steps}
use Rattle.units.specs.Folds.{largest, over}
use Rattle.units.proofs.Laws.Tests.{told_lt}
use Rattle.units.proofs.Laws.Loops.{largest_taken, largest_passed}
use Rattle.table.specs.Table.{limit, no_task}
use Rattle.admission.proofs.blocking.longest_on_each.Goals as goal
use Rattle.admission.proofs.blocking.longest_on_each.Goals.{then-counts, else-counts}

pub loop-task-init : goal.loop-task-init
unfolding largest over
loop-task-init c = (omega arith, λ r l. ap (λ (s : Steps). s.0) (get_or-replicate 8 r (steps 0) (steps 0) l))

pub loop-task-preserved : goal.loop-task-preserved
loop-task-preserved c =
    let l = c.loop-task in
    let a = c.args in
    let n = l.task-index in
    let task = λ (j : ℕ). get_or a.tasks.now j no_task in
    let lower = λ (j : ℕ). ltb a.deadline.0 (task j).deadline.0 in (
      omega arith,
      λ r m.
          let number = λ (x : List Steps). (get_or x r (steps 0)).0 in
          elim c.if-counts.branch [
            | then-counts w ↦ largest_taken lower (λ j. limit (task j) r) n (told_lt a.deadline.0 (task n).deadline.0 (search rules) w.if-counts.true)
                (ap number w.longest-is ∙ w.longer-longest.ensures r m) (l.invariant.1 r m)
            | else-counts w ↦ largest_passed lower (λ j. limit (task j) r) n (told_lt a.deadline.0 (task n).deadline.0 (search rules) w.if-counts.false) (ap number w.longest-is) (l.invariant.1 r m)
          ],
    )
