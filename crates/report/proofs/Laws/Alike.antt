-- "Entries past the task count are not read": with two tables that differ there alone a report gets the same answer, where no job is pending past the count. Assumes nothing.
use Rattle.std.specs.Prelude.{Some, None}
use Prim.Native.Nat.{ℕ, ◌<◌}
use mathlib.Core.Path.{◌≡◌, refl, ap, ◌∙◌}
use Rattle.table.specs.declared.Table.{Table}
use Rattle.table.proofs.Laws.Alike.{Alike}
use Rattle.state.specs.declared.State.{State}
use Rattle.state.specs.State.{Runner}
use Rattle.state.specs.declared.Report.{Report}
use Rattle.choice.specs.declared.Turn.{Turn}
use Rattle.choice.specs.Choice.{turn}
use Rattle.choice.proofs.Laws.Alike.{Inside, turn_within, turn-same}
use Rattle.report.specs.Report.{report_run, report_as, report}

module _ {t u : Table} (a : Alike t u) (s : State) (said : Report) where
  run_same : (v : Turn) (p : ℕ) → p < t.count → report_run t s v p said ≡ report_run u s v p said
  unfolding report_run
  run_same v p l = rw (a.tasks p l)

  as_same : (v : Turn) (r : Runner) → ((p : ℕ) → r ≡ Some p → p < t.count) → report_as t s v r said ≡ report_as u s v r said
  as_same v None h = refl
  as_same v (Some p) h = run_same v p (h p refl)

  pub report-same : Inside t s → report t s said ≡ report u s said
  unfolding report
  report-same inside =
      as_same (turn t s) (turn t s).runner (turn_within t s inside) ∙ ap (λ (v : Turn). report_as u s v v.runner said) (turn-same a s inside)
