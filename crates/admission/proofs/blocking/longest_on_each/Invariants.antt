use Rattle.std.proofs.Common.{◌≡◌, ◌≤◌, ◌<◌, ℕ, ltb, get_or, length}
use Rattle.units.specs.Amounts.{steps}
use Rattle.units.specs.Folds.{largest}
use Rattle.table.specs.Table.{limit, no_task}
use Rattle.admission.proofs.blocking.longest_on_each.Given as goal

abbrev pub invariant-loop-task : goal.invariant-loop-task
invariant-loop-task l =
    (l.task-index ≤ length l.tasks)
    × ((r : ℕ) → r < 8 → (get_or l.longest r (steps 0)).0 ≡ largest (λ j. ltb l.deadline.0 (get_or l.tasks j no_task).deadline.0)
    (λ j. limit (get_or l.tasks j no_task) r) l.task-index)
