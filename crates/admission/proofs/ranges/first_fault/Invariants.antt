use Rattle.std.proofs.Common.{◌≡◌, ◌≤◌, length}
use Rattle.units.specs.Folds.{lowest}
use Rattle.admission.specs.Admission.{of_tasks, faulty}
use Rattle.admission.specs.Admission as Admission
use Rattle.admission.proofs.ranges.first_fault.Given as goal

abbrev pub invariant-loop-k : goal.invariant-loop-k
invariant-loop-k l =
    let t = of_tasks l.full l.round l.tasks in (l.k ≤ length l.tasks) × (l.previous.0 ≡ Admission.previous t l.k) × (lowest (faulty t) l.k ≡ l.k)
