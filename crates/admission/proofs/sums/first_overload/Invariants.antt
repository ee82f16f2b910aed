use Rattle.admission.specs.Admission.{of_tasks}
use Rattle.admission.proofs.Laws.Sums.{Summed}
use Rattle.admission.proofs.sums.first_overload.Given as goal

abbrev pub invariant-loop-i : goal.invariant-loop-i
invariant-loop-i l = Summed (of_tasks 0 l.round l.tasks) l.sum l.i
