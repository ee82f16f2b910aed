use Rattle.std.proofs.Common.{◌≡◌, ◌≤◌, leb, get_or}
use Rattle.units.specs.Amounts.{ticks, steps}
use Rattle.units.specs.Folds.{largest}
use Rattle.admission.proofs.blocking.longest_of.Given as goal

abbrev pub invariant-loop-r : goal.invariant-loop-r
invariant-loop-r l = (l.r ≤ 8) × (l.longest.0 ≡ largest (λ k. leb (get_or l.ceilings k (ticks 0)).0 l.deadline.0) (λ k. (get_or l.sections k (steps 0)).0) l.r)
