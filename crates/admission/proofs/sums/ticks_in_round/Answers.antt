use native.Mathlib.Omega.{arith}
use Rattle.admission.proofs.Laws.Sums.{no_ticks, found_ticks, term_small}
use Rattle.admission.proofs.sums.ticks_in_round.Goals as goal

pub returns-then-deadline-eq0 : goal.returns-then-deadline-eq0
returns-then-deadline-eq0 c = (search no_ticks, omega arith)

pub returns : goal.returns
returns c = rw (c.from.ensures, c.from-3.ensures, c.from-2.ensures) (search found_ticks, term_small _ _ (omega arith) _ (omega arith))
