-- The numbers 2 to 8, and the positions that they name.
use Rattle.std.specs.Prelude.{ℕ, Result, Ok, Err}
use Rattle.verdict.specs.declared.Fault.{Fault}
use Rattle.verdict.specs.declared.Fault.TheVariants.{Count, Setting, Range, Divisor, Order, Independent, Synchronization}

-- What the admission test finds: that the table passes, or why it does not.
abbrev pub Verdict : Type 0
Verdict = Result (Unit {0}) Fault

abbrev pub passing : Verdict
passing = Ok tt

-- The number and the position of each answer: "Where no position is concerned the position returned is 0."
abbrev pub answer : Verdict → ℕ × ℕ
answer (Ok _) = (0, 0)
answer (Err Count) = (2, 0)
answer (Err Setting) = (3, 0)
answer (Err (Range k)) = (4, k)
answer (Err (Divisor k)) = (5, k)
answer (Err (Order k)) = (6, k)
answer (Err Independent) = (7, 0)
answer (Err (Synchronization k)) = (8, k)
