-- What the number says of a verdict. Assumes nothing.
use Rattle.std.proofs.Common.{◌≡◌, Err, arith}
use Rattle.verdict.specs.declared.Fault.{Fault}
use Rattle.verdict.specs.declared.Fault.TheVariants.{Count, Setting, Range, Divisor, Order, Independent, Synchronization}
use Rattle.verdict.specs.Verdict.{answer}

-- a fault has a number that is not 0
pub fault_counts : (e : Fault) → (answer (Err e)).0 ≡ 0 → ⊥
fault_counts Count h = omega arith
fault_counts Setting h = omega arith
fault_counts (Range k) h = omega arith
fault_counts (Divisor k) h = omega arith
fault_counts (Order k) h = omega arith
fault_counts Independent h = omega arith
fault_counts (Synchronization k) h = omega arith
