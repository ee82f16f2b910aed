-- What the code's answers to a report tell of a job: no two the same. Assumes nothing.
use Prim.Native.Nat.{ℕ}
use mathlib.Core.Path.{◌≡◌, sym, ap}
use Rattle.std.specs.Prelude.{Ok, Err, Result}
use Rattle.state.specs.declared.Job.{Job}
use Rattle.state.specs.declared.Refusal.{Refusal}
use Rattle.state.proofs.Laws.Answers.{refusal-same, refusal_some}
use Rattle.report.specs.declared.Outcome.{Outcome}
use Rattle.seen.specs.Seen.{Reported, told}

abbrev number : Reported → ℕ
number x = x.number

pub told-same : (j : Job) (x y : Result Outcome Refusal) → told j x ≡ told j y → x ≡ y
told-same j (Ok a) (Ok b) e = ap Ok (λ i. record { job = (e i).job; ending = (e i).ending })
told-same j (Ok a) (Err r) e = absurd (refusal_some r (sym (ap number e)))
told-same j (Err q) (Ok b) e = absurd (refusal_some q (ap number e))
told-same j (Err q) (Err r) e = ap Err (refusal-same q r (ap number e))
