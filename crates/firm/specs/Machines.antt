-- What is asked of a machine, whatever functions it is made of: the promises of our calls, and the same part by part, as document 01 names the parts.
use Rattle.std.specs.Prelude.{ℕ, ◌≡◌, Result}
use Rattle.units.specs.declared.Tick.{Tick}
use Rattle.table.specs.declared.Table.{Table}
use Rattle.state.specs.{declared.State.State, declared.Report.Report, declared.Success.Success, declared.Refusal.Refusal, Answers.Answer, Answers.told}
use Rattle.admission.proofs as Admission
use Rattle.state.proofs as State
use Rattle.machine.proofs as Calls
use Rattle.promise.specs.History.{Machine, written, Call, answered}
use Rattle.promise.specs.Promise.{Promise}

-- Some result of the code's type is what a function's contract allows, and tells the answer.
abbrev pub Tells : State → (Result Success Refusal → Type 0) → Answer → Type 0
Tells s Allowed a = (r : Result Success Refusal) × Allowed r × (told s r ≡ a)

-- The contracts of the code, of a machine's functions in place of it.
pub record Contracts (m : Machine) : Type 0 where
  pub verdict : (t : Table) → Admission.verdict_of.Reads.Learnt tt (t, tt) (m.verdict t) (t, tt)
  pub fresh : (t : Table) (now : Tick) → State.State.fresh.Reads.Learnt tt (t, (now, tt)) (m.fresh t now) (t, (now, tt))
  pub release : (t : Table) (s : State) (p : ℕ) → Tells s (λ r. Calls.release.Reads.Learnt tt (t, (s, (p, tt))) r (t, (s, (p, tt)))) (m.release t s p)
  pub choose : (t : Table) (s : State) → Tells s (λ r. Calls.choose.Reads.Learnt tt (t, (s, tt)) r (t, (s, tt))) (m.choose t s)
  pub report : (t : Table) (s : State) (said : Report) → Tells s (λ r. Calls.report.Reads.Learnt tt (t, (s, (said, tt))) r (t, (s, (said, tt)))) (m.report t s said)

-- "demand 2, by the table of numbers"
pub record Numbers (m : Machine) : Type 0 where
  pub verdict : (t : Table) → m.verdict t ≡ written.verdict t
  pub fresh : (t : Table) (now : Tick) → (m.fresh t now).verdict ≡ (written.fresh t now).verdict
  pub calls : (t : Table) (s : State) (call : Call) → (answered m t s call).number ≡ (answered written t s call).number

-- "demand 2's choice rules": who runs, in which mode and at which speed; and how the job ends
pub record Choices (m : Machine) : Type 0 where
  pub runner : (t : Table) (s : State) (call : Call) → (answered m t s call).runner ≡ (answered written t s call).runner
  pub mode : (t : Table) (s : State) (call : Call) → (answered m t s call).mode ≡ (answered written t s call).mode
  pub speed : (t : Table) (s : State) (call : Call) → (answered m t s call).speed ≡ (answered written t s call).speed
  pub ending : (t : Table) (s : State) (call : Call) → (answered m t s call).ending ≡ (answered written t s call).ending

-- "demand 2's state"
pub record States (m : Machine) : Type 0 where
  pub fresh : (t : Table) (now : Tick) → (m.fresh t now).state ≡ (written.fresh t now).state
  pub calls : (t : Table) (s : State) (call : Call) → (answered m t s call).state ≡ (answered written t s call).state

-- demands 2 and 3
pub record Meets (m : Machine) : Type 0 where
  pub numbers : Numbers m
  pub choices : Choices m
  pub states : States m
  pub promise : Promise m
