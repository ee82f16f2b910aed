-- What the promise leaves open in a history of a table that passes: in which mode and at which speed a job runs, and where the mark stands. Nothing else.
use Rattle.std.specs.Prelude.{ℕ, ◌^◌, ◌<◌}
use mathlib.Core.{Path.◌≡◌, List.List}
use Rattle.table.specs.declared.Table.{Table}
use Rattle.state.specs.{declared.State.State, Answers.Answer, State.job_at}
use Rattle.promise.specs.History.{Machine, Call, choose, answered, state_after, start}
use Rattle.promise.specs.Promise.{Passed, Promise}

-- the same mode and speed
pub record SameSpeed (a b : Answer) : Type 0 where
  pub mode : a.mode ≡ b.mode
  pub speed : a.speed ≡ b.speed

-- and the same runner
pub record Told (a b : Answer) : Type 0 where
  pub runner : a.runner ≡ b.runner
  pub mode : a.mode ≡ b.mode
  pub speed : a.speed ≡ b.speed

-- the same answer to every call, and the same state but for the mark
pub record Same (m n : Machine) (t : Table) (s r : State) : Type 0 where
  pub number : (call : Call) → (answered m t s call).number ≡ (answered n t r call).number
  pub told : (call : Call) → Told (answered m t s call) (answered n t r call)
  pub ending : (call : Call) → (answered m t s call).ending ≡ (answered n t r call).ending
  pub tick : s.tick ≡ r.tick
  pub half : s.half ≡ r.half
  pub runner : s.runner ≡ r.runner
  pub jobs : (k : ℕ) → job_at s k ≡ job_at r k

-- the state after some calls
abbrev pub at : Table → ℕ → List Call → Machine → State
at t now calls m = state_after m t (start m t now) calls

-- two machines that keep the promise, and whose choices have the same mode and speed at each place, are the same there
abbrev pub Determined : Type 0
Determined = (m n : Machine) → Promise m → Promise n → (t : Table) → Passed m t → Passed n t → (now : ℕ) → now < 2 ^ 32
    → ((calls : List Call) → SameSpeed (answered m t (at t now calls m) choose) (answered n t (at t now calls n) choose))
    → (calls : List Call) → Same m n t (at t now calls m) (at t now calls n)
