-- A job that code reads: past the end of the list it is one whose stack has no places, and in the rules one whose places are 0. Assumes nothing.
use Prim.Native.Nat.{ℕ, zero, suc}
use mathlib.Core.Path.{◌≡◌, refl, ap}
use mathlib.Core.Bool.{false}
use mathlib.Core.List.{List, [], ◌∷◌}
use lib.ListN.{get_or, set}
use Rattle.units.specs.Amounts.{ticks, steps}
use Rattle.units.specs.Clock.{tick}
use Rattle.state.specs.declared.Job.{Job}
use Rattle.state.specs.declared.State.{State}
use Rattle.state.specs.State.{no_job, job_at}
use Rattle.state.specs.Order.{place, place_at}

abbrev pub past_job : Job
past_job = record { pending = false; started = false; deadline = tick 0; used = steps 0; held = record { depth = 0; sections = [] }; wait = ticks 0 }

abbrev pub read_at : State → ℕ → Job
read_at s k = get_or s.jobs k past_job

-- what is the same of the two is the same of what is read
module _ {A : Type 0} (f : Job → A) (e : f past_job ≡ f no_job) where
  read_in : (l : List Job) (k : ℕ) → f (get_or l k past_job) ≡ f (get_or l k no_job)
  read_in [] k = e
  read_in (x ∷ xs) zero = refl
  read_in (x ∷ xs) (suc k) = read_in xs k

  pub read_same : (s : State) (k : ℕ) → f (read_at s k) ≡ f (job_at s k)
  read_same s k = read_in s.jobs k

pub read_place : (s : State) (k : ℕ) → place s.tick.0 (read_at s k).deadline.0 k ≡ place_at s k
read_place s k = read_same (λ (j : Job). place s.tick.0 j.deadline.0 k) refl s k

-- past the end nothing is written
module _ (f : Job → Job) where
  written_in : (l : List Job) (k : ℕ) → set l k (f (get_or l k past_job)) ≡ set l k (f (get_or l k no_job))
  written_in [] k = refl
  written_in (x ∷ xs) zero = refl
  written_in (x ∷ xs) (suc k) = ap (λ (l : List Job). x ∷ l) (written_in xs k)

  pub written_same : (s : State) (k : ℕ) → set s.jobs k (f (read_at s k)) ≡ set s.jobs k (f (job_at s k))
  written_same s k = written_in s.jobs k
