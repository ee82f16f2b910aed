-- The order of the jobs, and who holds what.
use Rattle.std.specs.Prelude.{ℕ, ◌+◌, ◌*◌, ◌%◌, ◌^◌}
use mathlib.Core.{Bool.Bool, Bool.◌&&◌}
use lib.{Dec.ltb, Dec.eqb}
use Rattle.units.specs.{Clock.distance, Folds.smallest, Folds.largest, Folds.some, Folds.over, Sets.set, Sets.with}
use Rattle.state.specs.{declared.Job.Job, declared.Stack.Stack, declared.State.State, Stack.section_at, Stack.any_on, State.job_at}

-- "Order: nearer deadline first; equal deadlines by lower position.": a place in the order as one number, the smaller the nearer
unfoldable pub place : ℕ → ℕ → ℕ → ℕ
place now deadline position = distance now deadline * 256 + position

abbrev pub place_at : State → ℕ → ℕ
place_at s k = place s.tick.0 (job_at s k).deadline.0 k

-- the position at a place
abbrev pub position_of : ℕ → ℕ
position_of at = at % 256

-- behind every place
abbrev pub no_place : ℕ
no_place = 2 ^ 40

-- "pending or not, started or not": only what is pending is a job
abbrev pub is_pending : Job → Bool
is_pending j = j.pending

abbrev pub is_started : Job → Bool
is_started j = j.pending && j.started

-- "holds a resource": its stack is not empty
abbrev pub holds_any : Stack → Bool
holds_any h = ltb 0 h.depth

abbrev pub is_holder : Job → Bool
is_holder j = holds_any j.held && j.pending

-- the place of the first job in order that has p; no_place where none has
unfoldable pub first_in_order : (Job → Bool) → State → ℕ
first_in_order p s = smallest (λ k. p (job_at s k)) (place_at s) no_place 16

-- the place of the last in order among the holders behind a place; 0 where there is none
unfoldable pub last_holder : State → ℕ → ℕ
last_holder s at = largest (λ k. is_holder (job_at s k) && ltb at (place_at s k)) (place_at s) 16

-- the resource is one of those that are held
abbrev pub holds : ℕ → Stack → Bool
holds r h = any_on (λ x. eqb r x.resource) h

-- the resources that some job holds, one bit each
unfoldable pub held_resources : State → ℕ
held_resources s = set (λ r. some (λ k. holds r (job_at s k).held) 16) 16

-- a set of resources with those that are held
abbrev pub with_held : ℕ → Stack → ℕ
with_held m h = over (λ i. ltb i h.depth) (λ i found. with found (section_at h i).resource) m 4
