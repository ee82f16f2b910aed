-- The order by places is document 01's. Assumes nothing.
use Prim.Native.Nat.{ℕ, ◌+◌, ◌/◌, ◌^◌, ◌≤◌, ◌<◌}
use mathlib.Core.Path.{◌≡◌}
use mathlib.Core.Bool.{Bool, true, ◌&&◌}
use mathlib.Core.Logic.{⊎_elim}
use native.Mathlib.Nat.{eq-or-lt_of_le}
use native.Mathlib.Omega.{arith}
use lib.Dec.{ltb}
use borrow.Author.Tests.{lt-ltb}
use Rattle.units.specs.Clock.{after, distance}
use Rattle.units.proofs.Laws.Clock.{distance-lt, distance_next}
use Rattle.units.proofs.Laws.Folds.{Among, smallest-le, smallest_bound, smallest_found, largest_bounds, largest_found}
use Rattle.state.specs.declared.Job.{Job}
use Rattle.state.specs.declared.State.{State}
use Rattle.state.specs.State.{job_at}
use Rattle.state.specs.Order.{place, place_at, position_of, no_place, is_holder, first_in_order, last_holder}

module _ (now : ℕ) where
  -- "nearer deadline first"
  pub nearer-first : (d e j k : ℕ) → j < 256 → distance now d < distance now e → place now d j < place now e k
  unfolding place
  nearer-first d e j k l h = omega arith

  -- "equal deadlines by lower position"
  pub lower-first : (d e j k : ℕ) → j < k → distance now d ≡ distance now e → place now d j < place now e k
  unfolding place
  lower-first d e j k l h = omega arith

  -- what a place tells
  pub place-position : (d k : ℕ) → k < 256 → position_of (place now d k) ≡ k
  unfolding place
  place-position d k l = omega arith

  pub place-distance : (d k : ℕ) → k < 256 → place now d k / 256 ≡ distance now d
  unfolding place
  place-distance d k l = omega arith

  -- with each tick a place ahead comes nearer
  pub place-next : (d k : ℕ) → now < 2 ^ 32 → 1 ≤ distance now d → place (after now 1) d k + 256 ≡ place now d k
  unfolding place
  place-next d k h l = omega (arith, distance_next now d h l)

  pub place-lt : (d k : ℕ) → k < 256 → place now d k < no_place
  unfolding place
  place-lt d k l = omega (arith, distance-lt now d)

module _ (s : State) where
  -- the first job in order that has p is there, and no other such job is before it
  pub first-le : (p : Job → Bool) (k : ℕ) → k < 16 → p (job_at s k) ≡ true → first_in_order p s ≤ place_at s k
  unfolding first_in_order
  first-le p k l h = smallest-le (λ k. p (job_at s k)) (place_at s) no_place 16 k l h

  pub first_found : (p : Job → Bool) → first_in_order p s < no_place → Among (λ k. p (job_at s k)) (place_at s) 16 (first_in_order p s)
  unfolding first_in_order
  first_found p l = smallest_found (λ k. p (job_at s k)) (place_at s) no_place 16 l

  pub first_bound : (p : Job → Bool) → first_in_order p s ≤ no_place
  unfolding first_in_order
  first_bound p = smallest_bound (λ k. p (job_at s k)) (place_at s) no_place 16

  pub first-position : (p : Job → Bool) → position_of (first_in_order p s) < 16
  first-position p = ⊎_elim (λ e. omega arith) (λ l. let w = first_found p l in omega (arith, w.1, w.3, place-position s.tick.0 (job_at s w.0).deadline.0 w.0 (omega (arith, w.1)))) (eq-or-lt_of_le (first_bound p))

  -- so with the last holder behind a place
  pub last_bounds : (at k : ℕ) → k < 16 → is_holder (job_at s k) ≡ true → at < place_at s k → place_at s k ≤ last_holder s at
  unfolding last_holder
  last_bounds at k l h b = largest_bounds (λ k. is_holder (job_at s k) && ltb at (place_at s k)) (place_at s) 16 k l (simp (h, lt-ltb _ _ b))

  pub last_found : (at : ℕ) → 0 < last_holder s at → Among (λ k. is_holder (job_at s k) && ltb at (place_at s k)) (place_at s) 16 (last_holder s at)
  unfolding last_holder
  last_found at l = largest_found (λ k. is_holder (job_at s k) && ltb at (place_at s k)) (place_at s) 16 l
