-- What the places of a state tell where each fits, and of top and the first started job in any state. Assumes nothing.
use Prim.Native.Nat.{ℕ, ◌≤◌, ◌<◌}
use mathlib.Core.Path.{◌≡◌, refl, sym, ap, ◌∙◌}
use mathlib.Core.Bool.{Bool, true, false, false≢true}
use mathlib.Core.Logic.{⊎_elim}
use native.Mathlib.Nat.{eq-or-lt_of_le}
use native.Mathlib.Decide.{dec_lt}
use native.Mathlib.Omega.{arith}
use lib.ListN.{length}
use Rattle.units.specs.Sets.{has}
use Rattle.units.proofs.Laws.Folds.{both, all_tells, some_tells, some_holds}
use Rattle.units.proofs.Laws.Sets.{has-set}
use Rattle.units.proofs.Laws.Tests.{and-true}
use Rattle.table.specs.declared.Table.{Table}
use Rattle.table.specs.Table.{task_at}
use Rattle.state.specs.declared.State.{State}
use Rattle.state.specs.State.{job_at}
use Rattle.state.specs.Order.{place_at, position_of, no_place, is_pending, is_started, holds_any, holds, first_in_order, held_resources}
use Rattle.state.proofs.Laws.Order.{first-le, first_found, first_bound, place-position}
use Rattle.state.proofs.Laws.Stacks.{on_any}
use Rattle.choice.specs.Choice.{top}
use Rattle.consistency.specs.Consistency.{position_fits, positions_fit}
use Rattle.consistency.proofs.Laws.Jobs.{holds_one_of_8}
use Rattle.consistency.proofs.Laws.Places.{used_tells, past_tells, places_tells}

-- a list of limits could be longer; an array of them has 8
abbrev pub Eight : Table → Type 0
Eight t = (k : ℕ) → k < 16 → k < t.count → length (task_at t k).limits ≡ 8

-- ---- where each place fits

module _ (t : Table) (s : State) (fit : positions_fit t s ≡ true) where
  fits-at : (k : ℕ) → k < 16 → position_fits t s k ≡ true
  fits-at k l = all_tells _ 16 (places_tells t s fit).0 k l

  -- every pending job is one of the table's
  pub pending-inside : (k : ℕ) → k < 16 → (job_at s k).pending ≡ true → k < t.count
  pending-inside k l p = go (dec_lt k t.count)
    where
      go : Dec (k < t.count) → k < t.count
      go (yes b) = b
      go (no b) = absurd (false≢true (sym (past_tells t s k (fits-at k l) (omega arith)).pending ∙ p))

  -- who holds something is started, and pending
  pub holder-started : (k : ℕ) → k < 16 → holds_any (job_at s k).held ≡ true → is_started (job_at s k) ≡ true
  holder-started k l h = go (dec_lt k t.count) (job_at s k).pending (job_at s k).started refl refl
    where
      go : Dec (k < t.count) → (p b : Bool) → (job_at s k).pending ≡ p → (job_at s k).started ≡ b → is_started (job_at s k) ≡ true
      go (no b) p q e f = absurd (false≢true (sym (past_tells t s k (fits-at k l) (omega arith)).absent.held ∙ h))
      go (yes b) false q e f = absurd (false≢true (sym ((used_tells t s k (fits-at k l) b).absent e).held ∙ h))
      go (yes b) true false e f = absurd (false≢true (sym ((used_tells t s k (fits-at k l) b).unstarted f).held ∙ h))
      go (yes b) true true e f = and-true _ _ e f

  pub held_one_of_8 : Eight t → (k r : ℕ) → k < 16 → holds r (job_at s k).held ≡ true → r < 8
  held_one_of_8 eight k r l h = go (dec_lt k t.count)
    where
      go : Dec (k < t.count) → r < 8
      go (yes b) = holds_one_of_8 (task_at t k) (job_at s k).held (eight k l b) (used_tells t s k (fits-at k l) b).held r h
      go (no b) = absurd (false≢true (sym (past_tells t s k (fits-at k l) (omega arith)).absent.held ∙ on_any _ (job_at s k).held h))

-- ---- in any state

module _ (s : State) where
  abbrev first : ℕ
  first = first_in_order is_started s

  -- a started job is pending
  pub top-first : top s ≤ first
  top-first = ⊎_elim (λ e. omega (arith, e, first_bound s is_pending)) found (eq-or-lt_of_le (first_bound s is_started))
    where
      found : first < no_place → top s ≤ first
      found l = let w = first_found s is_started l in omega (arith, w.3, first-le s is_pending w.0 w.1 (both _ _ w.2).0)

  -- the job of a place
  there : (k : ℕ) → k < 16 → position_of (place_at s k) ≡ k
  there k l = place-position s.tick.0 (job_at s k).deadline.0 k (omega arith)

  -- top is started, and so the first started job
  pub started-top : top s < no_place → (job_at s (position_of (top s))).started ≡ true → first ≡ top s
  started-top l h =
      let w = first_found s is_pending l in
      let e : position_of (top s) ≡ w.0 = ap position_of w.3 ∙ there w.0 w.1 in
      let f : (job_at s w.0).started ≡ true = sym (ap (λ (k : ℕ). (job_at s k).started) e) ∙ h in
      omega (arith, top-first, w.3, first-le s is_started w.0 w.1 (and-true _ _ w.2 f))

  -- the first started job is started
  pub first-started : first < no_place → (job_at s (position_of first)).started ≡ true
  first-started l =
      let w = first_found s is_started l in
      let e : position_of first ≡ w.0 = ap position_of w.3 ∙ there w.0 w.1 in
      ap (λ (k : ℕ). (job_at s k).started) e ∙ (both (job_at s w.0).pending _ w.2).1

  -- ---- what is held

  pub held_tells : (r : ℕ) → r < 8 → has (held_resources s) r ≡ true → (k : ℕ) × (k < 16) × (holds r (job_at s k).held ≡ true)
  unfolding held_resources
  held_tells r l h = some_tells _ 16 (sym (has-set _ 16 r (omega arith)) ∙ h)

  pub held-holds : (k r : ℕ) → k < 16 → r < 8 → holds r (job_at s k).held ≡ true → has (held_resources s) r ≡ true
  unfolding held_resources
  held-holds k r l b h = has-set _ 16 r (omega arith) ∙ some_holds _ 16 k l h
