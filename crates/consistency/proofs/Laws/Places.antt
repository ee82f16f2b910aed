-- What consistency asks of each place, and the walk that looks at them. Assumes nothing.
use Prim.Native.Nat.{ℕ, ◌+◌, ◌≤◌, ◌<◌}
use mathlib.Core.Path.{◌≡◌, refl, sym, ap, ◌∙◌}
use mathlib.Core.Bool.{Bool, true, false, ◌&&◌, cond, false≢true}
use native.Mathlib.Decide.{dec_lt}
use native.Mathlib.Omega.{arith}
use lib.ListN.{length}
use lib.Dec.{ltb}
use borrow.Author.Tests.{lt-ltb, le-ltb}
use Rattle.units.specs.Folds.{all, over, some, listed}
use Rattle.units.specs.Sets.{set}
use Rattle.units.proofs.Laws.Folds.{both, all_tells, all-next}
use Rattle.table.specs.declared.Table.{Table}
use Rattle.table.specs.Table.{task_at}
use Rattle.admission.proofs.Laws.Ranges.{no_test}
use Rattle.state.specs.declared.Job.{Job}
use Rattle.state.specs.declared.Stack.{Stack}
use Rattle.state.specs.declared.State.{State}
use Rattle.state.specs.Stack.{any_on}
use Rattle.state.specs.State.{job_at}
use Rattle.state.specs.Order.{holds, with_held}
use Rattle.state.proofs.Laws.Stacks.{on_any}
use Rattle.state.proofs.Laws.Past.{read_at, read_same}
use Rattle.state.proofs.Laws.Holders.{held_below, held_next}
use Rattle.consistency.specs.Consistency.{stack_fits, held_fits, not_pending_fits, started_fits, wait_fits, job_fits, unused, position_fits, alone, is_taken, positions_fit}
use Rattle.units.proofs.Laws.Tests.{cond_yes, cond_no, and-true}
use Rattle.consistency.proofs.Laws.Jobs.{JobFits, Unused, stack_holds, job_tells, job_holds, unused_tells, unused-holds, holds_one_of_8}
use Rattle.consistency.proofs.Laws.Held.{Once, once_none, once_next, once_tells, once_holds, taken_tells, free_tells}

module _ (t : Table) (s : State) where
  abbrev held : ℕ → Stack
  held k = (job_at s k).held

  module _ (k : ℕ) where
    pub used_tells : position_fits t s k ≡ true → k < t.count → JobFits (task_at t k) s.tick.0 (job_at s k)
    unfolding position_fits
    used_tells h l = let w = both _ _ h in job_tells _ _ _ w.0 (sym (cond_yes _ _ (lt-ltb _ _ l)) ∙ w.1)

    pub past_tells : position_fits t s k ≡ true → t.count ≤ k → Unused (job_at s k)
    unfolding position_fits
    past_tells h l = let w = both _ _ h in unused_tells _ w.0 (sym (cond_no _ _ (le-ltb _ _ l)) ∙ w.1)

    pub place-holds : (k < t.count → JobFits (task_at t k) s.tick.0 (job_at s k)) → (t.count ≤ k → Unused (job_at s k)) → position_fits t s k ≡ true
    unfolding position_fits
    place-holds f g = go (dec_lt k t.count)
      where
        go : Dec (k < t.count) → position_fits t s k ≡ true
        go (yes l) = and-true _ _ (stack_holds _ (f l).stack) (cond_yes _ _ (lt-ltb _ _ l) ∙ job_holds _ _ _ (f l))
        go (no q) = let l : t.count ≤ k = omega arith in and-true _ _ (stack_holds _ (g l).stack) (cond_no _ _ (le-ltb _ _ l) ∙ unused-holds _ (g l))

    -- a resource that fits is one of 8
    one_of_8 : (k < t.count → length (task_at t k).limits ≡ 8) → position_fits t s k ≡ true → (r : ℕ) → holds r (held k) ≡ true → r < 8
    one_of_8 e h r q = go (dec_lt k t.count)
      where
        go : Dec (k < t.count) → r < 8
        go (yes l) = holds_one_of_8 (task_at t k) (held k) (e l) (used_tells h l).held r q
        go (no m) = absurd (false≢true (sym (past_tells h (omega arith)).absent.held ∙ on_any _ (held k) q))

  pub places_tells : positions_fit t s ≡ true → (all (position_fits t s) 16 ≡ true) × Once s 16
  unfolding positions_fit
  places_tells h = let w = both (all (position_fits t s) 16) (all (alone s) 16) h in (w.0, once_tells s w.1)

  pub places_hold : all (position_fits t s) 16 ≡ true → Once s 16 → positions_fit t s ≡ true
  unfolding positions_fit
  places_hold h o = simp (h, once_holds s o)

  -- ---- the walk: the places below n fit, no resource is held twice there, and the set has those that are held

  pub record Walked (m n : ℕ) : Type 0 where
    pub within : n ≤ 16
    pub set : m ≡ held_below s n
    pub fits : all (position_fits t s) n ≡ true
    pub once : Once s n

  pub walk_none : Walked 0 0
  unfolding all some set over
  walk_none = record { within = omega arith; set = refl; fits = refl; once = once_none s }

  -- of the job that is read at n
  abbrev pub fitting : ℕ → Job → Bool
  fitting n j = stack_fits j.held && cond (ltb n t.count) (job_fits (task_at t n) s.tick.0 j) (unused j)

  module _ {n : ℕ} (l : n < 16) where
    fitting_is : fitting n (read_at s n) ≡ position_fits t s n
    unfolding position_fits stack_fits job_fits wait_fits started_fits held_fits not_pending_fits unused all some over listed
    fitting_is = read_same (fitting n) refl s n

    pub walk_unfit : fitting n (read_at s n) ≡ false → false ≡ positions_fit t s
    walk_unfit h = no_test _ (λ e. false≢true (sym h ∙ fitting_is ∙ all_tells _ 16 (places_tells e).0 n l))

    module _ {m : ℕ} (w : Walked m n) where
      taken_is : is_taken m (read_at s n).held ≡ is_taken (held_below s n) (held n)
      unfolding any_on some over
      taken_is = read_same (λ j. is_taken m j.held) refl s n ∙ ap (λ (m : ℕ). is_taken m (held n)) w.set

      pub walk_taken : is_taken m (read_at s n).held ≡ true → false ≡ positions_fit t s
      walk_taken h = no_test _ (λ e.
          let v = taken_tells s n (held n) (sym taken_is ∙ h) in
          omega (arith, v.2, (places_tells e).1 v.0 n v.1 (omega (arith, v.2)) l v.3 v.4))

      pub walk_next : {m' : ℕ} → m' ≡ with_held m (read_at s n).held → is_taken m (read_at s n).held ≡ false → fitting n (read_at s n) ≡ true → (n < t.count → length (task_at t n).limits ≡ 8) → Walked m' (n + 1)
      unfolding over
      walk_next i h f e =
          let fit : position_fits t s n ≡ true = sym fitting_is ∙ f in
          record {
            within = omega arith;
            set = i ∙ read_same (λ j. with_held m j.held) refl s n ∙ ap (λ (m : ℕ). with_held m (held n)) w.set ∙ held_next s n (held n) refl;
            fits = sym (all-next (position_fits t s) n (sym w.fits) (sym fit));
            once = once_next s n w.once (λ i r b p q. free_tells s n (held n) (sym taken_is ∙ h) i r (omega (arith, one_of_8 n e fit r q)) b p q);
          }

  pub walk_end : {m n : ℕ} → Walked m n → 16 ≤ n → true ≡ positions_fit t s
  walk_end {m} {n} w l = let e : n ≡ 16 = omega arith in sym (places_hold (rw e at w.fits) (rw e at w.once))
