-- A tick: what it changes, and that it takes its part from what is asked for. Assumes nothing.
use mathlib.Core.Path.{◌≡◌, sym, ◌∙◌, ap}
use mathlib.Core.Bool.{true}
use mathlib.Core.Logic.{◌≢◌}
use Prim.Native.Nat.{ℕ, suc, ◌+◌, ◌-◌, ◌≤◌, ◌<◌}
use native.Mathlib.Decide.{ℕ_discrete}
use native.Mathlib.Omega.{arith}
use Rattle.units.specs.Amounts.{up}
use Rattle.units.proofs.Laws.Sums.{sum-le, sum_less}
use Rattle.units.proofs.Laws.Amounts.{up-some, up_more, up_step}
use Rattle.promise.proofs.Core.Tasks.{Tasks, Fits}
use Rattle.promise.proofs.Core.Demand.{coming, asked_mono, asked_less, coming_mono}
use Rattle.promise.proofs.Core.View.{View, Lawful, early, asks_for, demand, Midway}
use Rattle.promise.proofs.Core.Choice.{Chosen}

-- r had a tick that gave `steps`: from v, in mid-tick, to u
pub record Ticked (tasks : Tasks) (v u : View) (r steps : ℕ) : Type 0 where
  -- the other jobs
  pub same-pending : (k : ℕ) → k ≢ r → u.pending k ≡ v.pending k
  pub same-started : (k : ℕ) → k ≢ r → u.started k ≡ v.started k
  pub same-holds : (k : ℕ) → k ≢ r → u.holds k ≡ v.holds k
  pub same-used : (k : ℕ) → k ≢ r → u.used k ≡ v.used k
  pub same_left : (k x : ℕ) → k ≢ r → u.left k x ≡ v.left k x
  -- the runner, where it goes on
  pub used : u.pending r ≡ true → u.used r ≡ v.used r + steps
  pub less : u.pending r ≡ true → u.used r < tasks.C r
  pub started : u.pending r ≡ true → u.started r ≡ true
  pub left : u.pending r ≡ true → (x : ℕ) → 1 ≤ v.left r x → u.left r x ≤ v.left r x - steps
  -- one tick
  pub distance : (k : ℕ) → u.pending k ≡ true → u.distance k ≡ v.distance k - 1
  pub wait : (k : ℕ) → u.wait k ≡ v.wait k - 1
  pub before : (j k : ℕ) → u.pending j ≡ true → u.pending k ≡ true → u.before j k → v.before j k
  pub mark : u.mark ≡ v.mark
  pub mark_distance : v.mark ≡ true → u.mark_distance ≡ v.mark_distance - 1

-- such a tick, of a table that fits and from a state in mid-tick with the invariant
pub record Closing (tasks : Tasks) (v u : View) (r top steps : ℕ) : Type 0 where
  pub fits : Fits tasks
  pub lawful : Lawful tasks v
  pub lawful_after : Lawful tasks u
  pub chosen : Chosen tasks v v r top steps
  pub ticked : Ticked tasks v u r steps
  pub mid : Midway tasks v

later : (h w x : ℕ) → h - (w - 1 - x) ≤ suc h - (w - x)
later h w x = omega arith

module _ {tasks : Tasks} {v u : View} {r top steps : ℕ} (c : Closing tasks v u r top steps) where
  pub S-some : (k : ℕ) → k < tasks.count → 1 ≤ tasks.S k
  S-some k b = omega (arith, c.fits.I-some k b, c.fits.I-S k b)

  pub r_in : r < tasks.count
  r_in = c.lawful.inside r c.chosen.pending

  pub was : (k : ℕ) → u.pending k ≡ true → v.pending k ≡ true
  was k p = at (ℕ_discrete k r)
    where
      at : Dec (k ≡ r) → v.pending k ≡ true
      at (yes e) = ap v.pending e ∙ c.chosen.pending
      at (no e) = sym (c.ticked.same-pending k e) ∙ p

  pub was_started : (k : ℕ) → u.started k ≡ true → v.started k ≡ true
  was_started k p = at (ℕ_discrete k r)
    where
      at : Dec (k ≡ r) → v.started k ≡ true
      at (yes e) = ap v.started e ∙ c.chosen.started
      at (no e) = sym (c.ticked.same-started k e) ∙ p

  -- how far a job that is still there was
  pub was_distance : (k : ℕ) → u.pending k ≡ true → v.distance k ≡ suc (u.distance k)
  was_distance k p = omega (arith, c.ticked.distance k p, c.mid.numbers.distance_some k (was k p))

  more-used : (k : ℕ) → u.pending k ≡ true → v.used k ≤ u.used k
  more-used k p = at (ℕ_discrete k r)
    where
      at : Dec (k ≡ r) → v.used k ≤ u.used k
      at (yes e) = omega (arith, ap v.used e, ap u.used e, c.ticked.used (ap u.pending (sym e) ∙ p))
      at (no e) = omega (arith, c.ticked.same-used k e)

  later_here : (w : ℕ → ℕ) (k h : ℕ) → k < tasks.count →
      coming (up (tasks.C k) (w k)) (early tasks u k) (tasks.D k) h ≤ coming (up (tasks.C k) (w k)) (early tasks v k) (tasks.D k) (suc h)
  unfolding early
  later_here w k h b =
      coming_mono _ _ _ _ _ _ (c.fits.D-some k b) (rw (c.ticked.wait k) (later h (v.wait k) (tasks.T k - tasks.D k)))

  asks_le : (w : ℕ → ℕ) (k h : ℕ) → 1 ≤ w k → k < tasks.count → asks_for tasks u w k h ≤ asks_for tasks v w k (suc h)
  unfolding asks_for
  asks_le w k h a b =
      omega (
        arith,
        later_here w k h b,
        asked_mono (u.pending k) (v.pending k) (u.distance k) h (up (tasks.C k - u.used k) (w k)) (v.distance k) (suc h) (up (tasks.C k - v.used k) (w k))
            (λ p d. (was k p, omega (arith, was_distance k p), up_more _ _ _ a (omega (arith, more-used k p)))),
      )

  -- the runner's own part falls by one at least, where it is due by then and runs at w or faster
  asks_less : (w : ℕ → ℕ) (h : ℕ) → 1 ≤ w r → w r ≤ steps → v.distance r ≤ suc h → asks_for tasks u w r h + 1 ≤ asks_for tasks v w r (suc h)
  unfolding asks_for
  asks_less w h a f d =
      omega (
        arith,
        later_here w r h r_in,
        asked_less (u.pending r) (v.pending r) (u.distance r) h (up (tasks.C r - u.used r) (w r)) (v.distance r) (suc h) (up (tasks.C r - v.used r) (w r))
            c.chosen.pending d (up-some (tasks.C r - v.used r) (w r) a left) falls,
      )
    where
      left : 1 ≤ tasks.C r - v.used r
      left = omega (arith, c.mid.numbers.used-C r c.chosen.pending)

      falls : u.pending r ≡ true → up (tasks.C r - u.used r) (w r) + 1 ≤ up (tasks.C r - v.used r) (w r)
      falls p =
          let rest : tasks.C r - u.used r ≡ tasks.C r - v.used r - steps = omega (arith, c.ticked.used p) in
          rw rest (up_step (tasks.C r - v.used r) steps (w r) a f left)

  pub demand_le : (w : ℕ → ℕ) (h : ℕ) → ((k : ℕ) → k < tasks.count → 1 ≤ w k) → demand tasks u w h ≤ demand tasks v w (suc h)
  unfolding demand
  demand_le w h a = sum-le _ _ tasks.count (λ k b. asks_le w k h (a k b) b)

  pub demand_less : (w : ℕ → ℕ) (h : ℕ) → ((k : ℕ) → k < tasks.count → 1 ≤ w k) → w r ≤ steps → v.distance r ≤ suc h → demand tasks u w h + 1 ≤ demand tasks v w (suc h)
  unfolding demand
  demand_less w h a f d = sum_less _ _ tasks.count r r_in (λ k b. asks_le w k h (a k b) b) (asks_less w h (a r r_in) f d)
