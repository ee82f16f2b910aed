-- What the proof asks of a choice, and that such a choice keeps the invariant. Assumes nothing.
use mathlib.Core.Path.{◌≡◌, sym, ◌∙◌, ap, subst}
use mathlib.Core.Bool.{true, false}
use mathlib.Core.Logic.{◌⊎◌, inl, inr, ◌≢◌}
use Prim.Native.Nat.{ℕ, ◌≤◌, ◌<◌}
use native.Mathlib.Decide.{dec_le, ℕ_discrete}
use native.Mathlib.Omega.{arith}
use Rattle.units.proofs.Laws.Folds.{sum_same}
use Rattle.promise.proofs.Core.Tasks.{Tasks}
use Rattle.promise.proofs.Core.Demand.{clash}
use Rattle.promise.proofs.Core.View.{View, Lawful, Numbers, early, asks_for, demand, Shorter, Clear, Beyond, Room, none_due, at-I, at-S, Midway}

-- no other job holds what top may need
abbrev pub Free : Tasks → View → ℕ → Type 0
Free tasks v top = (g : ℕ) → v.pending g ≡ true → g ≢ top → v.left g (tasks.D top) ≡ 0

-- top is not started, a holder has what it may need, and r is the first started job
pub record Blocked (tasks : Tasks) (v : View) (r top : ℕ) : Type 0 where
  pub fresh : v.started top ≡ false
  pub holder : ℕ
  pub holder-pending : v.pending holder ≡ true
  pub holder-other : holder ≢ top
  pub holder-left : 1 ≤ v.left holder (tasks.D top)
  pub started : v.started r ≡ true
  pub first : (f : ℕ) → v.started f ≡ true → (f ≡ r) ⊎ v.before r f

-- the mark after the choice, and the speed under it
pub record Marked (tasks : Tasks) (v u : View) (r top steps : ℕ) : Type 0 where
  pub speed : tasks.S r ≤ steps
  pub stands : u.mark ≡ true
  pub old : v.mark ≡ true → v.mark_distance ≤ u.mark_distance
  pub holders : (b : ℕ) → v.holds b ≡ true → v.before r b → v.distance b ≤ u.mark_distance
  pub runner : r ≢ top → v.distance r ≤ u.mark_distance

-- The choice, from v to u: r runs, and its tick gives `steps`.
pub record Chosen (tasks : Tasks) (v u : View) (r top steps : ℕ) : Type 0 where
  -- the runner is pending; it is started afterwards, and nothing else changes
  pub pending : v.pending r ≡ true
  pub started : u.started r ≡ true
  pub same-started : (k : ℕ) → k ≢ r → u.started k ≡ v.started k
  pub same-pending : (k : ℕ) → u.pending k ≡ v.pending k
  pub same-holds : (k : ℕ) → u.holds k ≡ v.holds k
  pub same-distance : (k : ℕ) → u.distance k ≡ v.distance k
  pub same-used : (k : ℕ) → u.used k ≡ v.used k
  pub same-wait : (k : ℕ) → u.wait k ≡ v.wait k
  pub same_left : (k x : ℕ) → u.left k x ≡ v.left k x
  pub same-before : (j k : ℕ) → u.before j k → v.before j k
  -- it is top, and top is started or nobody is in its way; or top is blocked, and it is the first started job
  pub top-pending : v.pending top ≡ true
  pub top-first : (j : ℕ) → v.pending j ≡ true → (j ≡ top) ⊎ v.before top j
  pub who : ((r ≡ top) × ((v.started top ≡ true) ⊎ Free tasks v top)) ⊎ Blocked tasks v r top
  -- the tick gives no less than one at I
  pub slow : tasks.I r ≤ steps
  -- over a holder, over the mark, or not top: it gives no less than one at S, and a mark stands afterwards that is not before any of these
  pub marked : (r ≢ top) ⊎ (((b : ℕ) × (v.holds b ≡ true) × v.before r b) ⊎ ((v.mark ≡ true) × (v.distance r < v.mark_distance))) →
      Marked tasks v u r top steps
  -- not top: it gives no less than one at S of any task between a job ahead and the runner
  pub fast : r ≢ top → (j level : ℕ) → v.pending j ≡ true → v.before j r → level < tasks.count → tasks.D j ≤ tasks.D level → tasks.D level ≤ tasks.D r → tasks.S level ≤ steps

module _ {tasks : Tasks} {v u : View} (l : Lawful tasks v) {r top steps : ℕ} (chosen : Chosen tasks v u r top steps) where
  -- no job is nearer than top
  pub nearest : (j : ℕ) → v.pending j ≡ true → v.distance top ≤ v.distance j
  nearest j p = at (chosen.top-first j p)
    where
      at : (j ≡ top) ⊎ v.before top j → v.distance top ≤ v.distance j
      at (inl e) = omega (arith, ap v.distance e)
      at (inr o) = l.near top j chosen.top-pending p o

  -- nothing is before top
  pub none_before : (j : ℕ) → v.pending j ≡ true → v.before j top → ⊥
  none_before j p o = at (chosen.top-first j p)
    where
      at : (j ≡ top) ⊎ v.before top j → ⊥
      at (inl e) = let z : v.before top top = subst (λ x. v.before x top) e o in l.once top top chosen.top-pending chosen.top-pending z z
      at (inr z) = l.once j top p chosen.top-pending o z

  -- the runner is the first started job, once it is started
  pub runner-first : (f : ℕ) → u.started f ≡ true → v.pending f ≡ true → (f ≡ r) ⊎ v.before r f
  runner-first f t p = at (ℕ_discrete f r) chosen.who
    where
      at : Dec (f ≡ r) → ((r ≡ top) × ((v.started top ≡ true) ⊎ Free tasks v top)) ⊎ Blocked tasks v r top → (f ≡ r) ⊎ v.before r f
      at (yes e) _ = inl e
      at (no e) (inl w) = by (chosen.top-first f p)
        where
          by : (f ≡ top) ⊎ v.before top f → (f ≡ r) ⊎ v.before r f
          by (inl x) = inl (x ∙ sym w.0)
          by (inr o) = inr (subst (λ x. v.before x f) (sym w.0) o)
      at (no e) (inr w) = w.first f (sym (chosen.same-started f e) ∙ t)

  -- who was started, or is top and was not blocked
  before_that : (b : ℕ) → u.started b ≡ true → (v.started b ≡ true) ⊎ ((b ≡ top) × Free tasks v top)
  before_that b t = at (ℕ_discrete b r) chosen.who
    where
      at : Dec (b ≡ r) → ((r ≡ top) × ((v.started top ≡ true) ⊎ Free tasks v top)) ⊎ Blocked tasks v r top → (v.started b ≡ true) ⊎ ((b ≡ top) × Free tasks v top)
      at (no e) _ = inl (sym (chosen.same-started b e) ∙ t)
      at (yes e) (inl (same, inl s)) = inl (ap v.started (e ∙ same) ∙ s)
      at (yes e) (inl (same, inr s)) = inr (e ∙ same, s)
      at (yes e) (inr w) = inl (ap v.started e ∙ w.started)

  -- a started job is pending
  is-there : (b : ℕ) → u.started b ≡ true → v.pending b ≡ true
  is-there b t = at (before_that b t)
    where
      at : (v.started b ≡ true) ⊎ ((b ≡ top) × Free tasks v top) → v.pending b ≡ true
      at (inl s) = l.started-pending b s
      at (inr w) = ap v.pending w.0 ∙ chosen.top-pending

  -- who is not started was not
  not_yet : (j : ℕ) → u.started j ≡ false → v.started j ≡ false
  not_yet j t = at (ℕ_discrete j r)
    where
      at : Dec (j ≡ r) → v.started j ≡ false
      at (yes e) = clash chosen.started (ap u.started (sym e) ∙ t)
      at (no e) = sym (chosen.same-started j e) ∙ t

  demand_same : (w : ℕ → ℕ) (h : ℕ) → demand tasks u w h ≡ demand tasks v w h
  unfolding demand asks_for early
  demand_same w h = sum_same _ _ tasks.count (λ k b. rw (chosen.same-pending k, chosen.same-distance k, chosen.same-used k, chosen.same-wait k))

  keep_shorter : Shorter tasks v → Shorter tasks u
  keep_shorter n j f p q t o = at (before_that f t)
    where
      a : v.pending j ≡ true
      a = sym (chosen.same-pending j) ∙ p

      at : (v.started f ≡ true) ⊎ ((f ≡ top) × Free tasks v top) → tasks.D j < tasks.D f
      at (inl s) = n j f a (not_yet j q) s (chosen.same-before j f o)
      at (inr w) = absurd (none_before j a (subst (v.before j) w.0 (chosen.same-before j f o)))

  keep_clear : Clear tasks v → Clear tasks u
  keep_clear k f g t z o = chosen.same_left g (tasks.D f) ∙ at (before_that f t) (before_that g z)
    where
      o₁ : v.before f g
      o₁ = chosen.same-before f g o

      at : (v.started f ≡ true) ⊎ ((f ≡ top) × Free tasks v top) → (v.started g ≡ true) ⊎ ((g ≡ top) × Free tasks v top) → v.left g (tasks.D f) ≡ 0
      at (inl s) (inl x) = k f g s x o₁
      at (inr w) (inl x) =
          ap (λ y. v.left g (tasks.D y)) w.0 ∙
          w.1 g (l.started-pending g x) (λ e. none_before f (is-there f t) (subst (v.before f) e o₁))
      at _ (inr w) = absurd (none_before f (is-there f t) (subst (v.before f) w.0 o₁))

  keep_room : (h : ℕ) → Room tasks v h → Room tasks u h
  keep_room h (none_due e) = none_due (λ j p. omega (arith, chosen.same-distance j, e j (sym (chosen.same-pending j) ∙ p)))
  keep_room h (at-I e) =
      at-I
      (record {
        free = λ b p. omega (arith, chosen.same-distance b, e.free b (sym (chosen.same-holds b) ∙ p));
        room = omega (arith, demand_same tasks.I h, e.room);
      })
  keep_room h (at-S e) = at (dec_le (v.distance top) h)
    where
      at : Dec (v.distance top ≤ h) → Room tasks u h
      at (no d) = none_due (λ j p. omega (arith, chosen.same-distance j, nearest j (sym (chosen.same-pending j) ∙ p)))
      at (yes d) =
          at-S
          (record {
            level = e.level;
            blocking = e.blocking;
            level_in = e.level_in;
            room = omega (arith, demand_same tasks.S h, e.room);
            come = e.come;
            here = λ j p x. e.here j (sym (chosen.same-pending j) ∙ p) (omega (arith, chosen.same-distance j));
            above = λ b t x. e.above b (behind b t x) (omega (arith, chosen.same-distance b));
            within = λ b t x. rw chosen.same_left (e.within b (behind b t x) (omega (arith, chosen.same-distance b)));
            beyond = beyond e.beyond;
          })
        where
          -- a started job beyond h is not top
          behind : (b : ℕ) → u.started b ≡ true → h < u.distance b → v.started b ≡ true
          behind b t x = by (before_that b t)
            where
              by : (v.started b ≡ true) ⊎ ((b ≡ top) × Free tasks v top) → v.started b ≡ true
              by (inl s) = s
              by (inr w) = absurd (omega (arith, ap v.distance w.0, chosen.same-distance b))

          beyond : Beyond v h → Beyond u h
          beyond (inl w) = inl (w.0, chosen.same-holds w.0 ∙ w.1, omega (arith, chosen.same-distance w.0))
          beyond (inr w) = inr (mk.stands, omega (arith, mk.old w.0))
            where
              by : ((r ≡ top) × ((v.started top ≡ true) ⊎ Free tasks v top)) ⊎ Blocked tasks v r top → Marked tasks v u r top steps
              by (inl x) = chosen.marked (inr (inr (w.0, omega (arith, ap v.distance x.0))))
              by (inr x) = chosen.marked (inl (λ y. clash x.started (ap v.started y ∙ x.fresh)))

              mk : Marked tasks v u r top steps
              mk = by chosen.who

  keep_numbers : Numbers tasks v → Numbers tasks u
  keep_numbers c =
      record {
        distance_some = λ k p. omega (arith, c.distance_some k (sym (chosen.same-pending k) ∙ p), chosen.same-distance k);
        distance-D = λ k p. omega (arith, c.distance-D k (sym (chosen.same-pending k) ∙ p), chosen.same-distance k);
        used-C = λ k p. omega (arith, c.used-C k (sym (chosen.same-pending k) ∙ p), chosen.same-used k);
        wait-is = λ k p. omega (arith, c.wait-is k (sym (chosen.same-pending k) ∙ p), chosen.same-distance k, chosen.same-wait k);
      }

  pub choose : Midway tasks v → Midway tasks u
  choose mid = record { numbers = keep_numbers mid.numbers; shorter = keep_shorter mid.shorter; clear = keep_clear mid.clear; room = λ h. keep_room h (mid.room h) }
