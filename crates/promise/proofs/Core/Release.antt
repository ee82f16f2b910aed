-- A release keeps the invariant: what a task may ask for does not change, and a job that is due first finds the room that the tests left. Assumes nothing.
use mathlib.Core.Path.{◌≡◌, refl, sym, ◌∙◌, ap, subst}
use mathlib.Core.Bool.{true, false}
use mathlib.Core.Logic.{◌⊎◌, inl, inr, ◌≢◌}
use Prim.Native.Nat.{ℕ, ◌+◌, ◌*◌, ◌-◌, ◌/◌, ◌≤◌, ◌<◌}
use native.Mathlib.Decide.{dec_le, dec_lt, ℕ_discrete}
use native.Mathlib.Omega.{arith}
use Rattle.units.specs.Folds.{sum}
use Rattle.units.specs.Amounts.{up}
use Rattle.units.proofs.Laws.Folds.{sum_same}
use Rattle.units.proofs.Laws.Sums.{sum-le, find, last}
use Rattle.units.proofs.Laws.Amounts.{up_more}
use Rattle.promise.proofs.Core.Tasks.{Tasks, Fits}
use Rattle.promise.proofs.Core.Demand.{asked_out, coming_all, taken-on, true-or-false, clash}
use Rattle.promise.proofs.Core.View.{View, Lawful, Numbers, Same, early, asks_for, demand, Shorter, Clear, Nearer, Beyond, NoneDue, AtS, Room, none_due, at-I, at-S, Between}

-- r is released: from v to u
pub record Released (tasks : Tasks) (v u : View) (r : ℕ) : Type 0 where
  pub inside : r < tasks.count
  pub ready : v.wait r ≡ 0
  pub pending : u.pending r ≡ true
  pub started : u.started r ≡ false
  pub distance : u.distance r ≡ tasks.D r
  pub used : u.used r ≡ 0
  pub wait : u.wait r ≡ tasks.T r
  pub same : (k : ℕ) → k ≢ r → Same v u k
  pub before : (j k : ℕ) → j ≢ r → k ≢ r → u.before j k → v.before j k
  pub mark : u.mark ≡ v.mark
  pub mark_distance : u.mark_distance ≡ v.mark_distance

module _ {tasks : Tasks} (fits : Fits tasks) {v u : View} (l : Lawful tasks v) (m : Lawful tasks u) {r : ℕ} (released : Released tasks v u r) (between : Between tasks v) where
  -- no job of r was pending
  idle : v.pending r ≡ false
  idle = at (true-or-false (v.pending r))
    where
      at : (v.pending r ≡ true) ⊎ (v.pending r ≡ false) → v.pending r ≡ false
      at (inl p) = absurd (omega (arith, between.midway.numbers.wait-is r p, between.midway.numbers.distance_some r p, released.ready))
      at (inr p) = p

  -- a job is the new one, or it was there
  old : (k : ℕ) → (k ≡ r) ⊎ (k ≢ r)
  old k = at (ℕ_discrete k r)
    where
      at : Dec (k ≡ r) → (k ≡ r) ⊎ (k ≢ r)
      at (yes e) = inl e
      at (no e) = inr e

  asks_same : (w : ℕ → ℕ) (k h : ℕ) → k < tasks.count → asks_for tasks u w k h ≡ asks_for tasks v w k h
  unfolding asks_for early
  asks_same w k h b = at (old k)
    where
      new : asks_for tasks u w r h ≡ asks_for tasks v w r h
      new =
          let whole : tasks.C r - 0 ≡ tasks.C r = omega arith in
          let length : tasks.T r - (tasks.T r - tasks.D r) ≡ tasks.D r = omega (arith, fits.D_T r released.inside) in
          let nothing : 0 - (tasks.T r - tasks.D r) ≡ 0 = omega arith in
          rw (released.pending, released.distance, released.used, released.wait, released.ready, idle, whole, length, nothing)
          (omega (
            arith,
            taken-on (up (tasks.C r) (w r)) (tasks.D r) h (fits.D-some r released.inside),
            asked_out false (v.distance r) h (up (tasks.C r - v.used r) (w r)) (λ f. clash f refl),
          ))

      at : (k ≡ r) ⊎ (k ≢ r) → asks_for tasks u w k h ≡ asks_for tasks v w k h
      at (inl e) = subst (λ x. asks_for tasks u w x h ≡ asks_for tasks v w x h) (sym e) new
      at (inr e) = let s : Same v u k = released.same k e in rw (s.pending, s.distance, s.used, s.wait)

  demand_same : (w : ℕ → ℕ) (h : ℕ) → demand tasks u w h ≡ demand tasks v w h
  unfolding demand
  demand_same w h = sum_same _ _ tasks.count (λ k b. asks_same w k h b)

  -- with no job due by h, what can still be released
  all_new : (w : ℕ → ℕ) (h : ℕ) → NoneDue v h → demand tasks v w h ≤ sum (λ k. up (tasks.C k) (w k) * (h / tasks.D k)) tasks.count
  unfolding demand asks_for
  all_new w h e =
      sum-le _ _ tasks.count
      (λ k b.
      omega (
        arith,
        asked_out (v.pending k) (v.distance k) h (up (tasks.C k - v.used k) (w k)) (e k),
        coming_all (up (tasks.C k) (w k)) (early tasks v k) (tasks.D k) h (fits.D-some k b),
      ))

  -- a started job is not the new one
  was : (k : ℕ) → u.started k ≡ true → Same v u k
  was k p = at (old k)
    where
      at : (k ≡ r) ⊎ (k ≢ r) → Same v u k
      at (inl e) = clash (ap u.started (sym e) ∙ p) released.started
      at (inr e) = released.same k e

  -- what held of every pending job, and of the new one, holds of every pending job
  each : (P : ℕ → Type 0) → P r → ((k : ℕ) → Same v u k → v.pending k ≡ true → P k) → (k : ℕ) → u.pending k ≡ true → P k
  each P x f k p = at (old k)
    where
      at : (k ≡ r) ⊎ (k ≢ r) → P k
      at (inl e) = subst P (sym e) x
      at (inr e) = f k (released.same k e) (sym (released.same k e).pending ∙ p)

  beyond_on : (h : ℕ) → Beyond v h → Beyond u h
  beyond_on h (inl w) = at (old w.0)
    where
      at : (w.0 ≡ r) ⊎ (w.0 ≢ r) → Beyond u h
      at (inl e) = clash (l.started-pending _ (l.holds-started _ w.1)) (ap v.pending e ∙ idle)
      at (inr e) =
          let s : Same v u w.0 = released.same w.0 e in
          inl (w.0, s.holds ∙ w.1, omega (arith, s.distance))
  beyond_on h (inr w) = inr (released.mark ∙ w.0, omega (arith, released.mark_distance))

  S-some : (k : ℕ) → k < tasks.count → 1 ≤ tasks.S k
  S-some k b = omega (arith, fits.I-some k b, fits.I-S k b)

  -- no job was due by h, and the new one is
  first : (h : ℕ) → NoneDue v h → tasks.D r ≤ h → Room tasks u h
  first h e a = at (find (λ k. (v.holds k ≡ true) × (h < v.distance k)) beyond? tasks.count)
    where
      beyond? : (k : ℕ) → Dec ((v.holds k ≡ true) × (h < v.distance k))
      beyond? k = by (true-or-false (v.holds k)) (dec_lt h (v.distance k))
        where
          by : (v.holds k ≡ true) ⊎ (v.holds k ≡ false) → Dec (h < v.distance k) → Dec ((v.holds k ≡ true) × (h < v.distance k))
          by (inl p) (yes b) = yes (p, b)
          by (inl p) (no b) = no (λ z. b z.1)
          by (inr p) b = no (λ z. clash z.0 p)

      at : ((k : ℕ) × (k < tasks.count) × ((v.holds k ≡ true) × (h < v.distance k))) ⊎
          ((k : ℕ) → k < tasks.count → ¬ ((v.holds k ≡ true) × (h < v.distance k))) → Room tasks u h
      at (inl w) = at-S (block (last (λ k. tasks.D k ≤ h) (λ k. dec_le (tasks.D k) h) tasks.count r released.inside a))
        where
          block : (k : ℕ) × (k < tasks.count) × (tasks.D k ≤ h) × ((j : ℕ) → k < j → j < tasks.count → ¬ (tasks.D j ≤ h)) → AtS tasks u h
          block z =
              record {
                level = z.0;
                blocking = up (tasks.B z.0) (tasks.S z.0);
                level_in = z.1;
                room =
                    omega
                    (arith, demand_same tasks.S h, all_new tasks.S h e, fits.synchronization h z.0 z.1 z.2 (λ j a₁ b₁. omega (arith, z.3 j a₁ b₁)));
                come = come;
                here = each (λ j. u.distance j ≤ h → tasks.D j ≤ tasks.D z.0) (λ _. come r released.inside a) (λ j s p d. omega (arith, e j p, s.distance));
                above = above;
                within = λ b p d.
                    up_more _ _ _ (S-some z.0 z.1) (m.left-limit b z.0 (m.started-pending b p) z.1 (above b p d));
                beyond = beyond_on h (inl (w.0, w.2.0, w.2.1));
              }
            where
              come : (j : ℕ) → j < tasks.count → tasks.D j ≤ h → tasks.D j ≤ tasks.D z.0
              come j b d = by (dec_le j z.0)
                where
                  by : Dec (j ≤ z.0) → tasks.D j ≤ tasks.D z.0
                  by (yes x) = fits.D_rises j z.0 x z.1
                  by (no x) = absurd (z.3 j (omega arith) b d)

              above : (b : ℕ) → u.started b ≡ true → h < u.distance b → tasks.D z.0 < tasks.D b
              above b p d =
                  let s : Same v u b = was b p in
                  omega (arith, between.midway.numbers.distance-D b (l.started-pending b (sym s.started ∙ p)), s.distance)
      at (inr w) =
          at-I
          (record {
            free = λ b p. free b p (was b (m.holds-started b p));
            room = omega (arith, demand_same tasks.I h, all_new tasks.I h e, fits.independent h);
          })
        where
          free : (b : ℕ) → u.holds b ≡ true → Same v u b → u.distance b ≤ h
          free b p s = by (dec_le (u.distance b) h)
            where
              q : v.holds b ≡ true
              q = sym s.holds ∙ p

              by : Dec (u.distance b ≤ h) → u.distance b ≤ h
              by (yes x) = x
              by (no x) = absurd (w b (l.inside b (l.started-pending b (l.holds-started b q))) (q, omega (arith, s.distance)))

  keep_room : (h : ℕ) → Room tasks v h → Room tasks u h
  keep_room h (none_due e) = at (dec_le (tasks.D r) h)
    where
      at : Dec (tasks.D r ≤ h) → Room tasks u h
      at (yes a) = first h e a
      at (no a) = none_due (each (λ k. h < u.distance k) (omega (arith, released.distance)) (λ k s p. omega (arith, e k p, s.distance)))
  keep_room h (at-I e) =
      at-I
      (record {
        free = λ b p.
            let s : Same v u b = was b (m.holds-started b p) in
            omega (arith, e.free b (sym s.holds ∙ p), s.distance);
        room = omega (arith, e.room, demand_same tasks.I h);
      })
  keep_room h (at-S e) =
      at-S
      (record {
        level = e.level;
        blocking = e.blocking;
        level_in = e.level_in;
        room = omega (arith, e.room, demand_same tasks.S h);
        come = e.come;
        here =
            each (λ j. u.distance j ≤ h → tasks.D j ≤ tasks.D e.level)
            (λ d. e.come r released.inside (omega (arith, released.distance)))
            (λ j s p d. e.here j p (omega (arith, s.distance)));
        above = λ b p d.
            let s : Same v u b = was b p in
            e.above b (sym s.started ∙ p) (omega (arith, s.distance));
        within = λ b p d.
            let s : Same v u b = was b p in
            rw s.left (e.within b (sym s.started ∙ p) (omega (arith, s.distance)));
        beyond = beyond_on h e.beyond;
      })

  -- the new job, ahead of a started one, has the shorter D
  keep_shorter : Shorter tasks u
  keep_shorter j f p q t o =
      each (λ k. u.started k ≡ false → u.before k f → tasks.D k < tasks.D f) new (λ k s a b. there k s a b) j p q o
    where
      s : Same v u f
      s = was f t

      g : v.started f ≡ true
      g = sym s.started ∙ t

      new : u.started r ≡ false → u.before r f → tasks.D r < tasks.D f
      new b o₁ = omega (arith, between.nearer f g, m.near r f released.pending (m.started-pending f t) o₁, released.distance, s.distance)

      there : (k : ℕ) → Same v u k → v.pending k ≡ true → u.started k ≡ false → u.before k f → tasks.D k < tasks.D f
      there k z a b o₁ =
          between.midway.shorter k f a (sym z.started ∙ b) g
          (released.before k f (λ x. clash a (ap v.pending x ∙ idle)) (λ x. clash (ap u.started (sym x) ∙ t) released.started) o₁)

  -- a started job is not r
  other : (f : ℕ) → u.started f ≡ true → f ≢ r
  other f t x = clash (ap u.started (sym x) ∙ t) released.started

  keep_clear : Clear tasks u
  keep_clear f g t z o =
      (was g z).left (tasks.D f) ∙
      between.midway.clear f g (sym (was f t).started ∙ t) (sym (was g z).started ∙ z) (released.before f g (other f t) (other g z) o)

  keep_nearer : Nearer tasks u
  keep_nearer f t = omega (arith, between.nearer f (sym (was f t).started ∙ t), (was f t).distance)

  keep_numbers : Numbers tasks u
  keep_numbers =
      record {
        distance_some = each (λ k. 1 ≤ u.distance k) (omega (arith, released.distance, fits.D-some r released.inside)) (λ k s p. omega (arith, between.midway.numbers.distance_some k p, s.distance));
        distance-D = each (λ k. u.distance k ≤ tasks.D k) (omega (arith, released.distance)) (λ k s p. omega (arith, between.midway.numbers.distance-D k p, s.distance));
        used-C = each (λ k. u.used k < tasks.C k) (omega (arith, released.used, fits.C-some r released.inside)) (λ k s p. omega (arith, between.midway.numbers.used-C k p, s.used));
        wait-is =
            each (λ k. u.wait k ≡ u.distance k + (tasks.T k - tasks.D k)) (omega (arith, released.wait, released.distance, fits.D_T r released.inside))
            (λ k s p. omega (arith, between.midway.numbers.wait-is k p, s.wait, s.distance));
      }

  pub release : Between tasks u
  release =
      record {
        midway = record { numbers = keep_numbers; shorter = keep_shorter; clear = keep_clear; room = λ h. keep_room h (between.midway.room h) };
        nearer = keep_nearer;
      }
