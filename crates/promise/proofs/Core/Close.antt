-- A tick keeps the invariant: the room within h + 1 before it is room within h after it. Assumes nothing.
use mathlib.Core.Path.{◌≡◌, refl, sym, ◌∙◌, ap, subst}
use mathlib.Core.Bool.{true}
use mathlib.Core.Logic.{◌⊎◌, inl, inr, ◌≢◌}
use Prim.Native.Nat.{ℕ, zero, suc, ◌-◌, ◌≤◌, ◌<◌}
use native.Mathlib.Decide.{dec_le, ℕ_discrete}
use native.Mathlib.Omega.{arith}
use Rattle.units.specs.Amounts.{up}
use Rattle.units.proofs.Laws.Sums.{sum_term}
use Rattle.units.proofs.Laws.Amounts.{up-zero, up-some, up_more, up_step}
use Rattle.promise.proofs.Core.Tasks.{Tasks}
use Rattle.promise.proofs.Core.Demand.{asked_in, clash}
use Rattle.promise.proofs.Core.View.{View, Numbers, asks_for, demand, Shorter, Clear, Nearer, Beyond, AtI, AtS, Room, none_due, at-I, at-S, Between}
use Rattle.promise.proofs.Core.Choice.{Free, Blocked, Marked, nearest, runner-first}
use Rattle.promise.proofs.Core.Stack.{ahead, runner_blocks}
use Rattle.promise.proofs.Core.Tick.{Closing, S-some, was, was_started, was_distance, demand_le, demand_less}

module _ {tasks : Tasks} {v u : View} {r top steps : ℕ} (c : Closing tasks v u r top steps) where
  -- the mark, one tick on
  marked_beyond : (h : ℕ) → v.mark ≡ true → suc h < v.mark_distance → Beyond u h
  marked_beyond h p a = inr (c.ticked.mark ∙ p, omega (arith, c.ticked.mark_distance p))

  -- no job is due by then
  nobody_due : (h : ℕ) → suc h < v.distance top → Room tasks u h
  nobody_due h a = none_due (λ j p. omega (arith, was_distance c j p, nearest c.lawful c.chosen j (was c j p)))

  at-I_on : (h : ℕ) → AtI tasks v (suc h) → v.distance top ≤ suc h → Room tasks u h
  at-I_on h e d = at-I (record { free = free; room = omega (arith, e.room, demand_less c tasks.I h c.fits.I-some c.chosen.slow due) })
    where
      by : ((r ≡ top) × ((v.started top ≡ true) ⊎ Free tasks v top)) ⊎ Blocked tasks v r top → v.distance r ≤ suc h
      by (inl w) = omega (arith, ap v.distance w.0)
      by (inr w) = at (w.first w.holder (c.lawful.holds-started w.holder holds))
        where
          holds : v.holds w.holder ≡ true
          holds = c.lawful.left-holds w.holder (tasks.D top) w.holder-left

          at : (w.holder ≡ r) ⊎ v.before r w.holder → v.distance r ≤ suc h
          at (inl x) = omega (arith, ap v.distance x, e.free w.holder holds)
          at (inr o) = omega (arith, c.lawful.near r w.holder c.chosen.pending w.holder-pending o, e.free w.holder holds)

      due : v.distance r ≤ suc h
      due = by c.chosen.who

      free : (b : ℕ) → u.holds b ≡ true → u.distance b ≤ h
      free b p = at (ℕ_discrete b r)
        where
          there : u.pending b ≡ true
          there = c.lawful_after.started-pending b (c.lawful_after.holds-started b p)

          at : Dec (b ≡ r) → u.distance b ≤ h
          at (yes x) = omega (arith, was_distance c b there, ap v.distance x, due)
          at (no x) = omega (arith, was_distance c b there, e.free b (sym (c.ticked.same-holds b x) ∙ p))

  -- the runner is due by then
  at-S_near : (h : ℕ) → AtS tasks v (suc h) → v.distance r ≤ suc h → Room tasks u h
  at-S_near h e d = by e.beyond
    where
      go : Marked tasks v v r top steps → suc h < v.mark_distance → Room tasks u h
      go mk a =
          at-S
          (record {
            level = e.level;
            blocking = e.blocking;
            level_in = e.level_in;
            room = omega (arith, e.room, demand_less c tasks.S h (S-some c) mk.speed d);
            come = λ j b x. e.come j b (omega arith);
            here = λ j p x. e.here j (was c j p) (omega (arith, was_distance c j p));
            above = λ b t x. e.above b (was_started c b t) (beyond b t x);
            within = λ b t x.
                rw (c.ticked.same_left b (tasks.D e.level) (λ y. omega (arith, ap v.distance y, beyond b t x)))
                (e.within b (was_started c b t) (beyond b t x));
            beyond = marked_beyond h mk.stands a;
          })
        where
          beyond : (b : ℕ) → u.started b ≡ true → h < u.distance b → suc h < v.distance b
          beyond b t x = omega (arith, was_distance c b (c.lawful_after.started-pending b t))

      by : Beyond v (suc h) → Room tasks u h
      by (inl w) = go mk (omega (arith, mk.holders w.0 w.1 o, w.2))
        where
          there : v.pending w.0 ≡ true
          there = c.lawful.started-pending w.0 (c.lawful.holds-started w.0 w.1)

          at : (r ≡ w.0) ⊎ (v.before r w.0 ⊎ v.before w.0 r) → v.before r w.0
          at (inl x) = absurd (omega (arith, ap v.distance x, w.2))
          at (inr (inl x)) = x
          at (inr (inr x)) = absurd (omega (arith, c.lawful.near w.0 r there c.chosen.pending x, w.2))

          o : v.before r w.0
          o = at (c.lawful.either r w.0 c.chosen.pending there)

          mk : Marked tasks v v r top steps
          mk = c.chosen.marked (inr (inl (w.0, w.1, o)))
      by (inr w) = go (c.chosen.marked (inr (inr (w.0, omega (arith, w.1))))) w.1

  -- the runner is not: it blocks top
  behind_h : (h : ℕ) → AtS tasks v (suc h) → v.distance top ≤ suc h → suc h < v.distance r → Blocked tasks v r top → Room tasks u h
  behind_h h e d a w =
      at-S
      (record {
        level = e.level;
        blocking = e.blocking - 1;
        level_in = e.level_in;
        room = omega (arith, e.room, demand_le c tasks.S h (S-some c), some);
        come = λ j b x. e.come j b (omega arith);
        here = λ j p x. e.here j (was c j p) (omega (arith, was_distance c j p));
        above = λ b t x. e.above b (was_started c b t) (omega (arith, was_distance c b (c.lawful_after.started-pending b t)));
        within = within;
        beyond = marked_beyond h mk.stands (omega (arith, mk.runner not_top));
      })
    where
      not_top : r ≢ top
      not_top x = clash w.started (ap v.started x ∙ w.fresh)

      mk : Marked tasks v v r top steps
      mk = c.chosen.marked (inl not_top)

      low : tasks.D top ≤ tasks.D e.level
      low = e.here top c.chosen.top-pending d

      high : tasks.D e.level < tasks.D r
      high = e.above r w.started a

      inside : (y : ℕ) → v.left r (tasks.D e.level) ≡ y → 1 ≤ v.left r (tasks.D e.level)
      inside zero x =
          omega (
            arith,
            c.lawful.left-level r (tasks.D top) (tasks.D e.level) low x,
            runner_blocks c.lawful c.chosen c.mid.shorter c.mid.clear w,
          )
      inside (suc y) x = omega arith

      holds : 1 ≤ v.left r (tasks.D e.level)
      holds = inside (v.left r (tasks.D e.level)) refl

      fast : tasks.S e.level ≤ steps
      fast = c.chosen.fast not_top top e.level c.chosen.top-pending (ahead c.lawful c.chosen w) e.level_in low (omega (arith, high))

      bound : up (v.left r (tasks.D e.level)) (tasks.S e.level) ≤ e.blocking
      bound = e.within r w.started a

      some : 1 ≤ e.blocking
      some = omega (arith, bound, up-some (v.left r (tasks.D e.level)) (tasks.S e.level) (S-some c e.level e.level_in) holds)

      within : (b : ℕ) → u.started b ≡ true → h < u.distance b → up (u.left b (tasks.D e.level)) (tasks.S e.level) ≤ e.blocking - 1
      within b t x = at (ℕ_discrete b r)
        where
          at : Dec (b ≡ r) → up (u.left b (tasks.D e.level)) (tasks.S e.level) ≤ e.blocking - 1
          at (yes y) =
              rw y
              (omega (
                arith,
                bound,
                up_more (u.left r (tasks.D e.level)) (v.left r (tasks.D e.level) - steps) (tasks.S e.level) (S-some c e.level e.level_in)
                    (c.ticked.left (ap u.pending (sym y) ∙ c.lawful_after.started-pending b t) (tasks.D e.level) holds),
                up_step (v.left r (tasks.D e.level)) steps (tasks.S e.level) (S-some c e.level e.level_in) fast holds,
              ))
          at (no y) = rw (c.ticked.same_left b (tasks.D e.level) y, nothing, up-zero (tasks.S e.level) (S-some c e.level e.level_in)) (omega arith)
            where
              by : (b ≡ r) ⊎ v.before r b → v.left b (tasks.D e.level) ≡ 0
              by (inl z) = absurd (y z)
              by (inr o) = c.lawful.left-level b (tasks.D e.level) (tasks.D r) (omega (arith, high)) (c.mid.clear r b w.started (was_started c b t) o)

              nothing : v.left b (tasks.D e.level) ≡ 0
              nothing = by (w.first b (was_started c b t))

  tick_room : (h : ℕ) → Room tasks v (suc h) → Room tasks u h
  tick_room h (none_due e) = none_due (λ j p. omega (arith, was_distance c j p, e j (was c j p)))
  tick_room h (at-I e) = at (dec_le (v.distance top) (suc h))
    where
      at : Dec (v.distance top ≤ suc h) → Room tasks u h
      at (yes d) = at-I_on h e d
      at (no d) = nobody_due h (omega arith)
  tick_room h (at-S e) = at (dec_le (v.distance top) (suc h)) (dec_le (v.distance r) (suc h)) c.chosen.who
    where
      at : Dec (v.distance top ≤ suc h) → Dec (v.distance r ≤ suc h) →
          ((r ≡ top) × ((v.started top ≡ true) ⊎ Free tasks v top)) ⊎ Blocked tasks v r top → Room tasks u h
      at (no d) _ _ = nobody_due h (omega arith)
      at (yes d) (yes a) _ = at-S_near h e a
      at (yes d) (no a) (inl w) = absurd (omega (arith, ap v.distance w.0))
      at (yes d) (no a) (inr w) = behind_h h e d (omega arith) w

  below : (k : ℕ) → u.pending k ≡ true → u.used k < tasks.C k
  below k p = at (ℕ_discrete k r)
    where
      at : Dec (k ≡ r) → u.used k < tasks.C k
      at (yes e) = rw e (c.ticked.less (ap u.pending (sym e) ∙ p))
      at (no e) = omega (arith, c.ticked.same-used k e, c.mid.numbers.used-C k (was c k p))

  -- number 16: no job that is still pending stands at its deadline
  still : (w : ℕ → ℕ) (k : ℕ) → ((j : ℕ) → j < tasks.count → 1 ≤ w j) → u.pending k ≡ true → u.distance k ≡ 0 → 1 ≤ demand tasks u w 0
  unfolding demand asks_for
  still w k a p d =
      omega (
        arith,
        sum_term (λ j. asks_for tasks u w j 0) tasks.count k b,
        asked_in (u.pending k) (u.distance k) 0 (up (tasks.C k - u.used k) (w k)) p (omega arith),
        up-some (tasks.C k - u.used k) (w k) (a k b) (omega (arith, below k p)),
      )
    where
      b : k < tasks.count
      b = c.lawful_after.inside k p

  pub no_16 : (k : ℕ) → u.pending k ≡ true → 1 ≤ u.distance k
  no_16 k p = at (u.distance k) refl (tick_room 0 (c.mid.room 1))
    where
      at : (d : ℕ) → u.distance k ≡ d → Room tasks u 0 → 1 ≤ u.distance k
      at (suc d) e _ = omega arith
      at zero e (none_due x) = x k p
      at zero e (at-I x) = absurd (omega (arith, x.room, still tasks.I k c.fits.I-some p e))
      at zero e (at-S x) = absurd (omega (arith, x.room, still tasks.S k (S-some c) p e))

  keep_numbers : Numbers tasks u
  keep_numbers =
      record {
        distance_some = no_16;
        distance-D = λ k p. omega (arith, was_distance c k p, c.mid.numbers.distance-D k (was c k p));
        used-C = below;
        wait-is = λ k p. omega (arith, was_distance c k p, c.ticked.wait k, c.mid.numbers.wait-is k (was c k p));
      }

  -- a job that is not started is not the runner
  keep_shorter : Shorter tasks u
  keep_shorter j f p q t o =
      c.mid.shorter j f (was c j p) (sym (c.ticked.same-started j other) ∙ q) (was_started c f t) (c.ticked.before j f p (c.lawful_after.started-pending f t) o)
    where
      other : j ≢ r
      other e = clash (c.ticked.started (ap u.pending (sym e) ∙ p)) (ap u.started (sym e) ∙ q)

  -- what the runner takes is in no started job's way: none is before it
  keep_clear : Clear tasks u
  keep_clear f g t z o = at (ℕ_discrete g r)
    where
      o₁ : v.before f g
      o₁ = c.ticked.before f g (c.lawful_after.started-pending f t) (c.lawful_after.started-pending g z) o

      at : Dec (g ≡ r) → u.left g (tasks.D f) ≡ 0
      at (no e) = c.ticked.same_left g (tasks.D f) e ∙ c.mid.clear f g (was_started c f t) (was_started c g z) o₁
      at (yes e) = absurd (by (runner-first c.lawful c.chosen f (was_started c f t) there))
        where
          there : v.pending f ≡ true
          there = c.lawful.started-pending f (was_started c f t)

          o₂ : v.before f r
          o₂ = subst (v.before f) e o₁

          by : (f ≡ r) ⊎ v.before r f → ⊥
          by (inl x) = let y : v.before r r = subst (λ k. v.before k r) x o₂ in c.lawful.once r r c.chosen.pending c.chosen.pending y y
          by (inr y) = c.lawful.once f r there c.chosen.pending o₂ y

  keep_nearer : Nearer tasks u
  keep_nearer f t = let p : u.pending f ≡ true = c.lawful_after.started-pending f t in omega (arith, was_distance c f p, c.mid.numbers.distance-D f (was c f p))

  pub tick : Between tasks u
  tick =
      record {
        midway = record { numbers = keep_numbers; shorter = keep_shorter; clear = keep_clear; room = λ h. tick_room h (c.mid.room (suc h)) };
        nearer = keep_nearer;
      }
