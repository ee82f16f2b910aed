-- What the state holds, by the whole list. Assumes nothing.
use Prim.Native.Nat.{ℕ, ◌+◌, ◌-◌, ◌≤◌, ◌<◌}
use mathlib.Core.Path.{◌≡◌, refl, sym, ap, ◌∙◌, subst}
use mathlib.Core.Bool.{Bool, true, false, cond, false≢true}
use mathlib.Core.List.{List}
use native.Mathlib.Decide.{dec_lt}
use native.Mathlib.Omega.{arith}
use lib.ListN.{length}
use Rattle.units.specs.Amounts.{ticks, steps}
use Rattle.units.specs.Clock.{tick, after, distance}
use Rattle.units.proofs.Laws.Clock.{after-distance}
use Rattle.table.specs.declared.Table.{Table}
use Rattle.table.specs.Table.{task_at, D}
use Rattle.state.specs.declared.Job.{Job}
use Rattle.state.specs.declared.Section.{Section}
use Rattle.state.specs.declared.State.{State}
use Rattle.state.specs.Stack.{section_at}
use Rattle.state.specs.Order.{holds}
use Rattle.state.proofs.Laws.Stacks.{On, holds_at}
use Rattle.state.specs.State.{job_at}
use Rattle.consistency.proofs.Laws.Jobs.{StackFits, HeldFits, NotPendingFits}
use Rattle.promise.specs.History.{written, Line, ticks_closed, sections, IsOpen, stack_of, latest, is_there, standing, pending_by, absent_by, job_by, half_by, runner_by}
use Rattle.promise.specs.Promise.{Passed}
use Rattle.promise.proofs.Edge.Invariant.{passes, Good}
use Rattle.promise.proofs.Edge.View.{inside, below_16}
use Rattle.promise.proofs.History.Places.{on, opened_length, at_tells, stack_is, empty_stack}
use Rattle.promise.proofs.History.Tells.{Tells}
use Rattle.promise.proofs.History.List.{pending-by}
use Rattle.promise.proofs.History.Listed.{Shows, there, gone, Stage, between, midway, Listed}

module _ {t : Table} {passed : Passed written t} {s : State} (good : Good passed s) {h : List Line} (listed : Listed t s h) where
  -- who is pending is there
  pub tells : (k : ℕ) → (job_at s k).pending ≡ true → Tells t s k (latest k h)
  tells k p = go (listed.jobs k)
    where
      go : Shows t s h k → Tells t s k (latest k h)
      go (there e w) = w
      go (gone e f) = absurd (false≢true (sym f ∙ p))

  -- the stack of any job fits
  pub stack-fits : (k : ℕ) → StackFits (job_at s k).held
  stack-fits k = go (dec_lt k t.count)
    where
      go : Dec (k < t.count) → StackFits (job_at s k).held
      go (yes l) = (good.stands.jobs k l).stack
      go (no l) = (good.stands.past k (omega arith)).stack

  empty : (k : ℕ) → (job_at s k).pending ≡ false → NotPendingFits (job_at s k) → job_at s k ≡ absent_by t k h
  empty k p w i =
      record { pending = p i; started = w.started i; deadline = tick (w.deadline i); used = steps (w.used i); held = empty_stack (job_at s k).held (stack-fits k) (listed.whole k) w.held i; wait = ticks (listed.waits k i) }

  filled : (k : ℕ) → Tells t s k (latest k h) → job_at s k ≡ pending_by t s.tick.0 k h
  filled k w i =
      record { pending = w.pending i; started = w.started i; deadline = tick (due i); used = steps (w.used i); held = held-is i; wait = ticks (listed.waits k i) }
    where
      held-is : (job_at s k).held ≡ stack_of (sections k (latest k h))
      held-is = stack_is (job_at s k).held (stack-fits k) (listed.whole k) ∙ ap stack_of w.held

      due : (job_at s k).deadline.0 ≡ after s.tick.0 (D t k - ticks_closed (latest k h))
      due =
          let left : distance s.tick.0 (job_at s k).deadline.0 ≡ D t k - ticks_closed (latest k h) = omega (arith, w.near) in
          sym (after-distance s.tick.0 (job_at s k).deadline.0 good.stands.now w.small) ∙ ap (after s.tick.0) left

  pub state-is : (k : ℕ) → job_at s k ≡ job_by t s.tick.0 k h
  state-is k = go (listed.jobs k)
    where
      cleared : (job_at s k).pending ≡ false → Dec (k < t.count) → job_at s k ≡ absent_by t k h
      cleared f (yes l) = empty k f ((good.stands.jobs k l).absent f)
      cleared f (no l) = empty k f (good.stands.past k (omega arith)).absent

      go : Shows t s h k → job_at s k ≡ job_by t s.tick.0 k h
      go (there e w) = filled k w ∙ sym (ap (λ (b : Bool). cond b (pending_by t s.tick.0 k h) (absent_by t k h)) e)
      go (gone e f) = cleared f (dec_lt k t.count) ∙ sym (ap (λ (b : Bool). cond b (pending_by t s.tick.0 k h) (absent_by t k h)) e)

  pub pending-is : (k : ℕ) → (job_at s k).pending ≡ is_there t k h
  pending-is k = ap (λ (j : Job). j.pending) (state-is k) ∙ pending-by t s.tick.0 k h

  pub half_is : s.half ≡ half_by (standing h)
  half_is = go listed.stage
    where
      go : Stage t s h → s.half ≡ half_by (standing h)
      go (between f n) = f ∙ sym (ap half_by n)
      go (midway c f n w) = f ∙ sym (ap half_by n)

  pub runner-is : s.runner ≡ runner_by (standing h)
  runner-is = go listed.stage
    where
      go : Stage t s h → s.runner ≡ runner_by (standing h)
      go (between f n) = (good.first f).0 ∙ sym (ap runner_by n)
      go (midway c f n w) = sym (good.second f).runner ∙ w.0 ∙ sym (ap runner_by n)

  -- a section of the lines stands on the stack
  pub on_stack : (k p : ℕ) (x : Section) → is_there t k h ≡ true → IsOpen (sections k (latest k h)) p x
      → (i : ℕ) × On (job_at s k).held i × (i + p + 1 ≡ (job_at s k).held.depth) × (section_at (job_at s k).held i ≡ x)
  on_stack k p x e at =
      let w = at_tells (job_at s k).held p x (subst (λ (l : List Section). IsOpen l p x) (sym (tells k (pending-is k ∙ e)).held) at) in
      (w.0, on (job_at s k).held (stack-fits k) w.0 w.1, w.2, w.3)

  pub up-to-four : (k : ℕ) → is_there t k h ≡ true → length (sections k (latest k h)) ≤ 4
  up-to-four k e = omega (arith, (stack-fits k).depth, opened_length (job_at s k).held, ap length (tells k (pending-is k ∙ e)).held)

  -- no resource is held twice, by one job or by two
  pub one-holder : (i j p q : ℕ) (x y : Section) → is_there t i h ≡ true → is_there t j h ≡ true → IsOpen (sections i (latest i h)) p x → IsOpen (sections j (latest j h)) q y
      → x.resource ≡ y.resource → (i ≡ j) × (p ≡ q)
  one-holder i j p q x y a b e f same = (one, at_once j p x (subst (λ (k : ℕ). is_there t k h ≡ true) one a) (subst (λ (k : ℕ). IsOpen (sections k (latest k h)) p x) one e) q y f same)
    where
      below : (k : ℕ) → is_there t k h ≡ true → k < 16
      below k c = below_16 (passes passed) good.stands k (pending-is k ∙ c)

      held_at : (k r : ℕ) (z : Section) → r ≡ z.resource → (i : ℕ) × On (job_at s k).held i × (section_at (job_at s k).held i ≡ z) → holds r (job_at s k).held ≡ true
      held_at k r z g w = holds_at r (job_at s k).held w.0 w.1 (g ∙ ap (λ (x : Section). x.resource) (sym w.2))

      one : i ≡ j
      one =
          let v = on_stack i p x a e in
          let w = on_stack j q y b f in
          good.stands.once i j x.resource (below i a) (below j b) (held_at i x.resource x refl (v.0, v.1, v.3)) (held_at j x.resource y same (w.0, w.1, w.3))

      at_once : (k p : ℕ) (x : Section) → is_there t k h ≡ true → IsOpen (sections k (latest k h)) p x → (q : ℕ) (y : Section) → IsOpen (sections k (latest k h)) q y → x.resource ≡ y.resource → p ≡ q
      at_once k p x c e q y f g =
          let v = on_stack k p x c e in
          let w = on_stack k q y c f in
          omega (arith, v.2, w.2, same_place v.0 w.0 v.1 w.1 (ap (λ (x : Section). x.resource) v.3 ∙ g ∙ ap (λ (x : Section). x.resource) (sym w.3)))
        where
          fits : HeldFits (task_at t k) (job_at s k).held
          fits = (good.stands.jobs k (inside (passes passed) good.stands k (pending-is k ∙ c))).held

          same_place : (m n : ℕ) → On (job_at s k).held m → On (job_at s k).held n → (section_at (job_at s k).held m).resource ≡ (section_at (job_at s k).held n).resource → m ≡ n
          same_place m n a b g = go (dec_lt m n) (dec_lt n m)
            where
              go : Dec (m < n) → Dec (n < m) → m ≡ n
              go (yes l) d = absurd (fits.once n m b l g)
              go (no l) (yes d) = absurd (fits.once m n a d (sym g))
              go (no l) (no d) = omega arith
