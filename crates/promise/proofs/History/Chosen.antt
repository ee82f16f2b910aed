-- Whom a choice names, by the whole list. Assumes nothing.
use Rattle.std.specs.Prelude.{Some, None}
use Prim.Native.Nat.{ℕ, ◌≤◌, ◌<◌}
use mathlib.Core.Path.{◌≡◌, refl, sym, ap, ◌∙◌, subst}
use mathlib.Core.Bool.{Bool, true, false, false≢true}
use mathlib.Core.List.{List}
use mathlib.Core.Logic.{inl, inr}
use native.Mathlib.Decide.{dec_lt}
use native.Mathlib.Omega.{arith}
use Rattle.units.specs.Clock.{distance}
use Rattle.table.specs.declared.Table.{Table}
use Rattle.table.specs.Table.{D, ceiling, ceilings}
use Rattle.state.specs.Answers.{Answer}
use Rattle.state.specs.declared.Section.{Section}
use Rattle.state.specs.declared.Stack.{Stack}
use Rattle.state.specs.declared.Mode.TheVariants.{Independent, Synchronization}
use Rattle.state.specs.declared.State.{State}
use Rattle.state.specs.Stack.{section_at}
use Rattle.state.specs.State.{job_at}
use Rattle.state.specs.Order.{place_at, position_of, no_place, is_pending, is_started}
use Rattle.state.proofs.Laws.Order.{first-le, first_found, place-position, nearer-first, lower-first}
use Rattle.choice.specs.declared.Turn.{Turn}
use Rattle.state.proofs.Laws.Stacks.{On, on_tells, holds_at}
use Rattle.choice.specs.Choice.{top, section_bars, bars, blocked, runner, turn, choice}
use Rattle.choice.proofs.Laws.Bars.{bars-holds, bars_tells}
use Rattle.choice.proofs.Laws.Choice as Law
use Rattle.choice.proofs.Laws.Ready.{blocked_tells, blocked-holds, runs-started}
use Rattle.choice.proofs.Laws.Runner.{runs-top, nobody, runner_free, runner-blocked}
use Rattle.machine.specs.Machine.{chosen}
use Rattle.promise.specs.History.{written, Line, choose, answered, is_report, is_choice, sections, IsOpen, has_started, latest, is_there, ticks_left, Ahead}
use Rattle.promise.specs.Promise.{Passed, FirstBlocked}
use Rattle.promise.proofs.Edge.Choice as Chosen
use Rattle.promise.proofs.Edge.Invariant.{passes, Good, is_ready, some-top}
use Rattle.promise.proofs.Edge.View.{inside, below_16, takes_8}
use Rattle.promise.proofs.Keep.Made.{Made, refused, takes-on, chooses, idles, runs}
use Rattle.promise.proofs.Keep.Each.{keep}
use Rattle.promise.proofs.History.Listed.{Listed}
use Rattle.promise.proofs.History.Holds.{tells, pending-is, on_stack}
use Rattle.promise.proofs.History.Places.{at_place}

module _ {t : Table} {passed : Passed written t} {s : State} (good : Good passed s) {h : List Line} (listed : Listed t s h) where
  abbrev a : Answer
  a = answered written t s choose

  module _ (zero : a.number ≡ 0) where
    chose : a ≡ chosen (choice t s)
    chose = go (keep good choose).made
      where
        go : Made t s choose a → a ≡ chosen (choice t s)
        go (refused n l e) = absurd (omega (arith, l, zero, ap (λ (b : Answer). b.number) e))
        go (takes-on p c l f e) = absurd (false≢true (sym (ap is_choice c)))
        go (idles c m r f e) = absurd (false≢true (ap is_report c))
        go (runs p q c m r l f g e) = absurd (false≢true (ap is_report c))
        go (chooses c e) = e

    -- what is read off the answer is read off the turn
    its : {A : Type 0} (of : Answer → A) (by : Turn → A) → of (chosen (choice t s)) ≡ by (choice t s).turn → of a ≡ by (turn t s)
    its of by e = ap of chose ∙ e ∙ ap by (Law.choice-turn t s)

    -- nobody
    module _ (idles-now : a.runner ≡ None) where
      none_top : no_place ≤ top s
      none_top = go (dec_lt (top s) no_place)
        where
          go : Dec (top s < no_place) → no_place ≤ top s
          go (yes l) = absurd (nobody (sym (sym (its (λ b. b.runner) (λ u. u.runner) refl) ∙ idles-now) ∙ Law.runner-is t s (is_ready good) l))
          go (no l) = omega arith

      none_there : (k : ℕ) (b : Bool) → is_there t k h ≡ b → is_there t k h ≡ false
      none_there k false q = q
      none_there k true q = absurd (omega (arith, none_top, some-top good k (pending-is good listed k ∙ q)))

      pub idle-is : ((k : ℕ) → is_there t k h ≡ false) × (a.mode ≡ Independent) × (a.speed ≡ 0) × (a.state.mark ≡ None)
      idle-is = (
        λ k. none_there k (is_there t k h) refl,
        its (λ b. b.mode) (λ u. u.mode) refl ∙ ap (λ (u : Turn). u.mode) (Law.idle-turn t s none_top),
        its (λ b. b.speed) (λ u. u.speed) refl ∙ ap (λ (u : Turn). u.speed) (Law.idle-turn t s none_top),
        ap (λ (b : Answer). b.state.mark) chose ∙ ap (λ (x : State). x.mark) (Law.choice-is t s) ∙ ap (λ (u : Turn). u.mark) (Law.idle-turn t s none_top),
      )

    -- a job
    module _ (k : ℕ) (named : a.runner ≡ Some k) where
      runs_k : (turn t s).runner ≡ Some k
      runs_k = sym (its (λ b. b.runner) (λ u. u.runner) refl) ∙ named

      some : top s < no_place
      some = runs-top t s k runs_k

      same : position_of (runner t s) ≡ k
      same = Chosen.runs-at good some k runs_k

      pending_k : (job_at s k).pending ≡ true
      pending_k = ap (λ (i : ℕ). (job_at s i).pending) (sym same) ∙ Law.runner-pending t s (is_ready good) some

      -- one that starts: what another holds has a ceiling longer than its D
      module _ (fresh : has_started k (latest k h) ≡ false) (i p : ℕ) (x : Section) (other : i ≡ k → ⊥) (there-i : is_there t i h ≡ true) (e : IsOpen (sections i (latest i h)) p x) where
        unstarted_k : (job_at s k).started ≡ false
        unstarted_k = (tells good listed k pending_k).started ∙ fresh

        pending_i : (job_at s i).pending ≡ true
        pending_i = pending-is good listed i ∙ there-i

        abbrev held_i : Stack
        held_i = (job_at s i).held

        one_of_8 : (n : ℕ) → On held_i n → (section_at held_i n).resource < 8
        one_of_8 n o = takes_8 (passes passed) good.stands (λ j m. passed.limits j (omega (arith, (passes passed).count.high)) m) i (inside (passes passed) good.stands i pending_i) n o

        -- it stands on the stack, and bars what its ceiling bars
        barring : ceiling t x.resource ≤ D t k → bars (ceilings t) (D t k) held_i ≡ true
        barring l =
            let w = on_stack good listed i p x there-i e in
            let same : (section_at held_i w.0).resource ≡ x.resource = ap (λ (x : Section). x.resource) w.3 in
            bars-holds t (D t k) x.resource held_i (rw (← same) (one_of_8 w.0 w.1)) (holds_at x.resource held_i w.0 w.1 (sym same)) l

        pub starts-free : D t k < ceiling t x.resource
        starts-free = go (blocked t s (position_of (top s))) refl (dec_lt (D t k) (ceiling t x.resource))
          where
            go : (b : Bool) → blocked t s (position_of (top s)) ≡ b → Dec (D t k < ceiling t x.resource) → D t k < ceiling t x.resource
            go b f (yes l) = l
            go true f (no l) = absurd (false≢true (sym unstarted_k ∙ ap (λ (p : ℕ). (job_at s p).started) (sym same) ∙ runs-started t s (is_ready good) some f))
            go false f (no l) =
                let first : position_of (top s) ≡ k = ap position_of (sym (runner_free t s f)) ∙ same in
                absurd (false≢true (sym (sym (ap (blocked t s) first) ∙ f) ∙ blocked-holds t s k unstarted_k i (below_16 (passes passed) good.stands i pending_i, barring (omega arith), pending_i, other)))

      near : (i : ℕ) → (job_at s i).pending ≡ true → distance s.tick.0 (job_at s i).deadline.0 ≡ ticks_left t i h
      near i p = omega (arith, (tells good listed i p).near)

      nearer : (i l : ℕ) → (job_at s i).pending ≡ true → (job_at s l).pending ≡ true → Ahead t h i l → place_at s i < place_at s l
      nearer i l pi pl (inl w) =
          nearer-first s.tick.0 (job_at s i).deadline.0 (job_at s l).deadline.0 i l (omega (arith, below_16 (passes passed) good.stands i pi)) (omega (arith, near i pi, near l pl, w))
      nearer i l pi pl (inr w) = lower-first s.tick.0 (job_at s i).deadline.0 (job_at s l).deadline.0 i l w.1 (near i pi ∙ w.0 ∙ sym (near l pl))

      run_is : runner t s ≡ place_at s k
      run_is = Law.runner-place t s (is_ready good) some ∙ ap (place_at s) same

      -- where top is blocked
      module _ (e : blocked t s (position_of (top s)) ≡ true) where
        first-blocked : FirstBlocked t h
        first-blocked =
            let f = first_found s is_pending some in
            let p = f.0 in
            let at : position_of (top s) ≡ p = ap position_of f.3 ∙ place-position s.tick.0 (job_at s p).deadline.0 p (omega (arith, f.1)) in
            let w = (blocked_tells t s (position_of (top s)) e).1 in
            let i = w.0 in
            let pending_i = w.1.2 in
            let y = on_tells (section_bars (ceilings t) (D t (position_of (top s)))) (job_at s i).held w.1.1 in
            let place = at_place (job_at s i).held y.0 y.1.1 in
            let one_of_8 = takes_8 (passes passed) good.stands (λ j m. passed.limits j (omega (arith, (passes passed).count.high)) m) i (inside (passes passed) good.stands i pending_i) y.0 y.1 in
            record {
              first = p;
              there = sym (pending-is good listed p) ∙ f.2;
              none_ahead = λ q there-q ahead. let pending-q = pending-is good listed q ∙ there-q in
                  omega (arith, first-le s is_pending q (below_16 (passes passed) good.stands q pending-q) pending-q, f.3, nearer q p pending-q f.2 ahead);
              holder = i;
              other = λ z. w.1.3 (z ∙ sym at);
              holder_there = sym (pending-is good listed i) ∙ pending_i;
              inside = place.0;
              held = section_at (job_at s i).held y.0;
              holds = subst (λ (l : List Section). IsOpen l place.0 (section_at (job_at s i).held y.0)) (tells good listed i pending_i).held place.1;
              bars = bars_tells t (D t p) (section_at (job_at s i).held y.0) one_of_8 (ap (λ (n : ℕ). section_bars (ceilings t) (D t n) (section_at (job_at s i).held y.0)) (sym at) ∙ y.2);
            }

      -- one that is ahead of it has not started, and the first of all is blocked
      module _ (j : ℕ) (there-j : is_there t j h ≡ true) (ahead : Ahead t h j k) where
        pending_j : (job_at s j).pending ≡ true
        pending_j = pending-is good listed j ∙ there-j

        small : j < 16
        small = below_16 (passes passed) good.stands j pending_j

        unstarted : blocked t s (position_of (top s)) ≡ true → (b : Bool) → (job_at s j).started ≡ b → (job_at s j).started ≡ false
        unstarted e false f = f
        unstarted e true f = absurd (omega (arith, first-le s is_started j small (rw (pending_j, f) refl), runner-blocked t s e, run_is, nearer j k pending_j pending_k ahead))

        not_top : runner t s ≡ top s → ⊥
        not_top q = omega (arith, first-le s is_pending j small pending_j, q, run_is, nearer j k pending_j pending_k ahead)

        pub in_order : (has_started j (latest j h) ≡ false) × (has_started k (latest k h) ≡ true) × (a.mode ≡ Synchronization) × FirstBlocked t h
        in_order = go (blocked t s (position_of (top s))) refl
          where
            go : (b : Bool) → blocked t s (position_of (top s)) ≡ b → (has_started j (latest j h) ≡ false) × (has_started k (latest k h) ≡ true) × (a.mode ≡ Synchronization) × FirstBlocked t h
            go false e = absurd (not_top (runner_free t s e))
            go true e = (
              sym (tells good listed j pending_j).started ∙ unstarted e (job_at s j).started refl,
              sym (tells good listed k pending_k).started ∙ ap (λ (p : ℕ). (job_at s p).started) (sym same) ∙ runs-started t s (is_ready good) some e,
              its (λ b. b.mode) (λ u. u.mode) refl ∙ (Law.marked-not-top t s (is_ready good) some not_top).mode,
              first-blocked e,
            )
