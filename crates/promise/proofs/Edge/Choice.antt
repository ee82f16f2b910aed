-- The choice, as the proof sees it: from its laws. Assumes nothing.
use Rattle.std.specs.Prelude.{Some, None}
use Prim.Native.Nat.{ℕ, ◌≤◌, ◌<◌}
use mathlib.Core.Path.{◌≡◌, refl, sym, ap, ◌∙◌}
use mathlib.Core.Bool.{Bool, true, false, ◌&&◌, false≢true}
use mathlib.Core.Logic.{◌⊎◌, inl, inr, ◌≢◌}
use native.Mathlib.Decide.{ℕ_discrete}
use native.Mathlib.Omega.{arith}
use Rattle.units.specs.Amounts.{given}
use Rattle.units.specs.Clock.{distance}
use Rattle.units.proofs.Laws.Amounts.{given-more}
use Rattle.table.specs.declared.Table.{Table}
use Rattle.table.specs.Table.{task_at, D, ceilings}
use Rattle.state.specs.declared.Job.{Job}
use Rattle.state.specs.declared.Mode.TheVariants.{Synchronization}
use Rattle.state.specs.declared.Place.{Place}
use Rattle.state.specs.declared.State.{State}
use Rattle.state.specs.State.{job_at, Mark}
use Rattle.state.specs.Order.{place, place_at, position_of, no_place, is_pending, is_started, is_holder, holds_any}
use Rattle.state.proofs.Laws.Order.{nearer-first, first-le, first_found, place-position, place-distance}
use Rattle.choice.specs.declared.Turn.{Turn}
use Rattle.choice.specs.Choice.{alone, top, bars, blocked, runner, turn, begun, in_mid_tick, choice, mark_place}
use Rattle.choice.proofs.Laws.Choice as Law
use Rattle.choice.proofs.Laws.Ready.{Ready, blocked_tells, blocked-holds, runs-started}
use Rattle.choice.proofs.Laws.Runner.{named, runner-blocked, runner_free}
use Rattle.consistency.proofs.Laws.Facts.{MarkFits}
use Rattle.promise.specs.History.{written}
use Rattle.promise.specs.Promise.{Passed}
use Rattle.promise.proofs.Core.Choice as Core
use Rattle.promise.proofs.Core.View.{Lawful}
use Rattle.promise.proofs.Edge.View.{tasks, left, marked, mark_distance, view, left-barred, left_unbarred, inside, below_16, other_place}
use Rattle.promise.proofs.Edge.Invariant.{passes, Good, sees, is_ready}

-- the state in mid-tick
abbrev pub chosen_state : Table → State → State
chosen_state t s = in_mid_tick s (turn t s)

-- the place of a mark
abbrev marked-place : Place → Mark → Place
marked-place d None = d
marked-place d (Some m) = m

-- who is further in the order is not nearer
further : (now d e j k : ℕ) → j < 256 → k < 256 → place now d j ≤ place now e k → distance now d ≤ distance now e
further now d e j k l m h = omega (arith, place-distance now d j l, place-distance now e k m)

-- some job is pending: who runs is at `at`, top at `first`
module _ {t : Table} {passed : Passed written t} {s : State} (good : Good passed s) (some : top s < no_place) where
  abbrev ready : Ready t s
  ready = is_ready good

  abbrev few : t.count ≤ 16
  few = (passes passed).count.high

  abbrev seen : Lawful (tasks t) (view t s)
  seen = sees passed good.stands

  abbrev now : ℕ
  now = s.tick.0

  abbrev pub at : ℕ
  at = position_of (runner t s)

  abbrev pub first : ℕ
  first = position_of (top s)

  abbrev next : State
  next = chosen_state t s

  -- the job that runs is the one at `at`
  pub runs-at : (p : ℕ) → (turn t s).runner ≡ Some p → at ≡ p
  runs-at p e = named (sym (Law.runner-is t s ready some) ∙ e)

  -- ---- the jobs

  next_job : (k : ℕ) → job_at (choice t s).state k ≡ job_at next k
  next_job k = ap (λ (x : State). job_at x k) (Law.choice-is t s)

  pub next-runner : job_at next at ≡ begun (job_at s at)
  next-runner = sym (next_job at) ∙ Law.runner-begun t s ready some

  pub next-other : (k : ℕ) → (k ≡ at → ⊥) → job_at next k ≡ job_at s k
  next-other k h = sym (next_job k) ∙ Law.others_same t s ready some k h

  -- what starting a job does not change is as it was
  pub kept : {A : Type 0} (f : Job → A) → ((j : Job) → f (begun j) ≡ f j) → (k : ℕ) → f (job_at next k) ≡ f (job_at s k)
  kept f e k = go (ℕ_discrete k at)
    where
      go : Dec (k ≡ at) → f (job_at next k) ≡ f (job_at s k)
      go (yes h) = ap (λ (i : ℕ). f (job_at next i)) h ∙ ap f next-runner ∙ e (job_at s at) ∙ ap (λ (i : ℕ). f (job_at s i)) (sym h)
      go (no h) = ap f (next-other k h)

  kept-place : (k : ℕ) → place_at next k ≡ place_at s k
  kept-place k = ap (λ (d : ℕ). place now d k) (kept (λ j. j.deadline.0) (λ j. refl) k)

  -- ---- top

  pub first-is : (first < 16) × ((job_at s first).pending ≡ true) × (top s ≡ place_at s first)
  first-is =
      let w = first_found s is_pending some in
      let e : w.0 ≡ first = sym (ap position_of w.3 ∙ place-position now (job_at s w.0).deadline.0 w.0 (omega (arith, w.1))) in
      (omega (arith, w.1), ap (λ (k : ℕ). (job_at s k).pending) (sym e) ∙ w.2, w.3 ∙ ap (place_at s) e)

  first-first : (k : ℕ) → (job_at s k).pending ≡ true → (k ≡ first) ⊎ (place_at s first < place_at s k)
  first-first k p =
      let l = below_16 (passes passed) good.stands k p in
      other_place (passes passed) good.stands first k first-is.0 l (omega (arith, first-le s is_pending k l p, first-is.2))

  -- a runner elsewhere is at another place
  not_first : at ≢ first → runner t s ≡ top s → ⊥
  not_first h e = h (ap position_of e)

  -- ---- who runs: L2

  free : blocked t s first ≡ false → (job_at s first).started ≡ false → Core.Free (tasks t) (view t s) first
  free h e k p n = go (bars (ceilings t) (D t first) (job_at s k).held) refl
    where
      go : (b : Bool) → bars (ceilings t) (D t first) (job_at s k).held ≡ b → left t (task_at t k) (D t first) (job_at s k).held ≡ 0
      go true f = absurd (false≢true (sym h ∙ blocked-holds t s first e k (below_16 (passes passed) good.stands k p, f, p, n)))
      go false f = left_unbarred t (task_at t k) (D t first) (job_at s k).held f

  started-first : blocked t s first ≡ true → (k : ℕ) → (job_at s k).started ≡ true → (k ≡ at) ⊎ (place_at s at < place_at s k)
  started-first h k e =
      let p = seen.started-pending k e in
      let l = below_16 (passes passed) good.stands k p in
      let test : ((job_at s k).pending && (job_at s k).started) ≡ true = rw (p, e) refl in
      other_place (passes passed) good.stands at k (Law.runner_below_16 t s ready some) l
      (omega (arith, first-le s is_started k l test, runner-blocked t s h, Law.runner-place t s ready some))

  blocks : blocked t s first ≡ true → Core.Blocked (tasks t) (view t s) at first
  blocks h =
      let w = blocked_tells t s first h in
      let k = w.1.0 in
      let g = w.1.1 in record {
        fresh = w.0;
        holder = k;
        holder-pending = g.2;
        holder-other = g.3;
        holder-left = left-barred t (task_at t k) (D t first) (job_at s k).held (good.stands.jobs k (inside (passes passed) good.stands k g.2)).held g.1;
        started = runs-started t s ready some h;
        first = started-first h;
      }

  abbrev Who : Type 0
  Who = ((at ≡ first) × (((job_at s first).started ≡ true) ⊎ Core.Free (tasks t) (view t s) first)) ⊎ Core.Blocked (tasks t) (view t s) at first

  who : Who
  who = go (blocked t s first) refl (job_at s first).started refl
    where
      go : (b : Bool) → blocked t s first ≡ b → (c : Bool) → (job_at s first).started ≡ c → Who
      go true h c e = inr (blocks h)
      go false h true e = inl (ap position_of (runner_free t s h), inl e)
      go false h false e = inl (ap position_of (runner_free t s h), inr (free h e))

  -- ---- the mark: L4

  inside_16 : (k : ℕ) → holds_any (job_at s k).held ≡ true → k < 16
  inside_16 k h = let l = seen in below_16 (passes passed) good.stands k (l.started-pending k (l.holds-started k h))

  holder : (k : ℕ) → holds_any (job_at s k).held ≡ true → is_holder (job_at s k) ≡ true
  holder k h = let l = seen in rw (h, l.started-pending k (l.holds-started k h)) refl

  -- a place that is not behind the mark's is not further
  reach : (m : Law.Marked t s ready some) (k d : ℕ) → k < 256 → place now d k ≤ m.where_to → distance now d ≤ mark_distance now (turn t s).mark
  reach m k d l h =
      rw m.stands.is
      (further now d m.stands.mark.deadline.0 k m.stands.mark.position l (omega (arith, m.stands.position, few)) (omega (arith, m.stands.place)))

  reach_runner : (m : Law.Marked t s ready some) → distance now (job_at s at).deadline.0 ≤ mark_distance now (turn t s).mark
  reach_runner m =
      reach m at (job_at s at).deadline.0 (omega (arith, Law.runner_below_16 t s ready some)) (omega (arith, m.itself, Law.runner-place t s ready some))

  marked_as : Law.Marked t s ready some → Core.Marked (tasks t) (view t s) (view t next) at first (given (turn t s).speed)
  marked_as m = record {
    speed = given-more _ (turn t s).speed m.speed;
    stands = ap marked m.stands.is;
    old = λ e. old-mark s.mark refl e;
    holders = λ k h o.
        reach m k (job_at s k).deadline.0 (omega (arith, inside_16 k h))
        (m.holders k (inside_16 k h) (holder k h) (omega (arith, Law.runner-place t s ready some)));
    runner = λ n. reach_runner m;
  }
    where
      old-mark : (n : Mark) → s.mark ≡ n → marked n ≡ true → mark_distance now n ≤ mark_distance now (turn t s).mark
      old-mark None e f = absurd (false≢true f)
      old-mark (Some o) e f =
          reach m o.position o.deadline.0 (omega (arith, (good.stands.mark o e).position, few)) (omega (arith, m.old-mark, ap (mark_place now) e))

  -- L7: a mark that stands afterwards is in the table, not too far, and not nearer than the runner
  pub mark-fits : (m : Place) → (turn t s).mark ≡ Some m → MarkFits t.count now m
  mark-fits m e = go (Law.marked-or-alone t s ready some)
    where
      go : Law.Marked t s ready some ⊎ (turn t s ≡ alone (runner t s) (task_at t at)) → MarkFits t.count now m
      go (inl w) =
          let same : w.stands.mark ≡ m = ap (marked-place m) (sym w.stands.is ∙ e) in
          rw (← same) record { position = w.stands.position; ahead = w.stands.ahead }
      go (inr w) = absurd (false≢true (ap marked (sym (ap (λ (u : Turn). u.mark) w) ∙ e)))

  pub mark_behind : marked (turn t s).mark ≡ true → distance now (job_at s at).deadline.0 ≤ mark_distance now (turn t s).mark
  mark_behind e = go (Law.marked-or-alone t s ready some)
    where
      go : Law.Marked t s ready some ⊎ (turn t s ≡ alone (runner t s) (task_at t at)) → distance now (job_at s at).deadline.0 ≤ mark_distance now (turn t s).mark
      go (inl w) = reach_runner w
      go (inr w) = absurd (false≢true (sym (ap (λ (u : Turn). marked u.mark) w) ∙ e))

  abbrev Need : Type 0
  Need =
      (at ≢ first) ⊎
      (((b : ℕ) × (holds_any (job_at s b).held ≡ true) × (place_at s at < place_at s b))
      ⊎ ((marked s.mark ≡ true) × (distance now (job_at s at).deadline.0 < mark_distance now s.mark)))

  marks : Need → Law.Marked t s ready some
  marks (inl n) = Law.marked-not-top t s ready some (not_first n)
  marks (inr (inl w)) =
      Law.marked-holder t s ready some w.0 (inside_16 w.0 w.1) (holder w.0 w.1) (omega (arith, w.2, Law.runner-place t s ready some))
  marks (inr (inr w)) = go s.mark refl w.0 w.1
    where
      go : (n : Mark) → s.mark ≡ n → marked n ≡ true → distance now (job_at s at).deadline.0 < mark_distance now n → Law.Marked t s ready some
      go None e f d = absurd (false≢true f)
      go (Some m) e f d =
          Law.marked_behind t s ready some
          (omega (
            arith,
            nearer-first now (job_at s at).deadline.0 m.deadline.0 at m.position (omega (arith, Law.runner_below_16 t s ready some)) d,
            Law.runner-place t s ready some,
            ap (mark_place now) e,
          ))

  -- a job that runs over a holder is in synchronization
  pub over-holder : (k : ℕ) → holds_any (job_at s k).held ≡ true → k ≢ at → (turn t s).mode ≡ Synchronization
  over-holder k h n = (marks (go (ℕ_discrete at first) (first-first k (seen.started-pending k (seen.holds-started k h))))).mode
    where
      go : Dec (at ≡ first) → (k ≡ first) ⊎ (place_at s first < place_at s k) → Need
      go (no e) o = inl e
      go (yes e) (inl f) = absurd (n (f ∙ sym e))
      go (yes e) (inr o) = inr (inl (k, h, omega (arith, o, ap (place_at s) e)))

  -- ---- the laws together

  pub chosen : Core.Chosen (tasks t) (view t s) (view t next) at first (given (turn t s).speed)
  chosen = record {
    pending = Law.runner-pending t s ready some;
    started = ap (λ (j : Job). j.started) next-runner;
    same-started = λ k n. ap (λ (j : Job). j.started) (next-other k n);
    same-pending = kept (λ j. j.pending) (λ j. refl);
    same-holds = kept (λ j. holds_any j.held) (λ j. refl);
    same-distance = λ k. ap (distance now) (kept (λ j. j.deadline.0) (λ j. refl) k);
    same-used = kept (λ j. j.used.0) (λ j. refl);
    same-wait = kept (λ j. j.wait.0) (λ j. refl);
    same_left = λ k x. ap (left t (task_at t k) x) (kept (λ j. j.held) (λ j. refl) k);
    same-before = λ j k o. omega (arith, kept-place j, kept-place k);
    top-pending = first-is.1;
    top-first = first-first;
    who = who;
    slow = given-more _ (turn t s).speed (Law.speed-independent t s ready some);
    marked = λ n. marked_as (marks n);
    fast = λ n j k p o l low high.
        given-more _ (turn t s).speed
        (Law.speed-between t s ready some (not_first n) j k (below_16 (passes passed) good.stands j p) p (omega (arith, Law.runner-place t s ready some)) l low high);
  }
