-- In a history nobody behind a mark holds anything, so that a mark which stands does not move. Assumes nothing.
use Rattle.std.specs.Prelude.{Some, None}
use Prim.Native.Nat.{ℕ, ◌^◌, max, ◌≤◌, ◌<◌}
use mathlib.Core.Path.{◌≡◌, refl, sym, ap, ◌∙◌, subst}
use mathlib.Core.Bool.{true, false≢true}
use mathlib.Core.List.{List, [], ◌∷◌}
use mathlib.Core.Logic.{◌⊎◌, inl, inr}
use native.Mathlib.Decide.{dec_lt, ℕ_discrete}
use native.Mathlib.Omega.{arith}
use lib.ListN.{set}
use lib.Dec.{ltb}
use Rattle.units.specs.Clock.{tick, after, distance}
use Rattle.units.proofs.Laws.Folds.{both}
use Rattle.table.specs.declared.Table.{Table}
use Rattle.table.specs.Table.{task_at}
use Rattle.state.specs.Answers.{Answer}
use Rattle.state.specs.declared.Half.TheVariants.{Second}
use Rattle.state.specs.declared.Job.{Job}
use Rattle.state.specs.declared.Place.{Place}
use Rattle.state.specs.declared.Report.{Report}
use Rattle.state.specs.declared.State.{State}
use Rattle.state.specs.State.{job_at}
use Rattle.state.specs.Order.{place, place_at, no_place, position_of, holds_any, is_holder, last_holder}
use Rattle.state.proofs.Laws.Fresh.{empty-is}
use Rattle.state.proofs.Laws.Order.{place-distance, place-next, last_found}
use Rattle.choice.specs.declared.Turn.{Turn}
use Rattle.choice.specs.Choice.{alone, top, runner, turn, mark_place, old_mark}
use Rattle.choice.proofs.Laws.Choice as Law
use Rattle.report.specs.declared.Outcome.{Outcome}
use Rattle.report.specs.Report as Report
use Rattle.report.specs.Report.{closed, waited}
use Rattle.report.proofs.Laws.Jobs.{Fate, done, spent, stopped, goes, settled_is, closed_at, closed-set-same, closed-set-other}
use Rattle.report.proofs.Laws.Answers.{outcome}
use Rattle.machine.specs.Machine.{released_at}
use Rattle.machine.proofs.Laws.Calls.{released_job, released_others}
use Rattle.promise.specs.History.{written, Call, lines, start}
use Rattle.promise.specs.Promise.{Passed}
use Rattle.promise.proofs.Core.Choice.{Blocked, Free}
use Rattle.promise.proofs.Core.Stack.{runner_blocks}
use Rattle.promise.proofs.Edge.Choice as Chosen
use Rattle.promise.proofs.Edge.Invariant.{some-top, passes, Good, is_ready, sees}
use Rattle.promise.proofs.Edge.View.{tasks, marked, view, below_16}
use Rattle.promise.proofs.History.Start.{start_is, at, at_good, made}
use Rattle.promise.proofs.Keep.Made.{Made, refused, takes-on, chooses, idles, runs}

-- every job that holds something is at the mark or ahead of it
abbrev NoneBehind : State → Type 0
NoneBehind s = (m : Place) → s.mark ≡ Some m → (k : ℕ) → holds_any (job_at s k).held ≡ true → place_at s k ≤ mark_place s.tick.0 (Some m)

no_mark : (s : State) → s.mark ≡ None → NoneBehind s
no_mark s e m f = absurd (false≢true (ap marked (sym e ∙ f)))

module _ {t : Table} {passed : Passed written t} {s : State} (good : Good passed s) (last : NoneBehind s) where
  -- who holds something is pending, at one of 16 positions
  pending : (k : ℕ) → holds_any (job_at s k).held ≡ true → (job_at s k).pending ≡ true
  pending k h = let w = sees passed good.stands in w.started-pending k (w.holds-started k h)

  below : (k : ℕ) → holds_any (job_at s k).held ≡ true → k < 16
  below k h = below_16 (passes passed) good.stands k (pending k h)

  -- a release: what is new holds nothing
  on_release : (p : ℕ) → p < t.count → NoneBehind (released_at t s p)
  on_release p l m e k h = go (ℕ_discrete k p)
    where
      go : Dec (k ≡ p) → place_at (released_at t s p) k ≤ mark_place s.tick.0 (Some m)
      go (yes q) =
          absurd (false≢true
          (sym (ap (λ (j : Job). holds_any j.held) (ap (job_at (released_at t s p)) q ∙ released_job t s p (omega (arith, (passes passed).count.high, good.stands.long)))) ∙ h))
      go (no q) =
          let same : job_at (released_at t s p) k ≡ job_at s k = released_others t s p k q in
          omega (arith, ap (λ (j : Job). place s.tick.0 j.deadline.0 k) same, last m e k (sym (ap (λ (j : Job). holds_any j.held) same) ∙ h))

  -- a choice: the mark is at or behind the runner, and all holders behind it
  module _ (some : top s < no_place) where
    reaches : Law.Marked t s (is_ready good) some ⊎ (turn t s ≡ alone (runner t s) (task_at t (position_of (runner t s))))
        → (m : Place) → (turn t s).mark ≡ Some m → (k : ℕ) → holds_any (job_at s k).held ≡ true → place_at s k ≤ mark_place s.tick.0 (Some m)
    reaches (inr w) m e k h = absurd (false≢true (ap marked (sym (ap (λ (u : Turn). u.mark) w) ∙ e)))
    reaches (inl w) m e k h = omega (arith, w.stands.place, ap (mark_place s.tick.0) (sym w.stands.is ∙ e), at_most (dec_lt (runner t s) (place_at s k)))
      where
        holder : is_holder (job_at s k) ≡ true
        holder = rw (h, pending k h) refl

        at_most : Dec (runner t s < place_at s k) → place_at s k ≤ w.where_to
        at_most (yes l) = w.holders k (below k h) holder l
        at_most (no l) = omega (arith, w.itself)

    on_choice : NoneBehind (Chosen.chosen_state t s)
    on_choice m e k h =
        let held = Chosen.kept good some (λ j. holds_any j.held) (λ j. refl) k in
        let deadline = Chosen.kept good some (λ j. j.deadline.0) (λ j. refl) k in
        omega (arith, ap (λ (d : ℕ). place s.tick.0 d k) deadline, reaches (Law.marked-or-alone t s (is_ready good) some) m e k (sym held ∙ h))

  -- a tick: all comes one nearer, and the runner, which may have taken something, is at the mark or ahead of it
  module _ (h : s.half ≡ Second) (p : ℕ) (said : Report) (runs-p : (turn t s).runner ≡ Some p) (there : (job_at s p).pending ≡ true) where
    some : top s < no_place
    some = some-top good p there

    abbrev job : Job
    job = (outcome t s (turn t s) p said).job

    abbrev next : State
    next = closed s (set s.jobs p job)

    -- the runner, before its tick
    runner-at : position_of (runner t s) ≡ p
    runner-at = Chosen.runs-at good some p runs-p

    runner_reaches : (m : Place) → s.mark ≡ Some m → place_at s p ≤ mark_place s.tick.0 (Some m)
    runner_reaches m e = go (Law.marked-or-alone t s (is_ready good) some)
      where
        is : (turn t s).mark ≡ Some m
        is = (good.second h).mark ∙ e

        go : Law.Marked t s (is_ready good) some ⊎ (turn t s ≡ alone (runner t s) (task_at t (position_of (runner t s)))) → place_at s p ≤ mark_place s.tick.0 (Some m)
        go (inr w) = absurd (false≢true (ap marked (sym (ap (λ (u : Turn). u.mark) w) ∙ is)))
        go (inl w) =
            omega (
              arith,
              w.itself,
              w.stands.place,
              ap (mark_place s.tick.0) (sym w.stands.is ∙ is),
              Law.runner-place t s (is_ready good) some,
              ap (place_at s) runner-at,
            )

    -- what holds something afterwards was there, with the same deadline
    was : (k : ℕ) → holds_any (job_at next k).held ≡ true → (m : Place) → s.mark ≡ Some m
        → ((job_at s k).pending ≡ true) × ((job_at next k).deadline.0 ≡ (job_at s k).deadline.0) × (place_at s k ≤ mark_place s.tick.0 (Some m))
    was k hk m e = go (ℕ_discrete k p)
      where
        own : Fate (task_at t p) said (Report.worked (task_at t p) (turn t s).speed (job_at s p)) (outcome t s (turn t s) p said) → holds_any job.held ≡ true
            → job.deadline.0 ≡ (job_at s p).deadline.0
        own (done q f) x = absurd (false≢true (sym (ap (λ (o : Outcome). holds_any o.job.held) f) ∙ x))
        own (spent q f) x = absurd (false≢true (sym (ap (λ (o : Outcome). holds_any o.job.held) f) ∙ x))
        own (stopped g f) x = absurd (false≢true (sym (ap (λ (o : Outcome). holds_any o.job.held) f) ∙ x))
        own (goes y u z f) x = ap (λ (o : Outcome). o.job.deadline.0) f

        go : Dec (k ≡ p) → ((job_at s k).pending ≡ true) × ((job_at next k).deadline.0 ≡ (job_at s k).deadline.0) × (place_at s k ≤ mark_place s.tick.0 (Some m))
        go (yes q) =
            let same : job_at next p ≡ waited job = closed-set-same s p job (omega (arith, below_16 (passes passed) good.stands p there, good.stands.long)) in
            let held : holds_any job.held ≡ true = sym (ap (λ (j : Job). holds_any j.held) same) ∙ ap (λ (i : ℕ). holds_any (job_at next i).held) (sym q) ∙ hk in
            rw q (there, ap (λ (j : Job). j.deadline.0) same ∙ own (settled_is (task_at t p) said _) held, runner_reaches m e)
        go (no q) =
            let same : job_at next k ≡ waited (job_at s k) = closed-set-other s p job k q in
            let held : holds_any (job_at s k).held ≡ true = sym (ap (λ (j : Job). holds_any j.held) same) ∙ hk in
            (pending k held, ap (λ (j : Job). j.deadline.0) same, last m e k held)

    on_tick : NoneBehind next
    on_tick m e k hk =
        let w = was k hk m e in
        let now = good.stands.now in
        let d = good.mid.numbers.distance_some k w.0 in
        let near : 1 ≤ distance s.tick.0 m.deadline.0 = mark_ahead in
        omega (
          arith,
          ap (λ (x : ℕ). place (after s.tick.0 1) x k) w.1,
          w.2,
          place-next s.tick.0 (job_at s k).deadline.0 k now d,
          place-next s.tick.0 m.deadline.0 m.position now near,
        )
      where
        mark_ahead : 1 ≤ distance s.tick.0 m.deadline.0
        mark_ahead =
            omega (
              arith,
              runner_reaches m e,
              good.mid.numbers.distance_some p there,
              place-distance s.tick.0 (job_at s p).deadline.0 p (omega (arith, below_16 (passes passed) good.stands p there)),
              place-distance s.tick.0 m.deadline.0 m.position (omega (arith, (good.stands.mark m e).position, (passes passed).count.high)),
            )

  -- any call
  kept : (call : Call) (a : Answer) → Made t s call a → NoneBehind a.state
  kept call a (refused n l e) = subst (λ (b : Answer). NoneBehind b.state) (sym e) last
  kept call a (takes-on p c l f e) = subst (λ (b : Answer). NoneBehind b.state) (sym e) (on_release p l)
  kept call a (chooses c e) = subst (λ (b : Answer). NoneBehind b.state) (sym e) (subst NoneBehind (sym (Law.choice-is t s)) (go (dec_lt (top s) no_place)))
    where
      go : Dec (top s < no_place) → NoneBehind (Chosen.chosen_state t s)
      go (yes l) = on_choice l
      go (no l) = no_mark (Chosen.chosen_state t s) (ap (λ (u : Turn). u.mark) (Law.idle-turn t s (omega arith)))
  kept call a (idles c h r f e) = subst (λ (b : Answer). NoneBehind b.state) (sym e) (λ m q k x. absurd (f k (pending k (sym (ap (λ (j : Job). holds_any j.held) (closed_at s s.jobs k)) ∙ x))))
  kept call a (runs p said c h r l f g e) = subst (λ (b : Answer). NoneBehind b.state) (sym e) (on_tick h p said r f)

module _ {t : Table} (passed : Passed written t) (now : ℕ) (small : now < 2 ^ 32) where
  none_behind : (calls : List Call) → NoneBehind (at passed now small calls)
  unfolding lines
  none_behind [] = no_mark (start written t now) (ap (λ (s : State). s.mark) (start_is passed now small ∙ empty-is (tick now)))
  none_behind (call ∷ before) = kept (at_good passed now small before) (none_behind before) call _ (made passed now small before call)

  -- so "the last in order among the old mark and those holders" is the old mark, where one stands
  pub mark-stays : (calls : List Call) (m : Place) → (at passed now small calls).mark ≡ Some m → (run : ℕ)
      → max (old_mark (at passed now small calls)) (last_holder (at passed now small calls) run) ≡ old_mark (at passed now small calls)
  mark-stays calls m e run = go (dec_lt 0 (last_holder s run))
    where
      s : State
      s = at passed now small calls

      go : Dec (0 < last_holder s run) → max (old_mark s) (last_holder s run) ≡ old_mark s
      go (no l) = omega arith
      go (yes l) =
          let w = last_found s run l in
          let h = both (is_holder (job_at s w.0)) (ltb run (place_at s w.0)) w.2 in
          let held = both (holds_any (job_at s w.0).held) (job_at s w.0).pending h.0 in
          omega (arith, w.3, none_behind calls m e w.0 held.0, ap (mark_place s.tick.0) e)

  -- a runner that is not top blocks it, and so holds something
  blocker_holds : (calls : List Call) → let s = at passed now small calls in top s < no_place → (runner t s ≡ top s → ⊥) → holds_any (job_at s (position_of (runner t s))).held ≡ true
  blocker_holds calls l n = go (Chosen.chosen good l).who
    where
      s : State
      s = at passed now small calls

      good : Good passed s
      good = at_good passed now small calls

      go : ((position_of (runner t s) ≡ position_of (top s)) × (((view t s).started (position_of (top s)) ≡ true) ⊎ Free (tasks t) (view t s) (position_of (top s))))
          ⊎ Blocked (tasks t) (view t s) (position_of (runner t s)) (position_of (top s))
          → holds_any (job_at s (position_of (runner t s))).held ≡ true
      go (inl w) = absurd (n (Law.runner-place t s (is_ready good) l ∙ ap (place_at s) w.0 ∙ sym (Chosen.first-is good l).2))
      go (inr w) =
          (sees passed good.stands).left-holds (position_of (runner t s)) _
          (runner_blocks (sees passed good.stands) (Chosen.chosen good l) good.mid.shorter good.mid.clear w)

  -- so "the last in order among the old mark, the runner, and any holders behind the runner" is the old mark too
  pub mark_stays-blocked : (calls : List Call) (m : Place) → let s = at passed now small calls in s.mark ≡ Some m → top s < no_place → (runner t s ≡ top s → ⊥)
      → max (old_mark s) (max (runner t s) (last_holder s (runner t s))) ≡ old_mark s
  mark_stays-blocked calls m e l n =
      let s = at passed now small calls in
      omega (
        arith,
        mark-stays calls m e (runner t s),
        none_behind calls m e (position_of (runner t s)) (blocker_holds calls l n),
        ap (mark_place s.tick.0) e,
        Law.runner-place t s (is_ready (at_good passed now small calls)) l,
      )
