-- Who had a tick, in which mode and at which speed, and how the job ended, by the whole list. Assumes nothing.
use Rattle.std.specs.Prelude.{Some, None}
use Prim.Native.Nat.{ℕ, ◌≤◌, ◌<◌}
use mathlib.Core.Path.{◌≡◌, refl, sym, ap, ◌∙◌, subst}
use mathlib.Core.Bool.{Bool, true, false, cond, false≢true}
use mathlib.Core.List.{List, ◌∷◌}
use mathlib.Core.Logic.{◌⊎◌, inl, inr}
use mathlib.Core.Option.{some}
use native.Mathlib.Omega.{arith}
use lib.ListN.{set}
use borrow.Author.Tests.{lt-ltb, eqb-true}
use Rattle.units.proofs.Laws.Folds.{both}
use Rattle.table.specs.declared.Table.{Table}
use Rattle.table.specs.Table.{task_at, I}
use Rattle.state.specs.Answers.{Answer, ending_number}
use Rattle.state.specs.declared.Job.{Job}
use Rattle.state.specs.declared.Section.{Section}
use Rattle.state.specs.declared.Ending.{Ending}
use Rattle.state.specs.declared.Ending.TheVariants as Ending·
use Rattle.state.specs.declared.Half.TheVariants.{Second}
use Rattle.state.specs.declared.Mode.{Mode}
use Rattle.state.specs.declared.Mode.TheVariants.{Synchronization}
use Rattle.state.specs.declared.Report.{Report}
use Rattle.state.specs.declared.Report.TheVariants.{CarryOn, Done, Take, Give}
use Rattle.state.specs.declared.State.{State}
use Rattle.state.specs.State.{job_at, Runner}
use Rattle.state.specs.Order.{no_place, holds_any, held_resources}
use Rattle.choice.specs.declared.Turn.{Turn}
use Rattle.choice.specs.Choice.{top, runner, alone, turn, choice}
use Rattle.choice.proofs.Laws.Choice as Law
use Rattle.report.specs.declared.Outcome.{Outcome}
use Rattle.report.specs.Report as Report
use Rattle.report.proofs.Laws.Jobs.{Fate, done, spent, stopped, goes, settled_is, closed-set-same}
use Rattle.report.proofs.Laws.Answers.{Fair, outcome, taken-answer}
use Rattle.machine.specs.Machine.{chosen}
use Rattle.machine.proofs.Laws.Calls as Calls
use Rattle.promise.specs.History.{written, Call, choose, report, answered, Line, is_report, is_tick, is_at, is_own, sections, IsOpen, ends_at, latest, is_there, standing, how_ended, ending_by}
use Rattle.promise.specs.Promise.{Passed, InMode}
use Rattle.promise.proofs.Edge.Choice as Chosen
use Rattle.promise.proofs.Edge.Invariant.{some-top, passes, Good, is_ready}
use Rattle.promise.proofs.Edge.View.{below_16}
use Rattle.promise.proofs.Keep.Made.{Made, refused, takes-on, chooses, idles, runs, steady}
use Rattle.promise.proofs.Keep.Made as Made
use Rattle.promise.proofs.Keep.Each.{keep}
use Rattle.promise.proofs.History.Counts.{has_ended}
use Rattle.promise.proofs.History.Tells.{line, Onward}
use Rattle.promise.proofs.History.Onward.{onward}
use Rattle.promise.proofs.History.List.{ends_here, ends_own}
use Rattle.promise.proofs.History.Listed.{Stage, between, midway, Listed}
use Rattle.promise.proofs.History.Holds.{tells, on_stack}

module _ {t : Table} {passed : Passed written t} {s : State} (good : Good passed s) {h : List Line} (listed : Listed t s h) where
  abbrev reply : Call → Answer
  reply call = answered written t s call

  -- ---- who had the tick

  module _ (said : Report) (zero : (reply (report said)).number ≡ 0) where
    abbrev a : Answer
    a = reply (report said)

    -- a tick that is closed was the turn's
    closes : {A : Type 0} (of : Answer → A) (by : Turn → A) → ((jobs : List Job) (ending : Ending) → of (taken-answer s jobs (turn t s) ending) ≡ by (turn t s)) → of a ≡ by (turn t s)
    closes of by same = go (keep good (report said)).made
      where
        go : Made t s (report said) a → of a ≡ by (turn t s)
        go (refused n l e) = absurd (omega (arith, l, zero, ap (λ (b : Answer). b.number) e))
        go (takes-on p c l f e) = absurd (false≢true (sym (ap is_report c)))
        go (chooses c e) = absurd (false≢true (sym (ap is_report c)))
        go (idles c m r f e) = ap of e ∙ same s.jobs Ending·.GoesOn
        go (runs p q c m r l f g e) = ap of e ∙ same (set s.jobs p (outcome t s (turn t s) p q).job) (outcome t s (turn t s) p q).ending

    pub chosen_is : (c : Answer) × (standing h ≡ some c) × (a.runner ≡ c.runner) × (a.mode ≡ c.mode) × (a.speed ≡ c.speed)
    chosen_is = go listed.stage
      where
        go : Stage t s h → (c : Answer) × (standing h ≡ some c) × (a.runner ≡ c.runner) × (a.mode ≡ c.mode) × (a.speed ≡ c.speed)
        go (between f n) = absurd (omega (arith, zero, ap (λ (b : Answer). b.number) (Calls.report_11 t s (steady good) said (Made.between good f))))
        go (midway c f n w) = (
          c,
          n,
          closes (λ b. b.runner) (λ u. u.runner) (λ jobs ending. refl) ∙ w.0,
          closes (λ b. b.mode) (λ u. u.mode) (λ jobs ending. refl) ∙ w.1,
          closes (λ b. b.speed) (λ u. u.speed) (λ jobs ending. refl) ∙ w.2,
        )

  -- ---- the tick of a job

  module _ (p : ℕ) (said : Report) (r : (turn t s).runner ≡ Some p) (f : (job_at s p).pending ≡ true) where
    abbrev o : Outcome
    o = outcome t s (turn t s) p said

    abbrev ran : Answer
    ran = taken-answer s (set s.jobs p o.job) (turn t s) o.ending

    abbrev some_job : top s < no_place
    some_job = some-top good p f

    at_p : Chosen.at good some_job ≡ p
    at_p = Chosen.runs-at good some_job p r

    -- its speed
    speed-fits : p < t.count → (1 ≤ (turn t s).speed) × ((turn t s).speed ≤ t.full) × InMode t p (turn t s).mode (turn t s).speed
    speed-fits l = (
      omega (arith, (passes passed).ranges p l, Law.speed-independent t s (is_ready good) some_job, ap (I t) at_p),
      Law.speed-full t s (is_ready good) some_job t.full (λ k b. ((passes passed).ranges k b).s_high),
      subst (λ (i : ℕ). InMode t i (turn t s).mode (turn t s).speed) at_p (go (Law.marked-or-alone t s (is_ready good) some_job)),
    )
      where
        at : ℕ
        at = Chosen.at good some_job

        go : Law.Marked t s (is_ready good) some_job ⊎ (turn t s ≡ alone (runner t s) (task_at t at)) → InMode t at (turn t s).mode (turn t s).speed
        go (inl w) = subst (λ (o : Mode). InMode t at o (turn t s).speed) (sym w.mode) w.speed
        go (inr e) = subst (λ (u : Turn). InMode t at u.mode u.speed) (sym e) refl

    over-a-holder : (j : ℕ) → (j ≡ p → ⊥) → holds_any (job_at s j).held ≡ true → (turn t s).mode ≡ Synchronization
    over-a-holder j n e = Chosen.over-holder good some_job j e (λ z. n (z ∙ at_p))

    -- its ending: it ends at this line if the job is pending no more
    abbrev here : Line
    here = line (report said) ran

    pending-after : (job_at ran.state p).pending ≡ o.job.pending
    pending-after = ap (λ (j : Job). j.pending) (closed-set-same s p o.job (omega (arith, below_16 (passes passed) good.stands p f, good.stands.long)))

    abbrev ended_as : ℕ
    ended_as = cond (ends_at t p here (latest p h)) (how_ended (report said)) 0

    abbrev job : Job
    job = Report.worked (task_at t p) (turn t s).speed (job_at s p)

    ends : (b : Bool) → has_ended t p (here ∷ latest p h) ≡ b → ended_as ≡ cond b (how_ended (report said)) 0
    ends b e = ap (λ (b : Bool). cond b (how_ended (report said)) 0) (sym (ends_here here (latest p h) p t (tells good listed p f).going) ∙ e)

    -- what is not done is cut
    cut : (q : Report) → (Report.settled (task_at t p) q job).ending ≡ Ending·.Cut → how_ended (report q) ≡ 2
    cut CarryOn e = refl
    cut Done e = absurd (omega (arith, ap ending_number e))
    cut (Take r) e = refl
    cut Give e = refl

    by_fate : Onward t p (latest p h) (report said) ran → Fate (task_at t p) said job o → ran.ending ≡ ended_as
    by_fate (inl x) (goes y n k g) = ap (λ (o : Outcome). ending_number o.ending) g ∙ sym (ends false x.going)
    by_fate (inl x) (done e g) = absurd (false≢true (sym (pending-after ∙ ap (λ (o : Outcome). o.job.pending) g) ∙ x.pending))
    by_fate (inl x) (spent e g) = absurd (false≢true (sym (pending-after ∙ ap (λ (o : Outcome). o.job.pending) g) ∙ x.pending))
    by_fate (inl x) (stopped b g) = absurd (false≢true (sym (pending-after ∙ ap (λ (o : Outcome). o.job.pending) g) ∙ x.pending))
    by_fate (inr x) (goes y n k g) = absurd (false≢true (sym x.1 ∙ pending-after ∙ ap (λ (o : Outcome). o.job.pending) g ∙ f))
    by_fate (inr x) (done e g) = ap (λ (o : Outcome). ending_number o.ending) g ∙ sym (ends true x.0 ∙ ap (λ (q : Report). how_ended (report q)) e)
    by_fate (inr x) (spent e g) = let two = ap (λ (o : Outcome). o.ending) g in ap ending_number two ∙ sym (ends true x.0 ∙ cut said two)
    by_fate (inr x) (stopped b g) = let two = ap (λ (o : Outcome). o.ending) g in ap ending_number two ∙ sym (ends true x.0 ∙ cut said two)

    ending-ran : p < t.count → s.half ≡ Second → Fair (task_at t p) (job_at s p) (held_resources s) said → ran.ending ≡ ended_as
    ending-ran l m g = by_fate (onward good p (latest p h) (tells good listed p f) (report said) ran (runs p said refl m r l f g refl)) (settled_is (task_at t p) said job)

  -- ---- the endings

  abbrev Ends : Call → Answer → Type 0
  Ends call a = a.ending ≡ ending_by t h (line call a) a.runner

  pub ending-is : (call : Call) → Ends call (reply call)
  ending-is call = go (keep good call).made
    where
      ends_as : {q : Call} {b : Answer} → call ≡ q → reply call ≡ b → Ends q b → Ends call (reply call)
      ends_as {q} {b} c e x = subst (λ (q : Call). Ends q (reply call)) (sym c) (subst (λ (b : Answer). Ends q b) (sym e) x)

      -- a choice ends nothing
      none_ends : (a : Answer) (r : Runner) → 0 ≡ ending_by t h (line choose a) r
      none_ends a None = refl
      none_ends a (Some k) = sym (ap (λ (b : Bool). cond b 0 0) (ends_own (line choose a) (latest k h) k t refl))

      go : Made t s call (reply call) → Ends call (reply call)
      go (refused n l e) = ends_as refl e refl
      go (takes-on p c l f e) = ends_as c e refl
      go (chooses c e) = ends_as c e (none_ends (chosen (choice t s)) (choice t s).turn.runner)
      go (idles c m r f e) = ends_as c e (sym (ap (ending_by t h (line (report CarryOn) (taken-answer s s.jobs (turn t s) Ending·.GoesOn))) r))
      go (runs p said c m r l f g e) = ends_as c e (ending-ran p said r f l m g ∙ sym (ap (ending_by t h (line (report said) (ran p said r f))) r))

  -- ---- the speeds

  -- what holds of the turn of a job's own tick holds of what is answered
  own_turn : (said : Report) (k : ℕ) → is_own k (line (report said) (reply (report said))) ≡ true → (P : Mode → ℕ → Type 0)
      → ((q : Report) → (turn t s).runner ≡ Some k → (job_at s k).pending ≡ true → k < t.count → P (turn t s).mode (turn t s).speed) → P (reply (report said)).mode (reply (report said)).speed
  own_turn said k own P of-turn = go (keep good (report said)).made
    where
      a : Answer
      a = reply (report said)

      mine : {q : Runner} → a.runner ≡ q → is_at k q ≡ true
      mine e = sym (ap (is_at k) e) ∙ (both (is_tick (line (report said) a)) _ own).1

      go : Made t s (report said) a → P a.mode a.speed
      go (refused n l e) = absurd (omega (arith, l, eqb-true a.number 0 (both _ _ own).0, ap (λ (b : Answer). b.number) e))
      go (takes-on p c l f e) = absurd (false≢true (sym (ap is_report c)))
      go (chooses c e) = absurd (false≢true (sym (ap is_report c)))
      go (idles c m r f e) = absurd (false≢true (mine (ap (λ (b : Answer). b.runner) e ∙ r)))
      go (runs p q c m r l f g e) =
          let same : p ≡ k = eqb-true p k (mine (ap (λ (b : Answer). b.runner) e ∙ r)) in
          subst (λ (b : Answer). P b.mode b.speed) (sym e)
          (of-turn q (r ∙ ap Some same) (ap (λ (i : ℕ). (job_at s i).pending) (sym same) ∙ f) (omega (arith, l)))

  pub speed-is : (said : Report) (k : ℕ) → is_own k (line (report said) (reply (report said))) ≡ true
      → (1 ≤ (reply (report said)).speed) × ((reply (report said)).speed ≤ t.full) × InMode t k (reply (report said)).mode (reply (report said)).speed
  speed-is said k own = own_turn said k own (λ o v. (1 ≤ v) × (v ≤ t.full) × InMode t k o v) (λ q r f l. speed-fits k q r f l)

  pub over-holder : (said : Report) (k j p : ℕ) (x : Section) → is_own k (line (report said) (reply (report said))) ≡ true → (j ≡ k → ⊥)
      → is_there t j h ≡ true → IsOpen (sections j (latest j h)) p x → (reply (report said)).mode ≡ Synchronization
  over-holder said k j p x own n e at =
      let w = on_stack good listed j p x e at in
      own_turn said k own (λ o v. o ≡ Synchronization) (λ q r f l. over-a-holder k q r f j n (lt-ltb 0 (job_at s j).held.depth (omega (arith, w.2))))
