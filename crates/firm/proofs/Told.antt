-- Whatever the rules answer to a call, some result of the code's type tells it. Assumes nothing.
use Rattle.std.specs.Prelude.{Some, None, Ok, Err, Result}
use Prim.Native.Nat.{ℕ}
use mathlib.Core.Path.{◌≡◌, refl, sym, subst}
use mathlib.Core.Bool.{Bool, true, false, not, cond}
use mathlib.Core.List.{List}
use mathlib.Core.Logic.{◌⊎◌, inl, inr}
use lib.ListN.{set}
use lib.Dec.{ltb, leb, eqb}
use Rattle.table.specs.declared.Table.{Table}
use Rattle.table.specs.Table.{task_at}
use Rattle.state.specs.declared.Ending.{Ending}
use Rattle.state.specs.declared.Ending.TheVariants.{GoesOn}
use Rattle.state.specs.declared.Job.{Job}
use Rattle.state.specs.declared.Mode.TheVariants.{Independent}
use Rattle.state.specs.declared.Refusal.{Refusal}
use Rattle.state.specs.declared.Refusal.TheVariants.{Inconsistent, NotInTable, WrongHalf, TooEarly, MayNotTake, NotNow, HeldByAnother, Late}
use Rattle.state.specs.declared.Report.{Report}
use Rattle.state.specs.declared.Report.TheVariants.{CarryOn, Done, Take, Give}
use Rattle.state.specs.declared.State.{State}
use Rattle.state.specs.declared.Success.{Success}
use Rattle.state.specs.Answers.{Answer, bare, told}
use Rattle.state.specs.Order.{held_resources}
use Rattle.state.specs.State.{job_at, Runner}
use Rattle.choice.specs.declared.Turn.{Turn}
use Rattle.choice.specs.Choice.{choice, turn}
use Rattle.report.specs.declared.Outcome.{Outcome}
use Rattle.report.specs.Report as AtReport
use Rattle.report.specs.Report.{closed, late, finished, objection, report_as, report_idle, report_run}
use Rattle.report.proofs.Laws.Answers.{Fair, Objection, objection-is, holding, never, taken, outcome}
use Rattle.consistency.specs.Consistency.{consistent}
use Rattle.machine.specs.Machine.{mid_tick, released_at, release, choose, report}

module _ (s : State) where
  -- some result tells this answer
  abbrev pub Told : Answer → Type 0
  Told a = (r : Result Success Refusal) × (told s r ≡ a)

  either : (b : Bool) {x y : Answer} → Told x → Told y → Told (cond b x y)
  either true x y = x
  either false x y = y

  refuses : (r : Refusal) → Told (told s (Err r))
  refuses r = (Err r, refl)

  module _ (u : Turn) where
    finishes : (jobs : List Job) (ending : Ending) → Told (finished s jobs u ending)
    unfolding finished
    finishes jobs ending =
        either (late (closed s jobs)) (refuses Late) (Ok record { state = closed s jobs; runner = u.runner; mode = u.mode; speed = u.speed; ending = ending }, refl)

    idles : (said : Report) → Told (report_idle s u said)
    idles CarryOn = finishes s.jobs GoesOn
    idles Done = refuses NotNow
    idles (Take r) = refuses NotNow
    idles Give = refuses NotNow

  module _ (t : Table) where
    runs : (u : Turn) (said : Report) (p : ℕ) → Told (report_run t s u p said)
    unfolding report_run
    runs u said p = go (objection (task_at t p) (job_at s p) (held_resources s) said) (objection-is (task_at t p) (job_at s p) (held_resources s) said)
      where
        o : Outcome
        o = outcome t s u p said

        by : ℕ → Answer
        by n = cond (eqb n 0) (finished s (set s.jobs p o.job) u o.ending) (bare n s)

        is : {n k : ℕ} → n ≡ k → Told (by k) → Told (by n)
        is e = subst (λ (n : ℕ). Told (by n)) (sym e)

        go : (n : ℕ) → ((n ≡ 0) × Fair (task_at t p) (job_at s p) (held_resources s) said) ⊎ Objection (task_at t p) (job_at s p) (held_resources s) n → Told (by n)
        go n (inl w) = is w.0 (finishes u (set s.jobs p o.job) o.ending)
        go n (inr (holding e)) = is e (refuses NotNow)
        go n (inr (never e)) = is e (refuses MayNotTake)
        go n (inr (taken r x y z e)) = is e (refuses HeldByAnother)

    as_runs : (said : Report) (r : Runner) → Told (report_as t s (turn t s) r said)
    as_runs said None = idles (turn t s) said
    as_runs said (Some p) = runs (turn t s) said p

    reports : (said : Report) → Told (AtReport.report t s said)
    unfolding AtReport.report
    reports said = as_runs said (turn t s).runner

    pub report-told : (said : Report) → Told (report t s said)
    unfolding report
    report-told said = either (not (consistent t s)) (refuses Inconsistent) (either (not (mid_tick s.half)) (refuses WrongHalf) (reports said))

    pub choose-told : Told (choose t s)
    unfolding choose
    choose-told =
        let c = choice t s in
        either (not (consistent t s)) (refuses Inconsistent)
        (either (mid_tick s.half) (refuses WrongHalf) (Ok record { state = c.state; runner = c.turn.runner; mode = c.turn.mode; speed = c.turn.speed; ending = GoesOn }, refl))

    pub release-told : (p : ℕ) → Told (release t s p)
    unfolding release
    release-told p =
        either (not (consistent t s)) (refuses Inconsistent)
        (either (mid_tick s.half) (refuses WrongHalf)
        (either (leb t.count p) (refuses NotInTable)
        (either (ltb 0 (job_at s p).wait.0) (refuses TooEarly) (Ok record { state = released_at t s p; runner = None; mode = Independent; speed = 0; ending = GoesOn }, refl))))
