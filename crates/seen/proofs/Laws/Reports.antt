-- A report, by what it makes of the runner's job and by who is due. Assumes nothing.
use Rattle.std.specs.Prelude.{Some, None}
use Prim.Native.Nat.{ℕ, ◌^◌, ◌<◌}
use mathlib.Core.Path.{◌≡◌, refl, sym, ap, ◌∙◌}
use mathlib.Core.Bool.{Bool, true, false, not, cond, false≢true}
use native.Mathlib.Nat.{le_of_eq}
use native.Mathlib.Omega.{arith}
use lib.ListN.{length, set}
use lib.Seq.{set_out}
use lib.Dec.{eqb}
use Rattle.units.proofs.Laws.Tests.{cond_no}
use Rattle.table.specs.declared.Task.{Task}
use Rattle.table.specs.declared.Table.{Table}
use Rattle.table.specs.Table.{task_at}
use Rattle.state.specs.declared.Job.{Job}
use Rattle.state.specs.declared.State.{State}
use Rattle.state.specs.declared.Ending.TheVariants as Ends
use Rattle.state.specs.declared.Report.{Report}
use Rattle.state.specs.declared.Report.TheVariants.{CarryOn, Done, Take, Give}
use Rattle.state.specs.State.{no_job, job_at, Runner}
use Rattle.state.specs.Order.{held_resources}
use Rattle.state.specs.Answers.{Answer, bare}
use Rattle.choice.specs.declared.Turn.{Turn}
use Rattle.choice.specs.Choice.{turn}
use Rattle.choice.proofs.Laws.Runner.{runner_below}
use Rattle.report.specs.declared.Outcome.{Outcome}
use Rattle.report.specs.Report.{objection, worked, settled, finished, report_idle, report_run, report}
use Rattle.report.proofs.Laws.Jobs.{Fate, done, spent, stopped, goes, settled_is}
use Rattle.report.proofs.Laws.Answers.{outcome, taken-answer, report-as}
use Rattle.seen.specs.Seen.{due, runner_position, Reported, reported, reported_by, late_by}
use Rattle.seen.proofs.Laws.Late.{late-idle, late-ran}

-- a job that is there after its tick has the deadline that it had
pub settled_keeps : (task : Task) (said : Report) (j : Job) → (settled task said j).job.pending ≡ true → (settled task said j).job.deadline.0 ≡ j.deadline.0
settled_keeps task said j = go (settled task said j) (settled_is task said j)
  where
    there : Outcome → Bool
    there o = o.job.pending

    go : (o : Outcome) → Fate task said j o → there o ≡ true → o.job.deadline.0 ≡ j.deadline.0
    go o (done e f) h = absurd (false≢true (sym (ap there f) ∙ h))
    go o (spent e f) h = absurd (false≢true (sym (ap there f) ∙ h))
    go o (stopped e f) h = absurd (false≢true (sym (ap there f) ∙ h))
    go o (goes d x y f) h = ap (λ (o : Outcome). o.job.deadline.0) f

-- the answer to the report of a turn, whose runner is at p, by who is due
abbrev pub answered : State → ℕ → Turn → ℕ → Reported → Answer
answered s d u p r =
    cond (eqb r.number 0)
    (cond (late_by d p (not r.job.pending)) (bare 16 s) (taken-answer s (set s.jobs p r.job) u r.ending))
    (bare r.number s)

module _ (t : Table) (s : State) (long : length s.jobs ≡ 16) (small : s.tick.0 < 2 ^ 32) (u : Turn) where
  -- past the end nothing changes
  idles : (said : Report) → report_idle s u said ≡ answered s (due s) u 16 (reported_by t s None (held_resources s) u.speed said)
  unfolding finished
  idles CarryOn = rw (set_out s.jobs 16 no_job (le_of_eq long), late-idle s small true)
  idles Done = refl
  idles (Take r) = refl
  idles Give = refl

  module _ (said : Report) (p : ℕ) (below : p < 16) (was : (job_at s p).pending ≡ true) where
    abbrev number : ℕ
    number = objection (task_at t p) (job_at s p) (held_resources s) said

    abbrev after : Outcome
    after = outcome t s u p said

    runs : report_run t s u p said ≡ answered s (due s) u p (reported (task_at t p) (job_at s p) (held_resources s) u.speed said)
    unfolding finished report_run reported
    runs = go (eqb number 0) refl
      where
        go : (b : Bool) → eqb number 0 ≡ b → cond b (finished s (set s.jobs p after.job) u after.ending) (bare number s)
            ≡ answered s (due s) u p (cond b (record { number = 0; job = after.job; ending = after.ending }) (record { number = number; job = job_at s p; ending = Ends.GoesOn }))
        go true e = rw (late-ran s small p after.job (omega arith) was (settled_keeps (task_at t p) said (worked (task_at t p) u.speed (job_at s p))))
        go false e = sym (cond_no _ _ e)

-- the whole, where the runner is pending
pub report-by : (t : Table) (s : State) → length s.jobs ≡ 16 → s.tick.0 < 2 ^ 32 → ((p : ℕ) → (turn t s).runner ≡ Some p → (job_at s p).pending ≡ true) → (said : Report)
    → report t s said ≡ answered s (due s) (turn t s) (runner_position (turn t s).runner) (reported_by t s (turn t s).runner (held_resources s) (turn t s).speed said)
report-by t s long small was said = by (turn t s).runner refl
  where
    by : (x : Runner) → (turn t s).runner ≡ x → report t s said ≡ answered s (due s) (turn t s) (runner_position x) (reported_by t s x (held_resources s) (turn t s).speed said)
    by None e = report-as t s said refl e ∙ idles t s long small (turn t s) said
    by (Some p) e = report-as t s said refl e ∙ runs t s long small (turn t s) said p (runner_below t s p e) (was p e)
