-- What a call answers, by what its calls gave: the verdict of the table, then the examination of the state. Assumes nothing.
use Rattle.std.specs.Prelude.{Option, Some}
use Prim.Native.Nat.{ℕ, ◌^◌, ◌≤◌, ◌<◌}
use mathlib.Core.Path.{◌≡◌, sym, ap, ap₂, ◌∙◌}
use mathlib.Core.Bool.{Bool, true, false, not}
use native.Mathlib.Omega.{arith}
use lib.ListN.{length, set}
use borrow.Author.Tests.{eq-eqb, ne_eqb}
use Rattle.units.proofs.Laws.Tests.{failed, told-false, cond_yes, cond_no}
use Rattle.verdict.specs.Verdict.{Verdict, passing, answer}
use Rattle.table.specs.declared.Task.{Task}
use Rattle.table.specs.declared.Table.{Table}
use Rattle.table.specs.Table.{task_at}
use Rattle.admission.specs.Admission.{verdict}
use Rattle.admission.proofs.Laws.Admitted.{admitted}
use Rattle.state.specs.declared.Job.{Job}
use Rattle.state.specs.declared.State.{State}
use Rattle.state.specs.declared.Report.{Report}
use Rattle.state.specs.State.{job_at}
use Rattle.state.specs.Order.{held_resources}
use Rattle.state.specs.Answers.{Answer, bare}
use Rattle.choice.specs.Choice.{in_mid_tick, choice, turn}
use Rattle.choice.proofs.Laws.Runner.{runner_below}
use Rattle.report.proofs.Laws.Answers.{taken-answer}
use Rattle.consistency.specs.Consistency.{consistent}
use Rattle.seen.specs.declared.Examined.{Examined}
use Rattle.seen.specs.Seen.{due, examined, Reported, runner_position, reported_by, late_by}
use Rattle.seen.proofs.Laws.Examined.{fit, runner-there, handed_back}
use Rattle.seen.proofs.Laws.Reports.{answered, report-by}
use Rattle.machine.specs.Machine.{mid_tick, released, release, chosen, choose, report}
use Rattle.machine.proofs.Laws.Calls.{report_11, release_12, release-taken, choose_makes, report-runs}

-- a position in a table that passes is below 16
pub found_place : (t : Table) → passing ≡ verdict t → {p : ℕ} → p < t.count → p < 16
found_place t e l = let few = (admitted t (ap (λ (v : Verdict). (answer v).0) (sym e))).count.high in omega arith

-- a release, with the job and the task at its position found
module _ (t : Table) (s : State) (p : ℕ) (good : consistent t s ≡ true) (between : mid_tick s.half ≡ false) (there : p < t.count) {j : Job} (e : j ≡ job_at s p) where
  pub found_free : j.wait.0 ≤ 0 → {next : Job} {task : Task} → next ≡ released task s.tick.0 → task ≡ task_at t p
      → release t s p ≡ bare 0 (record { tick = s.tick; jobs = set s.jobs p next; mark = s.mark; half = s.half; runner = s.runner })
  found_free l h i = release-taken t s good between p there (rw (← e) l) ∙ rw (h, i)

-- what each call gave, and what each test said of it, up to whether the state is in mid-tick
module _ (t : Table) (s : State) {x : Option Examined} {y : Examined} {h : Bool} (a : passing ≡ verdict t) (e : x ≡ examined t s) (f : x ≡ Some y) (g : h ≡ mid_tick s.half) where
  pub found_waiting : (p : ℕ) → h ≡ false → p < t.count → 0 < (job_at s p).wait.0 → release t s p ≡ bare 12 s
  found_waiting p m l w = release_12 t s (fit t s e f a) (sym g ∙ m) p l w

  pub found_between : (said : Report) → not h ≡ true → report t s said ≡ bare 11 s
  found_between said m = report_11 t s (fit t s e f a) said (failed g m)

-- a choice and a report, with what the examination handed back
module _ (t : Table) (s : State) (a : passing ≡ verdict t) {x : Option Examined} {found : Examined} (e : x ≡ examined t s) (fits : x ≡ Some found) where
  good : consistent t s ≡ true
  good = fit t s e fits a

  abbrev whole : Examined
  whole = record { turn = turn t s; held = held_resources s; due = due s }

  is_whole : found ≡ whole
  is_whole = handed_back t s e fits

  pub found_choice : (next : State) → next ≡ in_mid_tick s found.turn → {h : Bool} → h ≡ mid_tick s.half → h ≡ false → chosen (record { state = next; turn = found.turn }) ≡ choose t s
  unfolding choice
  found_choice next h d m =
      let u : found.turn ≡ turn t s = ap (λ (x : Examined). x.turn) is_whole in
      choose_makes t s good (told-false d m) (record { state = next; turn = found.turn }) (rw (h, u))

  -- whoever runs is at a position below 16
  pub found_below : (p : ℕ) → found.turn.runner ≡ Some p → p < 16
  found_below p h = runner_below t s p (sym (ap (λ (x : Examined). x.turn.runner) is_whole) ∙ h)

  module _ {after : Reported} {p : ℕ} (said : Report) (f : after ≡ reported_by t s found.turn.runner found.held found.turn.speed said) (g : p ≡ runner_position found.turn.runner)
      (mid : mid_tick s.half ≡ true) (long : length s.jobs ≡ 16) (small : s.tick.0 < 2 ^ 32) where
    abbrev by : Examined → Answer
    by x = answered s x.due x.turn (runner_position x.turn.runner) (reported_by t s x.turn.runner x.held x.turn.speed said)

    report-is : report t s said ≡ answered s found.due found.turn p after
    report-is =
        report-runs t s good said mid ∙ report-by t s long small (runner-there t s good long small) said ∙ ap by (sym is_whole)
        ∙ sym (ap₂ (answered s found.due found.turn) g f)

    pub found_number : (after.number ≡ 0 → ⊥) → report t s said ≡ bare after.number s
    found_number n = report-is ∙ cond_no _ _ (ne_eqb after.number 0 n)

    module _ (z : after.number ≡ 0) {b : Bool} (l : b ≡ late_by found.due p (not after.job.pending)) where
      pub found_late : b ≡ true → report t s said ≡ bare 16 s
      found_late w = report-is ∙ cond_yes _ _ (eq-eqb after.number 0 z) ∙ cond_yes _ _ (sym l ∙ w)

      pub found_closed : b ≡ false → report t s said ≡ taken-answer s (set s.jobs p after.job) found.turn after.ending
      found_closed w = report-is ∙ cond_yes _ _ (eq-eqb after.number 0 z) ∙ cond_no _ _ (sym l ∙ w)
