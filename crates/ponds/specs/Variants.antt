-- Machines by other rules. Of the test of consistency only that the table passes is asked, since the rest makes 01's choice again.
use Rattle.std.specs.Prelude.{ℕ, not, cond, eqb, ltb, leb}
use Rattle.units.specs.Clock.{tick}
use Rattle.verdict.specs.Verdict.{Verdict, answer}
use Rattle.table.specs.{declared.Table.Table}
use Rattle.admission.specs.Admission.{verdict}
use Rattle.state.specs.{declared.State.State, Answers.Answer, declared.Report.Report, State.job_at, State.empty, Order.no_place, Answers.bare}
use Rattle.choice.specs.{declared.Turn.Turn, Choice.top, Choice.idle, Choice.in_mid_tick, Choice.turn}
use Rattle.report.specs.Report.{report_as}
use Rattle.machine.specs.Machine.{mid_tick, released_at, chosen}
use Rattle.promise.specs.History.{Machine}

-- what is done in place of 01's rules: the verdict, a release that is taken, the turn, the report
pub record Variant : Type 0 where
  pub verdict : Table → Verdict
  pub taken : Table → State → ℕ → State
  pub turn : Table → State → Turn
  pub reported : Table → State → Turn → Report → Answer

abbrev pub ours : Variant
ours = record { verdict = verdict; taken = released_at; turn = turn; reported = λ t s u said. report_as t s u u.runner said }

-- 9 where the table does not pass, 11 in the wrong half
abbrev pub unless9 : Variant → Table → State → Answer → Answer
unless9 w t s a = cond (eqb (answer (w.verdict t)).0 0) a (bare 9 s)

abbrev pub by : Variant → Machine
by w = record {
  verdict = w.verdict;
  fresh = λ t now. record { verdict = w.verdict t; state = empty (cond (eqb (answer (w.verdict t)).0 0) now (tick 0)) };
  release = λ t s p.
      unless9 w t s
      (cond (mid_tick s.half) (bare 11 s)
      (cond (leb t.count p) (bare 10 s)
      (cond (ltb 0 (job_at s p).wait.0) (bare 12 s)
      (bare 0 (w.taken t s p)))));
  choose = λ t s. unless9 w t s (cond (mid_tick s.half) (bare 11 s) (let u = w.turn t s in chosen (record { state = in_mid_tick s u; turn = u })));
  report = λ t s said. unless9 w t s (cond (not (mid_tick s.half)) (bare 11 s) (w.reported t s (w.turn t s) said));
}

-- another verdict, another turn or another report alone
abbrev pub by_verdict : (Table → Verdict) → Machine
by_verdict verdict = by (record { verdict = verdict; taken = ours.taken; turn = ours.turn; reported = ours.reported })

abbrev pub by_turn : (Table → State → Turn) → Machine
by_turn turn = by (record { verdict = ours.verdict; taken = ours.taken; turn = turn; reported = ours.reported })

abbrev pub by_report : (Table → State → Turn → Report → Answer) → Machine
by_report reported = by (record { verdict = ours.verdict; taken = ours.taken; turn = ours.turn; reported = reported })

-- the rules in another form, for a runner at a place, and 01's idling
abbrev pub by_rules : (Table → State → Turn) → Machine
by_rules rules = by_turn λ t s. cond (ltb (top s) no_place) (rules t s) idle
