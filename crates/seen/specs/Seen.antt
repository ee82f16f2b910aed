-- Ask 2: "The choice walks the tasks once for top and again for the first started job. [..] Do both in one pass, with fewer locals. No answer changes." What that pass gathers and the calls are handed of it: each number is one of document 01's, and proofs/Laws shows that the rules follow from the numbers.
use Rattle.std.specs.Prelude.{ℕ, min, max, Option, Some, None, Ok, Err, Result}
use mathlib.Core.{Bool.Bool, Bool.not, Bool.◌&&◌, Bool.◌||◌, Bool.cond, List.List}
use lib.{ListN.get_or, Dec.ltb, Dec.leb, Dec.eqb}
use Rattle.units.specs.{declared.Ticks.Ticks, Amounts.ticks, Clock.distance, Folds.smallest, Folds.some, Sets.set, Sets.has, Sets.with}
use Rattle.table.specs.{declared.Task.Task, declared.Table.Table, Table.task_at, Table.D}
use Rattle.state.specs.{declared.Job.Job, declared.State.State, State.Mark, declared.Half.Half, declared.Half.TheVariants.First, declared.Half.TheVariants.Second, State.Runner, declared.Refusal.Refusal, declared.Ending.Ending, declared.Report.Report, declared.Report.TheVariants.CarryOn, declared.Report.TheVariants.Done, declared.Report.TheVariants.Take, declared.Report.TheVariants.Give, State.no_job, State.job_at, Order.place, Order.place_at, Order.no_place, Order.is_started, Order.holds_any, Order.first_in_order, Order.last_holder, Order.held_resources, Order.with_held, Answers.refusal_number}
use Rattle.choice.specs.{declared.Turn.Turn, Choice.top, Choice.fastest, Choice.mark_place, Choice.mark_at, Choice.synchronized, Choice.no_holder_behind, Choice.turn}
use Rattle.report.specs.{declared.Outcome.Outcome, Report.worked, Report.settled, Report.objection}
use Rattle.consistency.specs.Consistency.{positions_fit, mark_fits, half_fits, same_runner, same_mark}
use Rattle.seen.specs.{declared.Seen.Seen, declared.Examined.Examined}
use Rattle.state.specs.declared.Ending.TheVariants as Ends

-- a pending job that stands a tick before its deadline, and the positions of all such
abbrev pub is_due : ℕ → Job → Bool
is_due now j = j.pending && eqb (distance now j.deadline.0) 1

unfoldable pub due : State → ℕ
due s = set (λ k. is_due s.tick.0 (job_at s k)) 16

-- "top", "the first started job", and the last of all holders: with what is held and who is due, all that the pass gathers
unfoldable pub seen : State → Seen
seen s = record { held = held_resources s; due = due s; top = top s; started = first_in_order is_started s; last = last_holder s 0 }

abbrev pub nothing_seen : Seen
nothing_seen = record { held = 0; due = 0; top = no_place; started = no_place; last = 0 }

-- with the job at one more position
unfoldable pub seen_with : ℕ → Job → ℕ → Seen → Seen
seen_with now j k x =
    let at = place now j.deadline.0 k in
    cond j.pending
    (record { held = with_held x.held j.held; due = cond (eqb (distance now j.deadline.0) 1) (with x.due k) x.due; top = min x.top at; started = cond j.started (min x.started at) x.started; last = cond (holds_any j.held) (max x.last at) x.last })
    x

-- what was seen, if each place fits
unfoldable pub walked : Table → State → Option Seen
walked t s = cond (positions_fit t s) (Some (seen s)) None

-- nothing is held, or top is started (or nobody is there): top is not blocked, and the ceilings need not be asked for
unfoldable pub is_free : Seen → Bool
is_free x = eqb x.held 0 || eqb x.started x.top

-- some resource that is held has a ceiling that is at most d
unfoldable pub barred : ℕ → List Ticks → ℕ → Bool
barred held ceilings d = some (λ r. has held r && leb (get_or ceilings r (ticks 0)).0 d) 8

-- the runner's place, by top's D
unfoldable pub run_by : Seen → List Ticks → ℕ → ℕ
run_by x ceilings d = cond (barred x.held ceilings d) x.started x.top

-- the shortest D of the jobs ahead, among the first n positions, and the inherited speed by it: as `shortest_ahead` and `inherited`, but that nobody is looked for past the task count
unfoldable pub ahead_by : Table → State → ℕ → ℕ → ℕ
ahead_by t s run n = smallest (λ k. (job_at s k).pending && ltb (place_at s k) run) (D t) 65535 n

unfoldable pub inherited_by : Table → State → ℕ → ℕ → ℕ
inherited_by t s run own = let ahead = ahead_by t s run (min t.count 16) in fastest t (min own ahead) (max own ahead)

-- the five rules, by the runner's place, its task and the inherited speed
unfoldable pub rules_by : ℕ → Mark → Seen → ℕ → Task → ℕ → Turn
rules_by now mark x run task v =
    let old = mark_place now mark in
    cond (not (eqb run x.top)) (synchronized run (mark_at now (max old (max run x.last))) v)
    (cond (ltb run x.last) (synchronized run (mark_at now (max old x.last)) task.synchronization)
    (no_holder_behind mark old run task))

-- the clause of the half, by the turn, and by whether its runner is started
abbrev pub half_fits_by : Half → Runner → Mark → Bool → Turn → Bool
half_fits_by First on old begun u = same_runner None on
half_fits_by Second on old begun u = same_runner u.runner on && (same_mark u.mark old && begun)

-- all that consistency asks but that the table passes
unfoldable pub fits : Table → State → Bool
fits t s = positions_fit t s && (mark_fits t.count s.tick.0 s.mark && half_fits t s s.half)

-- what the test hands back of a state that fits: the turn, what is held, who is due
unfoldable pub examined : Table → State → Option Examined
examined t s = cond (fits t s) (Some (record { turn = turn t s; held = held_resources s; due = due s })) None

-- the runner's position; 16 where nobody runs
abbrev pub runner_position : Runner → ℕ
runner_position None = 16
runner_position (Some p) = p

-- the number of a report, 0 where it is taken; then the job after its tick, and how it ended
pub record Reported : Type 0 where
  pub number : ℕ
  pub job : Job
  pub ending : Ending

-- what the code answers of the job j: where it refuses, j is as it was
abbrev pub told : Job → Result Outcome Refusal → Reported
told j (Ok o) = record { number = 0; job = o.job; ending = o.ending }
told j (Err r) = record { number = refusal_number r; job = j; ending = Ends.GoesOn }

-- what a report makes of the job that ran, at a speed, or its number
unfoldable pub reported : Task → Job → ℕ → ℕ → Report → Reported
reported task j held v said =
    let number = objection task j held said in
    let o = settled task said (worked task v j) in
    cond (eqb number 0) (record { number = 0; job = o.job; ending = o.ending }) (record { number = number; job = j; ending = Ends.GoesOn })

-- and of an idle tick
abbrev pub idle_number : Report → ℕ
idle_number CarryOn = 0
idle_number Done = 14
idle_number (Take r) = 14
idle_number Give = 14

abbrev pub reported_idle : Report → Reported
reported_idle said = record { number = idle_number said; job = no_job; ending = Ends.GoesOn }

-- the job that ran, if one did
abbrev pub job_of : State → Runner → Job
job_of s None = no_job
job_of s (Some p) = job_at s p

abbrev pub reported_by : Table → State → Runner → ℕ → ℕ → Report → Reported
reported_by t s None held v said = reported_idle said
reported_by t s (Some p) held v said = reported (task_at t p) (job_at s p) held v said

-- 16, by who is due: some job that is due is still there after the tick, where the one at p has ended or has not
unfoldable pub late_by : ℕ → ℕ → Bool → Bool
late_by due p ended = cond ended (not (eqb due 0) && not (eqb due (with 0 p))) (not (eqb due 0))
