-- The wrong versions that our own ponds rule out, and what each gives in the same pond: something else than the list says.
use Rattle.std.specs.Prelude.{ℕ, ◌+◌, ◌-◌, Some, None}
use mathlib.Core.{Path.◌≡◌, Bool.Bool, Bool.not, Bool.◌&&◌, Bool.cond, List.List, List.[], List.◌∷◌, List.◌++◌}
use lib.{ListN.set, Dec.ltb, Dec.leb, Dec.eqb}
use Rattle.units.specs.{Clock.tick, Clock.after}
use Rattle.verdict.specs.Verdict.{answer}
use Rattle.admission.specs.Admission.{verdict}
use Rattle.table.specs.{declared.Task.Task, declared.Table.Table, Table.task_at, Table.limit}
use Rattle.state.specs.{declared.Job.Job, declared.State.State, Answers.Answer, declared.Mode.Mode, declared.Mode.TheVariants.Independent, declared.Mode.TheVariants.Synchronization, declared.Report.Report, declared.Report.TheVariants.CarryOn, declared.Report.TheVariants.Done, declared.Report.TheVariants.Take, declared.Report.TheVariants.Give, State.Runner, Stack.section_at, Stack.stacked, State.job_at, Order.no_place, Order.holds, Order.held_resources, Answers.bare}
use Rattle.choice.specs.{declared.Turn.Turn, Choice.top, Choice.turn}
use Rattle.report.specs.{declared.Outcome.Outcome, Report.worked, Report.holding, Report.onward, Report.settled, Report.at_limit, Report.objection, Report.finished, Report.report_idle, Report.report_as}
use Rattle.machine.specs.Machine.{released_at}
use Rattle.promise.specs.History.{Machine, choose, report, Line, line_of, lines, state_after, start, standing, number_by, ending_by, job_by}
use Rattle.records.specs.declared.Event.{Event}
use Rattle.ponds.specs.Runs.{release, carry}
use Rattle.ponds.specs.Runs as Events
use Rattle.ponds.specs.Tables.{p1, two, p7, p8, pump, eight, mark_left}
use Rattle.ponds.specs.Histories.{calls, ticked}
use Rattle.ponds.specs.Variants.{by, by_turn, by_report}
use Rattle.ponds.specs.Broken.{by_outcome, trimmed}

-- ---- the wrong versions

-- the mark is kept at an idle tick
abbrev pub mark_kept : Machine
mark_kept = by_turn λ t s. cond (ltb (top s) no_place) (turn t s) (record { runner = None; mark = s.mark; mode = Independent; speed = 0 })

-- the deadline is made by T
abbrev pub due_after_t : ℕ → Task → Job → Job
due_after_t now task j = record { pending = j.pending; started = j.started; deadline = tick (after now task.period.0); used = j.used; held = j.held; wait = j.wait }

abbrev pub by_period : Machine
by_period = by (record {
  verdict = verdict;
  taken = λ t s p. let r = released_at t s p in
      record { tick = r.tick; jobs = set r.jobs p (due_after_t s.tick.0 (task_at t p) (job_at r p)); mark = r.mark; half = r.half; runner = r.runner };
  turn = turn;
  reported = λ t s u said. report_as t s u u.runner said;
})

-- a holder at its limit is cut, whatever it reports
abbrev pub cut_first : Machine
cut_first = by_outcome λ task said v j. let w = worked task v j in
    cond (at_limit task w.held) (settled task CarryOn w) (settled task said w)

-- a take of a resource above 7 or with limit 0 has the number n whatever the job holds: with 13 that is 13 before 14, with 14 there is no 13
abbrev pub always : ℕ → Task → Job → ℕ → Report → ℕ
always n task j held CarryOn = 0
always n task j held Done = 0
always n task j held Give = objection task j held Give
always n task j held (Take r) = cond (eqb (limit task r) 0) n (objection task j held (Take r))

abbrev pub refusing : (Task → Job → ℕ → Report → ℕ) → Table → State → Turn → Runner → Report → Answer
refusing asks t s u None said = report_idle s u said
refusing asks t s u (Some p) said =
    let number = asks (task_at t p) (job_at s p) (held_resources s) said in
    let o = settled (task_at t p) said (worked (task_at t p) u.speed (job_at s p)) in
    cond (eqb number 0) (finished s (set s.jobs p o.job) u o.ending) (bare number s)

abbrev pub by_objection : (Task → Job → ℕ → Report → ℕ) → Machine
by_objection asks = by_report λ t s u said. refusing asks t s u u.runner said

abbrev pub take_refused : ℕ → Machine
take_refused n = by_objection (always n)

-- a job takes what it holds already; and a fifth
abbrev pub unless_number : (Job → ℕ → Bool) → Task → Job → ℕ → Report → ℕ
unless_number lets task j held CarryOn = 0
unless_number lets task j held Done = 0
unless_number lets task j held Give = objection task j held Give
unless_number lets task j held (Take r) = cond (lets j r) 0 (objection task j held (Take r))

abbrev pub own_again : Machine
own_again = by_objection (unless_number λ j r. holds r j.held && ltb j.held.depth 4)

abbrev pub takes_a_fifth : Machine
takes_a_fifth = by_objection (unless_number λ j r. leb 4 j.held.depth && not (holds r j.held))

-- given back in the order of taking: the outermost
abbrev pub outermost_back : Task → Report → Job → Outcome
outermost_back task CarryOn j = settled task CarryOn j
outermost_back task Done j = settled task Done j
outermost_back task (Take r) j = settled task (Take r) j
outermost_back task Give j = onward task j (stacked (λ i. section_at j.held (i + 1)) (j.held.depth - 1))

abbrev pub in_order_of_taking : Machine
in_order_of_taking = by_outcome λ task said v j. outermost_back task said (worked task v j)

-- a section's steps counted from the taking of the one around it
abbrev pub older_steps : Task → Report → Job → Outcome
older_steps task CarryOn j = settled task CarryOn j
older_steps task Done j = settled task Done j
older_steps task (Take r) j = let h = j.held in
    onward task j (stacked (λ i. cond (ltb i h.depth) (section_at h i) (record { resource = r; steps = (section_at h (h.depth - 1)).steps })) (h.depth + 1))
older_steps task Give j = settled task Give j

abbrev pub from_the_outer_taking : Machine
from_the_outer_taking = by_outcome λ task said v j. older_steps task said (worked task v j)

-- the steps of the innermost section alone rise
abbrev pub innermost_rises : Machine
innermost_rises = by_outcome λ task said v j. let h = j.held in let w = worked task v j in
    settled task said (holding (stacked (λ i. cond (eqb (i + 1) h.depth) (section_at w.held i) (section_at h i)) h.depth) w)

-- ---- what they give

-- the last tick of some events from tick 0: the tick, the number, the runner, the mode, the speed and the ending
abbrev pub in_pond : Machine → Table → List Event → Report → ℕ × ℕ × Runner × Mode × ℕ × ℕ
in_pond m t events said = ticked m t (start m t 0) (calls events) said

-- the job at position 0 after some events
abbrev pub job0 : Machine → Table → ℕ → List Event → Job
job0 m t now events = job_at (state_after m t (start m t now) (calls events)) 0

-- the lines up to the choice of the last tick, and the line of its report, with the pump's table
abbrev pub heard : Machine → List Event → List Line
heard m events = lines m pump (start m pump 0) (choose ∷ calls events)

abbrev pub last_line : Machine → List Event → Report → Line
last_line m events said = line_of m pump (state_after m pump (start m pump 0) (choose ∷ calls events)) (report said)

-- the ending that it answers, and the one that the lines say
abbrev pub endings : Machine → List Event → Report → ℕ × ℕ
endings m events said = let l = last_line m events said in (l.answer.ending, ending_by pump (heard m events) l l.answer.runner)

-- the resource that position 1 holds outermost, in the state and by the lines
abbrev pub outermost : Machine → List Event → ℕ × ℕ
outermost m events = let s = state_after m pump (start m pump 0) (calls events) in
    ((section_at (job_at s 1).held 0).resource, (section_at (job_by pump s.tick.0 1 (lines m pump (start m pump 0) (calls events))).held 0).resource)

-- the meter is taken, and n ticks later the valve inside it
abbrev pub both_taken : ℕ → List Event
both_taken n = (release 1 ∷ Events.tick (Take 0) ∷ carry n) ++ (Events.tick (Take 1) ∷ [])

-- four resources are taken, one inside the other
abbrev pub four_taken : List Event
four_taken = release 0 ∷ Events.tick (Take 7) ∷ Events.tick (Take 6) ∷ Events.tick (Take 5) ∷ Events.tick (Take 4) ∷ []

-- the number that a report is answered, and the one that the lines say
abbrev pub numbers : Machine → Table → List Event → Report → ℕ × ℕ
numbers m t events said = let before = choose ∷ calls events in let h = lines m t (start m t 0) before in
    ((m.report t (state_after m t (start m t 0) before) said).number, number_by t h (standing h) (report said))

pub record RuledOut : Type 0 where
  -- position 0 runs under the mark, faster than it need
  pub idle : in_pond mark_kept p7 (mark_left ++ (Events.tick CarryOn ∷ release 0 ∷ [])) Done ≡ (4, 0, Some 0, Synchronization, 4, 1)
  -- due two ticks late
  pub period : (job0 by_period p8 100 (release 0 ∷ [])).deadline.0 ≡ 107
  -- cut
  pub give : in_pond cut_first two (release 1 ∷ Events.tick (Take 0) ∷ carry 3) Give ≡ (4, 0, Some 1, Independent, 1, 2)
  -- 13 of a fifth, and 14 of a first and of a second
  pub thirteen : in_pond (take_refused 13) eight four_taken (Take 200) ≡ (4, 13, None, Independent, 0, 0)
  pub fourteen : (in_pond (take_refused 14) two (release 1 ∷ Events.tick (Take 0) ∷ []) (Take 8) ≡ (1, 14, None, Independent, 0, 0))
      × (in_pond (take_refused 14) two (release 1 ∷ []) (Take 8) ≡ (0, 14, None, Independent, 0, 0))
      × (in_pond (take_refused 14) two (release 1 ∷ []) (Take 1) ≡ (0, 14, None, Independent, 0, 0))
  -- the pump takes its meter again; and a job a fifth resource
  pub again : in_pond own_again pump (both_taken 0) (Take 0) ≡ (2, 0, Some 1, Independent, 1, 0)
  pub again_number : numbers own_again pump (both_taken 0) (Take 0) ≡ (0, 14)
  pub fifth : in_pond takes_a_fifth eight four_taken (Take 3) ≡ (4, 0, Some 0, Independent, 1, 0)
  pub fifth_passes : (answer (verdict eight)).0 ≡ 0
  pub fifth_number : numbers takes_a_fifth eight four_taken (Take 3) ≡ (0, 14)
  -- the meter is given back and the valve held: position 0 waits on, and the pump takes what it holds
  pub reverse : in_pond in_order_of_taking pump (both_taken 0 ++ (release 0 ∷ Events.tick Give ∷ [])) (Take 1) ≡ (3, 14, None, Independent, 0, 0)
  pub reverse_held : outermost in_order_of_taking (both_taken 0 ++ (Events.tick Give ∷ [])) ≡ (1, 0)
  -- the valve is at its 3 steps, and the pump cut, a tick too soon: the give meets an idle tick
  pub own_taking : in_pond from_the_outer_taking pump (both_taken 0 ++ carry 2) Give ≡ (4, 14, None, Independent, 0, 0)
  pub own_taking_ends : endings from_the_outer_taking (both_taken 0 ++ carry 1) CarryOn ≡ (2, 0)
  -- the pump goes on with its meter past 6 steps
  pub each_rises : in_pond innermost_rises pump (both_taken 2 ++ carry 2) Give ≡ (6, 0, Some 1, Independent, 1, 0)
  pub each_rises_ends : endings innermost_rises (both_taken 2 ++ carry 2) Give ≡ (0, 2)
  -- 14 of the 16 steps
  pub steps : (job0 trimmed (p1 240 4 5) 0 (release 0 ∷ Events.tick (Take 0) ∷ (carry 2 ++ (Events.tick Give ∷ [])))).used.0 ≡ 14
