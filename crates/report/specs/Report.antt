-- "Second half, the report: carry on, done, take a resource, or give back."
use Rattle.std.specs.Prelude.{ℕ, ◌+◌, ◌-◌, min, Some, None}
use mathlib.Core.{Bool.Bool, Bool.false, Bool.◌&&◌, Bool.◌||◌, Bool.cond, List.List, List.map}
use lib.{ListN.set, Dec.ltb, Dec.leb, Dec.eqb}
use Rattle.units.specs.{Amounts.ticks, Amounts.steps, Amounts.given, Clock.tick, Clock.after, Clock.distance, Folds.some, Sets.has}
use Rattle.table.specs.{declared.Task.Task, declared.Table.Table, Table.task_at, Table.limit}
use Rattle.state.specs.{declared.Job.Job, declared.State.State, declared.Ending.Ending, declared.Section.Section, declared.Stack.Stack, declared.Half.TheVariants.First, State.Runner, declared.Report.Report, declared.Report.TheVariants.CarryOn, declared.Report.TheVariants.Done, declared.Report.TheVariants.Take, declared.Report.TheVariants.Give, Stack.section_at, Stack.stacked, Stack.nothing, Stack.any_on, State.job_at, Order.holds_any, Order.holds, Order.held_resources, Answers.Answer, Answers.ending_number, Answers.bare}
use Rattle.choice.specs.{declared.Turn.Turn, Choice.turn}
use Rattle.report.specs.{declared.Outcome.Outcome}
use Rattle.state.specs.declared.Ending.TheVariants as Ends

-- "its section steps rise by the speed, up to the limit"
abbrev pub risen : Task → ℕ → Section → Section
risen task v x = record { resource = x.resource; steps = steps (min (x.steps.0 + given v) (limit task x.resource)) }

-- "each section's steps rise with every tick of its job"
abbrev pub held_on : Task → ℕ → Stack → Stack
held_on task v h = stacked (λ i. risen task v (section_at h i)) h.depth

-- "The runner's steps used rise by the speed, up to C."
abbrev pub worked : Task → ℕ → Job → Job
worked task v j =
    record { pending = j.pending; started = j.started; deadline = j.deadline; used = steps (min (j.used.0 + given v) task.budget.0); held = held_on task v j.held; wait = j.wait }

-- "An ended job is not pending and holds nothing; all its entries but the wait become 0."
abbrev pub ended : Job → Job
ended j = record { pending = false; started = false; deadline = tick 0; used = steps 0; held = nothing; wait = j.wait }

-- "A section starts at 0 steps.", inside those that are held
abbrev pub taken : ℕ → Stack → Stack
taken r h = stacked (λ i. cond (ltb i h.depth) (section_at h i) (record { resource = r; steps = steps 0 })) (h.depth + 1)

-- "given back in the reverse of their taking": the innermost
abbrev pub given_back : Stack → Stack
given_back h = stacked (section_at h) (h.depth - 1)

-- "take or give is done": what it holds then
abbrev pub holding : Stack → Job → Job
holding h j = record { pending = j.pending; started = j.started; deadline = j.deadline; used = j.used; held = h; wait = j.wait }

-- "a holder at its limit": "still holds a section at its limit"
abbrev pub at_limit : Task → Stack → Bool
at_limit task h = any_on (λ x. eqb x.steps.0 (limit task x.resource)) h

-- "else steps used = C ends it as cut; else take or give is done; else a holder at its limit is ended as cut", and one that is so "after a take or a give" too
abbrev pub onward : Task → Job → Stack → Outcome
onward task j h =
    cond (eqb j.used.0 task.budget.0) (record { job = ended j; ending = Ends.Cut })
    (cond (at_limit task h) (record { job = ended j; ending = Ends.Cut }) (record { job = holding h j; ending = Ends.GoesOn }))

-- "Then: done ends the job"; else that
abbrev pub settled : Task → Report → Job → Outcome
settled task Done j = record { job = ended j; ending = Ends.Done }
settled task CarryOn j = onward task j j.held
settled task (Take r) j = onward task j (taken r j.held)
settled task Give j = onward task j (given_back j.held)

-- 14: "taking one already held, taking a fifth, giving when none is held"; 13: "take of a resource above 7 or with limit 0"; 15: "take of a resource that another job holds" (the runner does not hold it here)
abbrev pub objection : Task → Job → ℕ → Report → ℕ
objection task j held CarryOn = 0
objection task j held Done = 0
objection task j held Give = cond (holds_any j.held) 0 14
objection task j held (Take r) =
    cond (holds r j.held || leb 4 j.held.depth) 14 (cond (eqb (limit task r) 0) 13 (cond (has held r) 15 0))

-- "each wait above 0 falls by one"
abbrev pub waited : Job → Job
waited j = record { pending = j.pending; started = j.started; deadline = j.deadline; used = j.used; held = j.held; wait = ticks (j.wait.0 - 1) }

-- "The tick rises by one with roll-over"; "between ticks there is no job on the processor"
abbrev pub closed : State → List Job → State
closed s jobs =
    record { tick = tick (after s.tick.0 1); jobs = map waited jobs; mark = s.mark; half = First; runner = None }

-- 16: "a job still pending after this half would stand at its deadline"
unfoldable pub late : State → Bool
late s = some (λ k. (job_at s k).pending && eqb (distance s.tick.0 (job_at s k).deadline.0) 0) 16

-- the answer, with the tick closed
unfoldable pub finished : State → List Job → Turn → Ending → Answer
finished s jobs u ending =
    cond (late (closed s jobs)) (bare 16 s)
    (record { number = 0; state = closed s jobs; runner = u.runner; mode = u.mode; speed = u.speed; ending = ending_number ending })

-- the report of the job at p
unfoldable pub report_run : Table → State → Turn → ℕ → Report → Answer
report_run t s u p said =
    let task = task_at t p in
    let number = objection task (job_at s p) (held_resources s) said in
    let o = settled task said (worked task u.speed (job_at s p)) in
    cond (eqb number 0) (finished s (set s.jobs p o.job) u o.ending) (bare number s)

-- 14: "at an idle tick, anything but carry on"
abbrev pub report_idle : State → Turn → Report → Answer
report_idle s u CarryOn = finished s s.jobs u Ends.GoesOn
report_idle s u Done = bare 14 s
report_idle s u (Take r) = bare 14 s
report_idle s u Give = bare 14 s

-- "Mode and speed are not kept; the choice rules give them again.": so with who runs
abbrev pub report_as : Table → State → Turn → Runner → Report → Answer
report_as t s u None said = report_idle s u said
report_as t s u (Some p) said = report_run t s u p said

unfoldable pub report : Table → State → Report → Answer
report t s said = let u = turn t s in report_as t s u u.runner said
