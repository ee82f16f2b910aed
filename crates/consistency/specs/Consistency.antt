-- "A state is consistent when":
use Rattle.std.specs.Prelude.{ℕ, ◌+◌, ◌-◌, Some, None}
use mathlib.Core.{Bool.Bool, Bool.true, Bool.false, Bool.not, Bool.◌&&◌, Bool.◌||◌, Bool.cond}
use lib.{Dec.ltb, Dec.leb, Dec.eqb}
use Rattle.units.specs.{Clock.distance, Folds.all, Folds.some, Sets.has}
use Rattle.table.specs.{declared.Task.Task, declared.Table.Table, Table.task_at, Table.limit}
use Rattle.state.specs.{declared.Job.Job, declared.State.State, declared.Section.Section, declared.Stack.Stack, State.Mark, declared.Half.Half, declared.Half.TheVariants.First, declared.Half.TheVariants.Second, State.Runner, Stack.section_at, Stack.any_on, State.job_at, State.passes, Order.holds_any, Order.holds}
use Rattle.choice.specs.{declared.Turn.Turn, Choice.turn}

-- "a job that is not pending is not started, has used 0 and holds nothing"; "what is not in use is 0": its deadline
unfoldable pub not_pending_fits : Job → Bool
not_pending_fits j = not j.started && (eqb j.used.0 0 && (not (holds_any j.held) && eqb j.deadline.0 0))

-- "a pending job has used less than C, its deadline is 1 to D ticks ahead, and its wait is that distance plus T - D"
unfoldable pub pending_fits : Task → ℕ → Job → Bool
pending_fits task now j =
    let ahead = distance now j.deadline.0 in
    ltb j.used.0 task.budget.0
    && (leb 1 ahead && (leb ahead task.deadline.0 && eqb j.wait.0 (ahead + (task.period.0 - task.deadline.0))))

-- "a job not started has used 0 and holds nothing"
unfoldable pub started_fits : Job → Bool
started_fits j = j.started || (eqb j.used.0 0 && not (holds_any j.held))

-- "a held resource has limit above 0, its section steps are below the limit"; on one stack "no resource twice"
abbrev pub section_fits : Task → Stack → ℕ → Bool
section_fits task h i =
    let x = section_at h i in
    ltb 0 (limit task x.resource) && (ltb x.steps.0 (limit task x.resource) && not (some (λ m. eqb (section_at h m).resource x.resource) i))

unfoldable pub held_fits : Task → Stack → Bool
held_fits task h = all (λ i. leb h.depth i || section_fits task h i) 4

-- "and no other job holds it"
abbrev pub other_holds : State → ℕ → Section → Bool
other_holds s k x = some (λ i. not (eqb i k) && holds x.resource (job_at s i).held) 16

unfoldable pub alone : State → ℕ → Bool
alone s k = not (any_on (other_holds s k) (job_at s k).held)

-- a resource that is held is in the set
abbrev pub is_taken : ℕ → Stack → Bool
is_taken m h = any_on (λ x. has m x.resource) h

-- a place that is not in use
abbrev pub is_none : Section → Bool
is_none x = eqb x.resource 0 && eqb x.steps.0 0

-- "up to four"; "what is not in use is 0": the places above them
unfoldable pub stack_fits : Stack → Bool
stack_fits h = leb h.depth 4 && all (λ i. ltb i h.depth || is_none (section_at h i)) 4

-- "a wait is at most T"
unfoldable pub wait_fits : Task → Job → Bool
wait_fits task j = leb j.wait.0 task.period.0

unfoldable pub job_fits : Task → ℕ → Job → Bool
job_fits task now j =
    wait_fits task j && (started_fits j && (held_fits task j.held && cond j.pending (pending_fits task now j) (not_pending_fits j)))

-- "what is not in use is 0": "every place past the task count"
unfoldable pub unused : Job → Bool
unused j = not j.pending && (eqb j.wait.0 0 && not_pending_fits j)

unfoldable pub position_fits : Table → State → ℕ → Bool
position_fits t s k =
    stack_fits (job_at s k).held && cond (ltb k t.count) (job_fits (task_at t k) s.tick.0 (job_at s k)) (unused (job_at s k))

-- all of these, at each position
unfoldable pub positions_fit : Table → State → Bool
positions_fit t s = all (position_fits t s) 16 && all (alone s) 16

-- "a marked position is in the table and its deadline is 0 to 65,535 ticks ahead"
abbrev pub mark_fits : ℕ → ℕ → Mark → Bool
mark_fits count now None = true
mark_fits count now (Some m) = ltb m.position count && leb (distance now m.deadline.0) 65535

-- "making the choice again would change nothing, the job on the processor or the idling included"
abbrev pub same_runner : Runner → Runner → Bool
same_runner None None = true
same_runner None (Some q) = false
same_runner (Some p) None = false
same_runner (Some p) (Some q) = eqb p q

abbrev pub same_mark : Mark → Mark → Bool
same_mark None None = true
same_mark None (Some m) = false
same_mark (Some l) None = false
same_mark (Some l) (Some m) = eqb l.deadline.0 m.deadline.0 && eqb l.position m.position

abbrev pub has_begun : State → Runner → Bool
has_begun s None = true
has_begun s (Some p) = (job_at s p).started

unfoldable pub unchanged : State → Turn → Bool
unchanged s u = same_runner u.runner s.runner && (same_mark u.mark s.mark && has_begun s u.runner)

-- "in mid-tick", that; "between ticks there is no job on the processor"
abbrev pub half_fits : Table → State → Half → Bool
half_fits t s First = same_runner None s.runner
half_fits t s Second = unchanged s (turn t s)

unfoldable pub consistent : Table → State → Bool
consistent t s =
    passes t && (positions_fit t s && (mark_fits t.count s.tick.0 s.mark && half_fits t s s.half))
