-- "First half, the choice."
use Rattle.std.specs.Prelude.{ℕ, ◌/◌, min, max, Some, None}
use mathlib.Core.{Bool.Bool, Bool.true, Bool.not, Bool.◌&&◌, Bool.cond, List.List}
use lib.{ListN.get_or, ListN.set, Dec.ltb, Dec.leb, Dec.eqb}
use Rattle.units.specs.{declared.Ticks.Ticks, Amounts.ticks, Clock.tick, Clock.after, Folds.smallest, Folds.largest, Folds.some}
use Rattle.table.specs.{declared.Task.Task, declared.Table.Table, Table.task_at, Table.D, Table.S, Table.ceilings}
use Rattle.state.specs.{declared.Job.Job, declared.State.State, declared.Section.Section, declared.Stack.Stack, declared.Place.Place, State.Mark, declared.Half.TheVariants.Second, State.Runner, declared.Mode.TheVariants.Independent, declared.Mode.TheVariants.Synchronization, Stack.any_on, State.job_at, Order.place, Order.place_at, Order.position_of, Order.no_place, Order.is_pending, Order.is_started, Order.first_in_order, Order.last_holder}
use Rattle.choice.specs.{declared.Turn.Turn, declared.Choice.Choice}

-- "top is the first pending job in order": its place
abbrev pub top : State → ℕ
top s = first_in_order is_pending s

-- "a resource whose ceiling is at most top's D"; a resource above 7 has none, which reads as 0
abbrev pub section_bars : List Ticks → ℕ → Section → Bool
section_bars ceilings d x = leb (get_or ceilings x.resource (ticks 0)).0 d

-- "holds" such a resource: in any section on its stack
abbrev pub bars : List Ticks → ℕ → Stack → Bool
bars ceilings d h = any_on (section_bars ceilings d) h

-- "It is blocked if it is not started and another pending job" does
unfoldable pub blocked : Table → State → ℕ → Bool
blocked t s p =
    not (job_at s p).started && some (λ k. bars (ceilings t) (D t p) (job_at s k).held && ((job_at s k).pending && not (eqb k p))) 16

-- "The runner is top if not blocked, else the first started job in order.": its place. A blocked top of a consistent state has a started job behind it.
unfoldable pub runner : Table → State → ℕ
runner t s = cond (blocked t s (position_of (top s))) (first_in_order is_started s) (top s)

-- "the shortest D of the jobs ahead of it"; top is one where this is asked
unfoldable pub shortest_ahead : Table → State → ℕ → ℕ
shortest_ahead t s run = smallest (λ k. (job_at s k).pending && ltb (place_at s k) run) (D t) 65535 16

-- "the largest S over tasks whose D lies between" the two, "both ends counted"
unfoldable pub fastest : Table → ℕ → ℕ → ℕ
fastest t low high = largest (λ k. ltb k t.count && (leb low (D t k) && leb (D t k) high)) (S t) 16

-- "between the runner's own D and the shortest D of the jobs ahead of it, whichever of the two is the smaller end"
unfoldable pub inherited : Table → State → ℕ → ℕ
inherited t s run =
    let own = D t (position_of run) in let ahead = shortest_ahead t s run in fastest t (min own ahead) (max own ahead)

-- the mark's place in the order; 0, behind no other, where there is none
abbrev pub mark_place : ℕ → Mark → ℕ
mark_place now None = 0
mark_place now (Some m) = place now m.deadline.0 m.position

-- "the old mark"
abbrev pub old_mark : State → ℕ
old_mark s = mark_place s.tick.0 s.mark

-- "The mark becomes" a job at a place
unfoldable pub mark_at : ℕ → ℕ → Mark
mark_at now at = Some (record { deadline = tick (after now (at / 256)); position = position_of at })

-- what a rule gives: "synchronization", with a mark and a speed; or "mark removed, independent, speed I"
abbrev pub synchronized : ℕ → Mark → ℕ → Turn
synchronized run mark speed = record { runner = Some (position_of run); mark = mark; mode = Synchronization; speed = speed }

abbrev pub alone : ℕ → Task → Turn
alone run task = record { runner = Some (position_of run); mark = None; mode = Independent; speed = task.independent }

-- 1. "Runner is not top: synchronization. The mark becomes the last in order among the old mark, the runner, and any holders behind the runner." Its speed is inherited.
abbrev pub rule1 : Table → State → ℕ → Turn
rule1 t s run = synchronized run (mark_at s.tick.0 (max (old_mark s) (max run (last_holder s run)))) (inherited t s run)

-- 2. "Some job behind the runner holds a resource: synchronization, the mark becomes the last in order among the old mark and those holders; speed S of the runner."
abbrev pub rule2 : Table → State → ℕ → Turn
rule2 t s run = synchronized run (mark_at s.tick.0 (max (old_mark s) (last_holder s run))) (S t (position_of run))

-- 4. "A mark stands: synchronization, speed S."
abbrev pub rule4 : ℕ → Place → Task → Turn
rule4 run m task = synchronized run (Some m) task.synchronization

-- 3. "A mark stands and the runner is the marked job or behind it: mark removed, independent, speed I."; else 4; and 5. "Independent, speed I."
abbrev pub no_holder_behind : Mark → ℕ → ℕ → Task → Turn
no_holder_behind None old run task = alone run task
no_holder_behind (Some m) old run task = cond (leb old run) (alone run task) (rule4 run m task)

-- "Then, first that fits"
unfoldable pub rules : Table → State → ℕ → Turn
rules t s run =
    cond (not (eqb run (top s))) (rule1 t s run)
    (cond (ltb 0 (last_holder s run)) (rule2 t s run)
    (no_holder_behind s.mark (old_mark s) run (task_at t (position_of run))))

-- "With no pending job the processor idles: independent, speed 0, mark removed."
abbrev pub idle : Turn
idle = record { runner = None; mark = None; mode = Independent; speed = 0 }

unfoldable pub turn : Table → State → Turn
turn t s = cond (ltb (top s) no_place) (rules t s (runner t s)) idle

-- "The runner becomes started."
abbrev pub begun : Job → Job
begun j = record { pending = j.pending; started = true; deadline = j.deadline; used = j.used; held = j.held; wait = j.wait }

abbrev pub begin : State → Runner → List Job
begin s None = s.jobs
begin s (Some p) = set s.jobs p (begun (job_at s p))

-- the state "in mid-tick", by a turn
abbrev pub in_mid_tick : State → Turn → State
in_mid_tick s u = record { tick = s.tick; jobs = begin s u.runner; mark = u.mark; half = Second; runner = u.runner }

-- that state, and the turn
unfoldable pub choice : Table → State → Choice
choice t s = let u = turn t s in record { state = in_mid_tick s u; turn = u }
