-- What the records of a file say.
use Rattle.std.specs.Prelude.{ℕ, ◌+◌, ◌*◌, cond, List, [], ltb, eqb}
use Rattle.units.specs.{declared.Tick.Tick, Amounts.ticks, Amounts.steps, Clock.tick, Folds.listed}
use Rattle.table.specs.{declared.Task.Task, declared.Table.Table}
use Rattle.state.specs.declared.Report.{Report}
use Rattle.state.specs.declared.Report.TheVariants.{CarryOn, Done, Take, Give}
use Rattle.records.specs.declared.Event.{Event}
use Rattle.records.specs.Bytes.{record_at, byte, word, long}
use Rattle.records.specs.Records.{task_count}

-- "task (1 I; 2 S; 4-5 T; 6-7 D; 8-9 C; 16-31 limits)"
unfoldable pub task : List ℕ → Task
task r = record {
  period = ticks (word r 4);
  deadline = ticks (word r 6);
  budget = steps (word r 8);
  independent = byte r 1;
  synchronization = byte r 2;
  limits = listed (λ k. steps (word r (16 + k * 2))) 8;
}

-- the record of the task at a position; no bytes past the last task, whose entries are zeros
unfoldable pub task_record : List ℕ → ℕ → List ℕ
task_record file k = cond (ltb k (task_count file)) (record_at file (1 + k)) []

-- "setting (byte 1 F; 4-7 G; 8-11 starting tick)", and the tasks
unfoldable pub table : List ℕ → Table
table file =
    let setting = record_at file 0 in
    record { full = byte setting 1; round = long setting 4; count = task_count file; tasks = listed (λ k. task (task_record file k)) 16 }

unfoldable pub start : List ℕ → Tick
start file = tick (long (record_at file 0) 8)

-- "report 0 carry on, 1 done, 2 take, 3 give"; "resource for take"
unfoldable pub report : ℕ → ℕ → Report
report said resource = cond (eqb said 0) CarryOn (cond (eqb said 1) Done (cond (eqb said 2) (Take resource) Give))

-- "event (1: 1 release, 2 tick; 2: position or report": what the record at k says
unfoldable pub event : List ℕ → ℕ → Event
event file k = let r = record_at file k in cond (eqb (byte r 1) 1) (Event.Release (byte r 2)) (Event.Tick (report (byte r 2) (byte r 3)))
