-- The task table.
use Rattle.std.specs.Prelude.{ℕ}
use mathlib.Core.{Bool.Bool, Bool.◌&&◌, List.List, List.[]}
use lib.{ListN.get_or, Dec.ltb}
use Rattle.units.specs.{declared.Ticks.Ticks, Amounts.ticks, Amounts.steps, Folds.first, Folds.listed, Sets.set, Sets.has}
use Rattle.table.specs.{declared.Task.Task, declared.Table.Table}

-- what is read where no entry stands, and the task at a position
abbrev pub no_task : Task
no_task = record { period = ticks 0; deadline = ticks 0; budget = steps 0; independent = 0; synchronization = 0; limits = [] }

abbrev pub task_at : Table → ℕ → Task
task_at t k = get_or t.tasks k no_task

-- "deadline length D", "budget C, in steps", "speeds I (independent), S (synchronization)"
abbrev pub D : Table → ℕ → ℕ
D t k = (task_at t k).deadline.0

abbrev pub C : Table → ℕ → ℕ
C t k = (task_at t k).budget.0

abbrev pub I : Table → ℕ → ℕ
I t k = (task_at t k).independent

abbrev pub S : Table → ℕ → ℕ
S t k = (task_at t k).synchronization

-- "section limit for each of 8 resources, in steps"; 0 for a resource above 7
abbrev pub limit : Task → ℕ → ℕ
limit k r = (get_or k.limits r (steps 0)).0

-- the task at k takes r: "0 says that the task never takes it"; "Entries past the task count are not read."
unfoldable pub takes : Table → ℕ → ℕ → Bool
takes t r k = ltb k t.count && ltb 0 (limit (task_at t k) r)

-- "The users of a resource are a set of positions, one bit each"
unfoldable pub users : Table → ℕ → ℕ
users t r = set (takes t r) 16

-- "its ceiling is the D of the lowest position in that set"; 0 where the set is empty
unfoldable pub ceiling : Table → ℕ → ℕ
ceiling t r = first (has (users t r)) (D t) 0 16

-- that of each resource
unfoldable pub ceilings : Table → List Ticks
ceilings t = listed (λ r. ticks (ceiling t r)) 8
