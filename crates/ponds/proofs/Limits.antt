-- Each task of a table has 8 limits, where a look at each says so. Assumes nothing.
use Prim.Native.Nat.{ℕ, zero, suc, min, ◌≤◌, ◌<◌}
use mathlib.Core.Path.{◌≡◌}
use mathlib.Core.Bool.{Bool, true, ◌&&◌}
use mathlib.Core.List.{List, [], ◌∷◌}
use native.Mathlib.Omega.{arith}
use lib.ListN.{length, get_or}
use lib.Dec.{eqb}
use borrow.Author.Tests.{eqb-true}
use Rattle.units.proofs.Laws.Folds.{both}
use Rattle.table.specs.declared.Task.{Task}
use Rattle.table.specs.declared.Table.{Table}
use Rattle.table.specs.Table.{no_task, task_at}

abbrev pub eight : List Task → Bool
eight [] = true
eight (task ∷ tasks) = eqb (length task.limits) 8 && eight tasks

each : (tasks : List Task) → eight tasks ≡ true → (k : ℕ) → k < length tasks → length (get_or tasks k no_task).limits ≡ 8
each [] e k l = absurd (omega arith)
each (task ∷ tasks) e zero l = eqb-true (length task.limits) 8 (both _ (eight tasks) e).0
each (task ∷ tasks) e (suc k) l = each tasks (both (eqb (length task.limits) 8) (eight tasks) e).1 k (omega arith)

pub limits_are : (t : Table) → eight t.tasks ≡ true → min 16 t.count ≤ length t.tasks → (k : ℕ) → k < 16 → k < t.count → length (task_at t k).limits ≡ 8
limits_are t e n k b l = each t.tasks e k (omega arith)
