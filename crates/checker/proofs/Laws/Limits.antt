-- A list of limits could be longer; in a table that code is handed, each task has 8. Assumes nothing.
use Prim.Native.Nat.{ℕ, zero, suc, ◌<◌}
use mathlib.Core.List.{List, [], ◌∷◌}
use mathlib.Core.Path.{◌≡◌}
use native.Mathlib.Nat.{not-suc-le-zero, le_of_suc-le-suc}
use native.Mathlib.Omega.{arith}
use lib.ListN.{length, get_or}
use mir.Val.{Val}
use denote.Array.{each}
use denote.Laws.{Is}
use denote.Shadow.{shadow}
use Rattle.table.specs.declared.Task.{Task}
use Rattle.table.specs.declared.Table.{Table}
use Rattle.table.specs.Table.{no_task}
use Rattle.table.specs.contracts.Task as task
use Rattle.table.specs.contracts.Table as table
use Rattle.seen.proofs.Laws.Fits.{Eight}

in_tasks : (l : List Task) (us : List Val) → shadow (each (task.the_row).Denot (task.the_row).own_val l us)
    → (k : ℕ) → k < length l → length (get_or l k no_task).limits ≡ 8
in_tasks [] us p k l = absurd (not-suc-le-zero l)
in_tasks (x ∷ xs) [] p k l = absurd p
in_tasks (x ∷ xs) (u ∷ us) p zero l = p.0.1.1.1.1.1.1.1.0.1.0.1
in_tasks (x ∷ xs) (u ∷ us) p (suc k) l = in_tasks xs us p.1 k (le_of_suc-le-suc l)

pub eight : (t : Table) (vs : List Val) → Is table.the_row t vs → Eight t
eight t vs g k l m =
    let w = g.1.1.1.1.1.0 in
    in_tasks t.tasks w.0 w.1.1 k (omega (arith, w.1.0.1))
