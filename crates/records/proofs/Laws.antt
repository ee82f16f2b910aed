-- Laws of a file's records. Assumes nothing.
pub mod Lists
use Prim.Native.Nat.{ℕ, ◌+◌, ◌-◌, ◌%◌, ◌≤◌}
use mathlib.Core.Path.{◌≡◌}
use mathlib.Core.Bool.{true}
use mathlib.Core.List.{List}
use native.Mathlib.Omega.{arith}
use lib.ListN.{length}
use lib.Dec.{leb, eqb}
use borrow.Author.Tests.{leb-true}
use Rattle.units.proofs.Laws.Folds.{lowest_bound, both}
use Rattle.records.specs.Bytes.{record_count}
use Rattle.records.specs.Records.{sized, task_count, event_count, well_formed}

-- the tasks stand behind the setting
pub tasks_within : (file : List ℕ) → task_count file ≤ record_count file - 1
unfolding task_count
tasks_within file = lowest_bound _ _

-- with the table's line there is a line for each record at the most
pub lines_within : (file : List ℕ) → well_formed file ≡ true → 1 + event_count file ≤ 2048
unfolding well_formed sized
lines_within file h =
    let size = (both (leb 1 (length file)) _ (both _ _ h).0).1 in
    let most = leb-true (length file) 65536 (both (leb (length file) 65536) (eqb (length file % 32) 0) size).0 in
    omega arith
