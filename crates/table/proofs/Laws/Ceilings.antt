-- Laws of the ceilings. Assumes nothing.
use Prim.Native.Nat.{ℕ, ◌≤◌, ◌<◌}
use mathlib.Core.Path.{◌≡◌, ap, ◌∙◌}
use mathlib.Core.Bool.{true}
use lib.ListN.{get_or}
use native.Mathlib.Omega.{arith}
use borrow.Author.Tests.{lt-ltb}
use Rattle.units.specs.declared.Ticks.{Ticks}
use Rattle.units.specs.Amounts.{ticks}
use Rattle.units.specs.Folds.{lowest}
use Rattle.units.specs.Sets.{has}
use Rattle.units.proofs.Laws.Folds.{lowest-le, first-at, listed_at}
use Rattle.units.proofs.Laws.Sets.{has-set}
use Rattle.table.specs.declared.Table.{Table}
use Rattle.table.specs.Table.{task_at, D, limit, takes, users, ceiling, ceilings}

-- a task that takes a resource stands at or behind its lowest user, whose D is the ceiling
pub ceiling_user : (t : Table) (k r : ℕ) → t.count ≤ 16 → k < t.count → 0 < limit (task_at t k) r → (j : ℕ) × (j ≤ k) × (ceiling t r ≡ D t j)
unfolding takes users ceiling
ceiling_user t k r c l h =
    let below : k < 16 = omega arith in
    let user : has (users t r) k ≡ true = has-set (takes t r) 16 k below ∙ simp (lt-ltb _ _ l, lt-ltb _ _ h) in
    let first = lowest-le (has (users t r)) 16 k below user in
    (lowest (has (users t r)) 16, first, first-at (has (users t r)) (D t) 0 16 (omega arith))

-- read off their list
pub ceilings-at : (t : Table) (r : ℕ) → r < 8 → (get_or (ceilings t) r (ticks 0)).0 ≡ ceiling t r
unfolding ceilings
ceilings-at t r l = ap (λ (c : Ticks). c.0) (listed_at (ticks 0) (λ r. ticks (ceiling t r)) 8 r l)
