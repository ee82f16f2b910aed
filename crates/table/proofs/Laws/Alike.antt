-- "Entries past the task count are not read": two tables that differ there alone have the same ceilings. Assumes nothing.
use Prim.Native.Nat.{ℕ, ◌≤◌, ◌<◌}
use mathlib.Core.Path.{◌≡◌, sym, ap, ◌∙◌}
use mathlib.Core.Bool.{true}
use native.Mathlib.Decide.{dec_lt}
use native.Mathlib.Omega.{arith}
use lib.Dec.{ltb}
use borrow.Author.Tests.{ltb-true, le-ltb}
use Rattle.units.specs.Sets.{has}
use Rattle.units.proofs.Laws.Folds.{both, first-same}
use Rattle.units.proofs.Laws.Sets.{has-set, set_same}
use Rattle.table.specs.declared.Task.{Task}
use Rattle.table.specs.declared.Table.{Table}
use Rattle.table.specs.Table.{task_at, D, limit, takes, users, ceiling}

pub record Alike (t u : Table) : Type 0 where
  pub full : t.full ≡ u.full
  pub round : t.round ≡ u.round
  pub count : t.count ≡ u.count
  pub tasks : (k : ℕ) → k < t.count → task_at t k ≡ task_at u k

module _ {t u : Table} (a : Alike t u) where
  takes_same : (r k : ℕ) → takes t r k ≡ takes u r k
  unfolding takes
  takes_same r k = at (dec_lt k t.count)
    where
      at : Dec (k < t.count) → takes t r k ≡ takes u r k
      at (yes l) = rw (a.count, a.tasks k l)
      at (no l) =
          let here : t.count ≤ k = omega arith in
          let there : u.count ≤ k = omega (arith, a.count) in
          simp (le-ltb k t.count here, le-ltb k u.count there)

  users-same : (r : ℕ) → users t r ≡ users u r
  unfolding users
  users-same r = set_same (takes t r) (takes u r) 16 (λ k l. takes_same r k)

  -- a user stands in the table
  user_within : (r k : ℕ) → k < 16 → has (users t r) k ≡ true → k < t.count
  unfolding users takes
  user_within r k l h = ltb-true _ _ (both (ltb k t.count) (ltb 0 (limit (task_at t k) r)) (sym (has-set (takes t r) 16 k l) ∙ h)).0

  pub ceiling-same : (r : ℕ) → ceiling t r ≡ ceiling u r
  unfolding ceiling
  ceiling-same r =
      first-same (has (users t r)) (has (users u r)) (D t) (D u) 0 16
      (λ k l. ap (λ (m : ℕ). has m k) (users-same r))
      (λ k l h. ap (λ (task : Task). task.deadline.0) (a.tasks k (user_within r k l h)))
