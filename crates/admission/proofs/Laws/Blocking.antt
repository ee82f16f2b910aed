-- B, by what the walk over the tasks found. Assumes nothing.
use Prim.Native.Nat.{ℕ, ◌≤◌, ◌<◌}
use mathlib.Core.Path.{◌≡◌, refl, ap, ◌∙◌}
use mathlib.Core.Bool.{Bool}
use mathlib.Core.List.{List}
use native.Mathlib.Nat.{le_antisymm}
use native.Mathlib.Decide.{dec_lt}
use native.Mathlib.Omega.{arith}
use lib.Dec.{ltb, leb}
use lib.ListN.{get_or}
use Rattle.units.specs.declared.Ticks.{Ticks}
use Rattle.units.specs.Amounts.{ticks}
use Rattle.units.specs.Folds.{largest}
use Rattle.units.proofs.Laws.Folds.{largest-same, largest_bounds, largest_found}
use Rattle.table.specs.declared.Table.{Table}
use Rattle.table.specs.Table.{task_at, D, limit, ceiling, ceilings}
use Rattle.table.proofs.Laws.Ceilings.{ceilings-at}
use Rattle.admission.specs.Admission.{B}

-- the largest of the largest, in either order
module _ (p q : ℕ → Bool) (f : ℕ → ℕ → ℕ) (n m : ℕ) where
  half : largest p (λ j. largest q (f j) m) n ≤ largest q (λ r. largest p (λ j. f j r) n) m
  half = go (dec_lt 0 whole)
    where
      whole : ℕ
      whole = largest p (λ j. largest q (f j) m) n

      go : Dec (0 < whole) → whole ≤ largest q (λ r. largest p (λ j. f j r) n) m
      go (no h) = omega arith
      go (yes h) =
          let j = largest_found p (λ j. largest q (f j) m) n h in
          let r = largest_found q (f j.0) m (omega (arith, j.3)) in
          let inner = largest_bounds p (λ j. f j r.0) n j.0 j.1 j.2 in
          omega (arith, j.3, r.3, inner, largest_bounds q (λ r. largest p (λ j. f j r) n) m r.0 r.1 r.2)

-- b is the largest of what each resource has, and that is the largest over the tasks
pub by_resource : (p q : ℕ → Bool) (f : ℕ → ℕ → ℕ) (n m : ℕ) {g : ℕ → ℕ} {b : ℕ} → b ≡ largest q g m → ((r : ℕ) → r < m → g r ≡ largest p (λ j. f j r) n)
    → b ≡ largest p (λ j. largest q (f j) m) n
by_resource p q f n m e h = e ∙ largest-same q q _ _ m (λ r l. refl) h ∙ le_antisymm (half q p (λ r j. f j r) m n) (half p q f n m)

-- the ceilings, read off their list
reach_same : (t : Table) {l : List Ticks} → l ≡ ceilings t → (d : ℕ) (f : ℕ → ℕ) →
    largest (λ r. leb (get_or l r (ticks 0)).0 d) f 8 ≡ largest (λ r. leb (ceiling t r) d) f 8
reach_same t e d f =
    largest-same _ _ _ _ 8 (λ r m. ap (λ (l : List Ticks). leb (get_or l r (ticks 0)).0 d) e ∙ ap (λ (c : ℕ). leb c d) (ceilings-at t r m)) (λ r m. refl)

pub found_block : (t : Table) (i : ℕ) {l : List Ticks} → l ≡ ceilings t → {b : ℕ} →
    b ≡ largest (λ j. ltb (D t i) (D t j)) (λ j. largest (λ r. leb (get_or l r (ticks 0)).0 (D t i)) (limit (task_at t j)) 8) t.count → b ≡ B t i
unfolding B
found_block t i e f = f ∙ largest-same _ _ _ _ t.count (λ j m. refl) (λ j m. reach_same t e (D t i) (limit (task_at t j)))
