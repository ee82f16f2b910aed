-- "Entries past the task count are not read": two tables that differ there alone get the same verdict. Assumes nothing.
use Prim.Native.Nat.{ℕ, zero, suc, ◌+◌, ◌<◌}
use mathlib.Core.Path.{◌≡◌, refl, ap, ap₂, ◌∙◌}
use mathlib.Core.Bool.{Bool, not, ◌&&◌, cond}
use native.Mathlib.Omega.{arith}
use lib.Dec.{ltb, leb, eqb}
use Rattle.units.specs.Folds.{sum, largest, first}
use Rattle.units.proofs.Laws.Folds.{sum_same, largest-same, first-same}
use Rattle.std.specs.Prelude.{Err}
use Rattle.verdict.specs.declared.Fault.TheVariants as Is
use Rattle.verdict.specs.Verdict.{Verdict, passing, answer}
use Rattle.table.specs.declared.Task.{Task}
use Rattle.table.specs.declared.Table.{Table}
use Rattle.table.specs.Table.{task_at, D, C, S, limit}
use Rattle.table.proofs.Laws.Alike.{Alike, ceiling-same}
use Rattle.admission.specs.Admission.{ticks_in_round, independent_sum, B, synchronization_sum, count_in_range, setting_in_range, fault, previous, fault_at, faulty, overloaded, sums, verdict}

module _ {t u : Table} (a : Alike t u) where
  -- a position of the table, at one of its two speeds
  own : (speed : Task → ℕ) (k : ℕ) → k < t.count
      → ticks_in_round (C t k) (speed (task_at t k)) t.round (D t k) ≡ ticks_in_round (C u k) (speed (task_at u k)) u.round (D u k)
  own speed k l = ap₂ (λ (x : Task) (g : ℕ). ticks_in_round x.budget.0 (speed x) g x.deadline.0) (a.tasks k l) a.round

  pub independent-same : independent_sum t ≡ independent_sum u
  unfolding independent_sum
  independent-same = sum_same _ _ t.count (own (λ x. x.independent)) ∙ ap (sum _) a.count

  block_same : (i : ℕ) → i < t.count → B t i ≡ B u i
  unfolding B
  block_same i l =
      largest-same _ _ _ _ t.count
      (λ j m. ap₂ (λ (x y : Task). ltb x.deadline.0 y.deadline.0) (a.tasks i l) (a.tasks j m))
      (λ j m.
      largest-same _ _ _ _ 8
      (λ r b. ap₂ (λ (c : ℕ) (x : Task). leb c x.deadline.0) (ceiling-same a r) (a.tasks i l))
      (λ r b. ap (λ (x : Task). limit x r) (a.tasks j m)))
      ∙ ap (largest _ _) a.count

  synchronization-same : (i : ℕ) → i < t.count → synchronization_sum t i ≡ synchronization_sum u i
  unfolding synchronization_sum
  synchronization-same i l =
      ap₂ (λ (x y : ℕ). x + y)
      (ap (λ (b : ℕ). ticks_in_round b (S t i) t.round (D t i)) (block_same i l)
      ∙ ap₂ (λ (x : Task) (g : ℕ). ticks_in_round (B u i) x.synchronization g x.deadline.0) (a.tasks i l) a.round)
      (sum_same _ _ (i + 1) (λ k m. own (λ x. x.synchronization) k (omega arith)))

  previous-same : (k : ℕ) → k < t.count → previous t k ≡ previous u k
  previous-same zero l = refl
  previous-same (suc k) l = ap (λ (x : Task). x.deadline.0) (a.tasks k (omega arith))

  fault-same : (k : ℕ) → k < t.count → fault_at t k ≡ fault_at u k
  unfolding fault_at
  fault-same k l =
      ap₂ (λ (f g : ℕ). fault f g (previous t k) (task_at t k) k) a.full a.round
      ∙ ap₂ (λ (d : ℕ) (x : Task). fault u.full u.round d x k) (previous-same k l) (a.tasks k l)

  sums_same : sums t ≡ sums u
  unfolding sums overloaded
  sums_same =
      ap₂ (λ (b : Bool) (v : Verdict). cond b (Err Is.Independent) v) (ap₂ ltb a.round independent-same)
      (first-same _ _ _ _ passing t.count (λ i l. ap₂ ltb a.round (synchronization-same i l)) (λ i l h. refl) ∙ ap (first _ _ _) a.count)

  faults-same : first (faulty t) (fault_at t) (sums t) t.count ≡ first (faulty u) (fault_at u) (sums u) u.count
  unfolding faulty
  faults-same =
      first-same _ _ _ _ (sums t) t.count (λ k l. ap (λ (v : Verdict). not (eqb (answer v).0 0)) (fault-same k l)) (λ k l h. fault-same k l)
      ∙ ap₂ (first (faulty u) (fault_at u)) sums_same a.count

  pub verdict-same : verdict t ≡ verdict u
  unfolding verdict count_in_range setting_in_range
  verdict-same =
      ap₂ (λ (b : Bool) (v : Verdict). cond (not b) (Err Is.Count) v) (ap (λ (n : ℕ). leb 1 n && leb n 16) a.count)
      (ap₂ (λ (b : Bool) (v : Verdict). cond (not b) (Err Is.Setting) v)
      (ap₂ (λ (f g : ℕ). leb 1 f && leb f 64 && leb 1 g && leb g 1000000) a.full a.round) faults-same)
