-- A table that passes, as plain facts: what the crates above use in place of the verdict. Assumes nothing.
use Prim.Native.Nat.{ℕ, zero, suc, ◌%◌, ◌≤◌, ◌<◌}
use mathlib.Core.Path.{◌≡◌, refl, ap, ◌∙◌}
use mathlib.Core.Bool.{Bool, true, false, not, cond}
use mathlib.Core.Logic.{⊎_elim}
use native.Mathlib.Nat.{eq-or-lt_of_le, le_of_suc-le-suc, le_trans, le_of_eq}
use native.Mathlib.Omega.{arith}
use lib.Dec.{ltb, leb, eqb}
use borrow.Author.Tests.{not-false, ltb-false, leb-true, le-leb, lt-ltb, le-ltb, eqb-true, eq-eqb}
use Rattle.units.specs.Folds.{largest}
use Rattle.units.proofs.Laws.Folds.{all_tells, all-holds, largest_bounds}
use Rattle.std.specs.Prelude.{Err}
use Rattle.verdict.specs.declared.Fault.TheVariants as Is
use Rattle.verdict.specs.Verdict.{Verdict, passing, answer}
use Rattle.table.specs.declared.Table.{Table}
use Rattle.table.proofs.Laws.Ceilings.{ceiling_user}
use Rattle.table.specs.Table.{task_at, D, C, limit, ceiling}
use Rattle.admission.specs.Admission.{B, independent_sum, synchronization_sum, count_in_range, setting_in_range, in_range, fault, previous, fault_at, faulty, overloaded, sums, verdict}
use Rattle.admission.proofs.Laws.Ranges.{CountFits, SettingFits, NumbersFit, count_tells, count-holds, setting_tells, setting-holds, range_tells, range_holds, sound, no_fault}
use Rattle.admission.proofs.Laws.Verdict.{Zero, first_tells, first_holds, says_rest}

-- no section that can keep i waiting is longer than B
abbrev pub Blocks : Table → Type 0
Blocks t = (i j r : ℕ) → j < t.count → r < 8 → D t i < D t j → ceiling t r ≤ D t i → limit (task_at t j) r ≤ B t i

pub record Admitted (t : Table) : Type 0 where
  pub count : CountFits t
  pub setting : SettingFits t
  pub ranges : (k : ℕ) → k < t.count → NumbersFit t.full (task_at t k)
  pub limits : (k r : ℕ) → k < t.count → r < 8 → limit (task_at t k) r ≤ C t k
  pub divides : (k : ℕ) → k < t.count → t.round % D t k ≡ 0
  pub order : (j k : ℕ) → j ≤ k → k < t.count → D t j ≤ D t k
  pub independent : independent_sum t ≤ t.round
  pub synchronization : (i : ℕ) → i < t.count → synchronization_sum t i ≤ t.round
  pub blocks : Blocks t
  pub ceilings : (k r : ℕ) → k < t.count → 0 < limit (task_at t k) r → ceiling t r ≤ D t k

within_block : (t : Table) → Blocks t
unfolding B
within_block t i j r l m h e =
    le_trans
    (largest_bounds (λ r. leb (ceiling t r) (D t i)) (limit (task_at t j)) 8 r m (le-leb _ _ e))
    (largest_bounds (λ j. ltb (D t i) (D t j)) (λ j. largest (λ r. leb (ceiling t r) (D t i)) (limit (task_at t j)) 8) t.count j l (lt-ltb _ _ h))

-- ---- an answer whose number is 0

cond_tells : (b : Bool) (x y : Verdict) → (Zero x → ⊥) → Zero (cond b x y) → (b ≡ false) × Zero y
cond_tells true x y n h = absurd (n h)
cond_tells false x y n h = (refl, h)

-- ---- a position that is not faulty

record Sound (t : Table) (k : ℕ) : Type 0 where
  range : in_range t.full (task_at t k) ≡ true
  divides : t.round % D t k ≡ 0
  order : previous t k ≤ D t k

sound_tells : (t : Table) (k : ℕ) → faulty t k ≡ false → Sound t k
unfolding faulty fault_at fault
sound_tells t k h =
    let n = eqb-true _ _ (not-false _ h) in
    let r = cond_tells (not (in_range t.full (task_at t k))) (Err (Is.Range k)) _ (λ e. omega arith) n in
    let d = cond_tells (not (eqb (t.round % D t k) 0)) (Err (Is.Divisor k)) _ (λ e. omega arith) r.1 in
    let o = cond_tells (ltb (D t k) (previous t k)) (Err (Is.Order k)) _ (λ e. omega arith) d.1 in
    record { range = not-false _ r.0; divides = eqb-true _ _ (not-false _ d.0); order = ltb-false _ _ o.0 }

sound_holds : (t : Table) (k : ℕ) → Sound t k → faulty t k ≡ false
unfolding fault_at fault
sound_holds t k h = no_fault t k {v = passing} (simp (h.range, eq-eqb _ _ h.divides, le-ltb _ _ h.order)) refl

-- ---- both ways

steady : (t : Table) → ((k : ℕ) → k < t.count → previous t k ≤ D t k) → (j k : ℕ) → j ≤ k → k < t.count → D t j ≤ D t k
steady t h j zero l m = let e : j ≡ 0 = omega arith in le_of_eq (ap (D t) e)
steady t h j (suc k) l m =
    ⊎_elim (λ e. le_of_eq (ap (D t) e)) (λ q. le_trans (steady t h j k (le_of_suc-le-suc q) (omega arith)) (h (suc k) m)) (eq-or-lt_of_le l)

pub admitted : (t : Table) → (answer (verdict t)).0 ≡ 0 → Admitted t
unfolding verdict sums overloaded
admitted t h =
    let c = cond_tells (not (count_in_range t)) (Err Is.Count) _ (λ e. omega arith) h in
    let s = cond_tells (not (setting_in_range t)) (Err Is.Setting) _ (λ e. omega arith) c.1 in
    let f = first_tells (faulty t) (fault_at t) _ t.count (λ k e z. sound t k z e) s.1 in
    let i = cond_tells (ltb t.round (independent_sum t)) (Err Is.Independent) _ (λ e. omega arith) f.1 in
    let o = first_tells (overloaded t) (λ i. Err (Is.Synchronization i)) passing t.count (λ k e z. omega arith) i.1 in
    let good : (k : ℕ) → k < t.count → Sound t k = λ k l. sound_tells t k (f.0 k l) in
    let number = count_tells t (not-false _ c.0) in
    let rise = steady t (λ k l. (good k l).order) in record {
      count = number;
      setting = setting_tells t (not-false _ s.0);
      ranges = λ k l. (range_tells _ _ (good k l).range).0;
      limits = λ k r l m. leb-true _ _ (all_tells _ 8 (range_tells _ _ (good k l).range).1 r m);
      divides = λ k l. (good k l).divides;
      order = rise;
      independent = ltb-false _ _ i.0;
      synchronization = λ i l. ltb-false _ _ (o.0 i l);
      blocks = within_block t;
      ceilings = λ k r l h. let w = ceiling_user t k r number.high l h in le_trans (le_of_eq w.2) (rise w.0 k w.1 l);
    }

pub passes : (t : Table) → Admitted t → verdict t ≡ passing
unfolding sums overloaded
passes t a =
    says_rest t (count-holds t a.count) (setting-holds t a.setting)
    ∙ first_holds _ _ _ _ (λ k l. sound_holds t k record { range = range k l; divides = a.divides k l; order = order k l })
    ∙ rw (le-ltb _ _ a.independent) (first_holds _ _ _ _ (λ i l. le-ltb _ _ (a.synchronization i l)))
  where
    range : (k : ℕ) → k < t.count → in_range t.full (task_at t k) ≡ true
    range k l = range_holds _ _ (a.ranges k l) ∙ all-holds _ 8 (λ r m. le-leb _ _ (a.limits k r l m))

    order : (k : ℕ) → k < t.count → previous t k ≤ D t k
    order zero l = omega arith
    order (suc k) l = a.order k (suc k) (omega arith) l
