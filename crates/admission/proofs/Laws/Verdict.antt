-- The verdict, by its cases. Assumes nothing.
use Prim.Native.Nat.{ℕ, ◌≤◌, ◌<◌}
use mathlib.Core.Path.{◌≡◌, refl, sym, ap, ◌∙◌}
use mathlib.Core.Bool.{Bool, true, false}
use mathlib.Core.Logic.{⊎_elim}
use native.Mathlib.Nat.{eq-or-lt_of_le, le_refl}
use native.Mathlib.Omega.{arith}
use borrow.Author.Tests.{lt-ltb, le-ltb}
use Rattle.units.specs.Folds.{lowest, first}
use Rattle.units.proofs.Laws.Folds.{lowest_bound, lowest-at, lowest-is, none_below, first-at, first_none}
use Rattle.std.specs.Prelude.{Ok, Err}
use Rattle.verdict.specs.declared.Fault.TheVariants as Is
use Rattle.verdict.specs.declared.Fault.{Fault}
use Rattle.verdict.specs.Verdict.{Verdict, passing, answer}
use Rattle.verdict.proofs.Laws.{fault_counts}
use Rattle.table.specs.declared.Table.{Table}
use Rattle.admission.specs.Admission.{independent_sum, count_in_range, setting_in_range, fault_at, faulty, overloaded, sums, verdict}
use Rattle.admission.proofs.Laws.Ranges.{sound}

-- ---- an answer whose number is 0, and the first that is not

abbrev pub Zero : Verdict → Type 0
Zero v = (answer v).0 ≡ 0

pub first_tells : (p : ℕ → Bool) (f : ℕ → Verdict) (z : Verdict) (n : ℕ) → ((k : ℕ) → p k ≡ true → Zero (f k) → ⊥) → Zero (first p f z n)
    → ((k : ℕ) → k < n → p k ≡ false) × Zero z
first_tells p f z n bad h =
    ⊎_elim
    (λ e. (none_below p n e, sym (ap (λ (v : Verdict). (answer v).0) (first_none p f z n e)) ∙ h))
    (λ l. absurd (bad _ (lowest-at p n l) (sym (ap (λ (v : Verdict). (answer v).0) (first-at p f z n l)) ∙ h)))
    (eq-or-lt_of_le (lowest_bound p n))

pub first_holds : (p : ℕ → Bool) (f : ℕ → Verdict) (z : Verdict) (n : ℕ) → ((k : ℕ) → k < n → p k ≡ false) → first p f z n ≡ z
first_holds p f z n h = first_none p f z n (lowest-is p n n (le_refl n) (λ l. absurd (omega arith)) h)

-- a walk that has come to the end without one
pub first_past : (p : ℕ → Bool) (f : ℕ → Verdict) (z : Verdict) (n : ℕ) {k : ℕ} → lowest p k ≡ k → k ≤ n → n ≤ k → z ≡ first p f z n
first_past p f z n {k} e l m = let s : k ≡ n = omega arith in sym (first_none p f z n (rw s at e))

-- ---- the cases

-- v is the first fault, found before the sums are known
module _ (t : Table) {v : Verdict} (e : v ≡ first (faulty t) (fault_at t) passing t.count) (z : Verdict) where
  fault-first : (Zero v → ⊥) → v ≡ first (faulty t) (fault_at t) z t.count
  fault-first h =
      ⊎_elim
      (λ n. absurd (h (ap (λ (v : Verdict). (answer v).0) (e ∙ first_none _ _ _ _ n))))
      (λ l. e ∙ first-at _ _ _ _ l ∙ sym (first-at _ _ _ _ l))
      (eq-or-lt_of_le (lowest_bound (faulty t) t.count))

  fault_none : Zero v → first (faulty t) (fault_at t) z t.count ≡ z
  fault_none h =
      first_holds _ _ z _ (first_tells (faulty t) (fault_at t) passing t.count (λ k f z. sound t k z f) (sym (ap (λ (v : Verdict). (answer v).0) e) ∙ h)).0

module _ (t : Table) where
  pub says_count : count_in_range t ≡ false → Err Is.Count ≡ verdict t
  unfolding verdict
  says_count h = simp h

  module _ (c : count_in_range t ≡ true) where
    pub says_setting : setting_in_range t ≡ false → Err Is.Setting ≡ verdict t
    unfolding verdict
    says_setting h = simp (c, h)

    module _ (s : setting_in_range t ≡ true) where
      pub says_rest : verdict t ≡ first (faulty t) (fault_at t) (sums t) t.count
      unfolding verdict
      says_rest = simp (c, s)

      -- the first fault
      pub says_fault : {e : Fault} → Err e ≡ first (faulty t) (fault_at t) passing t.count → Err e ≡ verdict t
      says_fault {e} f = fault-first t f (sums t) (fault_counts e) ∙ sym says_rest

      -- there is none, and what the sums are
      module _ {u : Unit {0}} (n : Ok u ≡ first (faulty t) (fault_at t) passing t.count) {g : ℕ} (i : g ≡ independent_sum t) where
        says_sums : verdict t ≡ sums t
        says_sums = says_rest ∙ fault_none t n (sums t) refl

        pub says_independent : t.round < g → Err Is.Independent ≡ verdict t
        unfolding sums
        says_independent l = sym (says_sums ∙ rw (← i, lt-ltb _ _ l))

        pub says_overload : {r : Verdict} → g ≤ t.round → r ≡ first (overloaded t) (λ i. Err (Is.Synchronization i)) passing t.count → r ≡ verdict t
        unfolding sums
        says_overload l f = f ∙ sym (says_sums ∙ rw (← i, le-ltb _ _ l))
