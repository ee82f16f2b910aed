-- Whether some position has what is asked, by the set of those that have it; and whether some other than one has. Assumes nothing.
use Prim.Native.Nat.{ℕ, zero, suc, ◌+◌, ◌^◌, ◌<◌}
use mathlib.Core.Path.{◌≡◌, refl, sym, ap, ◌∙◌}
use mathlib.Core.Bool.{Bool, true, false, not, ◌&&◌, ◌||◌, cond, false≢true, and-false}
use native.Mathlib.Decide.{ℕ_discrete}
use native.Mathlib.Omega.{arith}
use lib.Dec.{eqb}
use borrow.Author.Tests.{eq-eqb, ne_eqb}
use Rattle.units.specs.Folds.{over, some}
use Rattle.units.specs.Sets.{has, with}
use Rattle.units.specs.Sets as Sets
use Rattle.units.proofs.Laws.Folds.{over-same, some_tells, some_holds}
use Rattle.units.proofs.Laws.Sets.{set-lt, same_set, has-set, has_past}

pub some_same : (p q : ℕ → Bool) (n : ℕ) → ((k : ℕ) → k < n → p k ≡ q k) → some p n ≡ some q n
unfolding some
some_same p q n h = over-same p q _ _ false n h (λ k x l. refl)

pub some-set : (q : ℕ → Bool) (n : ℕ) → some q n ≡ not (eqb (Sets.set q n) 0)
unfolding some over Sets.set
some-set q zero = refl
some-set q (suc n) = go (q n) (some-set q n)
  where
    go : (b : Bool) → some q n ≡ not (eqb (Sets.set q n) 0) → cond b true (some q n) ≡ not (eqb (cond b (Sets.set q n + 2 ^ n) (Sets.set q n)) 0)
    go true e = sym (ap not (ne_eqb (Sets.set q n + 2 ^ n) 0 (λ z. omega (arith, z, set-lt q n))))
    go false e = e

none_of : (q : ℕ → Bool) (n k : ℕ) → some q n ≡ false → k < n → q k ≡ false
none_of q n k h l = go (q k) refl
  where
    go : (b : Bool) → q k ≡ b → q k ≡ false
    go true e = absurd (false≢true (sym h ∙ some_holds q n k l e))
    go false e = e

with-lt : (m k : ℕ) → with m k < 2 ^ 16
unfolding with
with-lt m k = set-lt _ 16

-- those that have q are those that have d, but for p
module _ (d q : ℕ → Bool) (p : ℕ) (gone : q p ≡ false) (others : (k : ℕ) → (k ≡ p → ⊥) → q k ≡ d k) where
  abbrev them : ℕ
  them = Sets.set d 16

  alone-has : (k : ℕ) → k < 16 → has (with 0 p) k ≡ eqb k p
  unfolding with
  alone-has k l = has-set _ 16 k l ∙ ap (λ (b : Bool). b || eqb k p) (has_past 0 0 k (omega arith) (omega arith))

  one_left : some q 16 ≡ true → (not (eqb them 0) && not (eqb them (with 0 p))) ≡ true
  one_left e =
      let w = some_tells q 16 e in
      let k = w.0 in
      let n : k ≡ p → ⊥ = λ x. false≢true (sym gone ∙ ap q (sym x) ∙ w.2) in
      let h : has them k ≡ true = has-set d 16 k w.1 ∙ sym (others k n) ∙ w.2 in
      let no = ne_eqb them 0 (λ z. false≢true (sym (has_past 0 0 k (omega arith) (omega arith)) ∙ ap (λ (m : ℕ). has m k) (sym z) ∙ h)) in
      let nor = ne_eqb them (with 0 p) (λ z. false≢true (sym (alone-has k w.1 ∙ ne_eqb k p n) ∙ ap (λ (m : ℕ). has m k) (sym z) ∙ h)) in
      rw (no, nor)

  none_left : some q 16 ≡ false → (not (eqb them 0) && not (eqb them (with 0 p))) ≡ false
  none_left e = go (d p) refl
    where
      same : d p ≡ true → (k : ℕ) → k < 16 → Dec (k ≡ p) → d k ≡ eqb k p
      same f k l (yes x) = ap d x ∙ f ∙ sym (eq-eqb k p x)
      same f k l (no x) = sym (others k x) ∙ none_of q 16 k e l ∙ sym (ne_eqb k p x)

      kept : d p ≡ false → (k : ℕ) → Dec (k ≡ p) → d k ≡ q k
      kept f k (yes x) = ap d x ∙ f ∙ sym gone ∙ ap q (sym x)
      kept f k (no x) = sym (others k x)

      go : (b : Bool) → d p ≡ b → (not (eqb them 0) && not (eqb them (with 0 p))) ≡ false
      go true f =
          let h : them ≡ with 0 p = same_set 16 them (with 0 p) (set-lt d 16) (with-lt 0 p) (λ k l. has-set d 16 k l ∙ same f k l (ℕ_discrete k p) ∙ sym (alone-has k l)) in
          ap (λ (b : Bool). not (eqb them 0) && not b) (eq-eqb them (with 0 p) h) ∙ and-false (not (eqb them 0))
      go false f = ap (λ (b : Bool). b && not (eqb them (with 0 p))) (sym (some-set d 16) ∙ some_same d q 16 (λ k l. kept f k (ℕ_discrete k p)) ∙ e)

  pub but_one : some q 16 ≡ (not (eqb them 0) && not (eqb them (with 0 p)))
  but_one = go (some q 16) refl
    where
      go : (b : Bool) → some q 16 ≡ b → some q 16 ≡ (not (eqb them 0) && not (eqb them (with 0 p)))
      go true e = e ∙ sym (one_left e)
      go false e = e ∙ sym (none_left e)
