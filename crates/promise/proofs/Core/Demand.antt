-- What one task can still ask for, as numbers alone. Assumes nothing.
use mathlib.Core.Path.{◌≡◌, refl, sym, ◌∙◌}
use mathlib.Core.Bool.{Bool, true, false, true≢false}
use mathlib.Core.Logic.{◌⊎◌, inl, inr}
use Prim.Native.Nat.{ℕ, ◌+◌, ◌*◌, ◌-◌, ◌/◌, ◌≤◌, ◌<◌}
use native.Mathlib.Nat.{div-eq_of_lt, div-eq-sub-div, zero-div, mul-le-mul_left}
use native.Mathlib.Decide.{dec_le}
use native.Mathlib.Omega.{arith}
use Rattle.units.proofs.Laws.Amounts.{quotient_more}

pub true-or-false : (b : Bool) → (b ≡ true) ⊎ (b ≡ false)
true-or-false true = inl refl
true-or-false false = inr refl

pub clash : {A : Type 0} {b : Bool} → b ≡ true → b ≡ false → A
clash p q = absurd (true≢false (sym p ∙ q))

-- x where both hold, else nothing
abbrev pick : {A : Type 0} → Bool → Dec A → ℕ → ℕ
pick true (yes l) x = x
pick true (no l) x = 0
pick false d x = 0

pick_in : {A : Type 0} (p : Bool) (d : Dec A) (x : ℕ) → p ≡ true → A → pick p d x ≡ x
pick_in true (yes l) x e a = refl
pick_in true (no l) x e a = absurd (l a)
pick_in false d x e a = clash e refl

pick_out : {A : Type 0} (p : Bool) (d : Dec A) (x : ℕ) → (p ≡ true → ¬ A) → pick p d x ≡ 0
pick_out true (yes l) x e = absurd (e refl l)
pick_out true (no l) x e = refl
pick_out false d x e = refl

-- x, of a job that is there (p) and whose deadline, d away, is at most h away; else nothing
unfoldable pub asked : Bool → ℕ → ℕ → ℕ → ℕ
asked p d h x = pick p (dec_le d h) x

pub asked_in : (p : Bool) (d h x : ℕ) → p ≡ true → d ≤ h → asked p d h x ≡ x
unfolding asked
asked_in p d h x e l = pick_in p (dec_le d h) x e l

pub asked_out : (p : Bool) (d h x : ℕ) → (p ≡ true → h < d) → asked p d h x ≡ 0
unfolding asked
asked_out p d h x e = pick_out p (dec_le d h) x (λ t l. omega (arith, e t))

pub asked_mono : (p q : Bool) (d h x e k y : ℕ) → (p ≡ true → d ≤ h → (q ≡ true) × (e ≤ k) × (x ≤ y)) →
    asked p d h x ≤ asked q e k y
asked_mono p q d h x e k y f = at (true-or-false p) (dec_le d h)
  where
    at : (p ≡ true) ⊎ (p ≡ false) → Dec (d ≤ h) → asked p d h x ≤ asked q e k y
    at (inl t) (yes l) = omega (arith, asked_in p d h x t l, asked_in q e k y (f t l).0 (f t l).1, (f t l).2)
    at (inl t) (no l) = omega (arith, asked_out p d h x (λ u. omega arith))
    at (inr t) _ = omega (arith, asked_out p d h x (λ u. clash u t))

-- a job that is there and due by k, and that loses at least one by then or is no more
pub asked_less : (p q : Bool) (d h x e k y : ℕ) → q ≡ true → e ≤ k → 1 ≤ y → (p ≡ true → x + 1 ≤ y) →
    asked p d h x + 1 ≤ asked q e k y
asked_less p q d h x e k y t l a f = at (true-or-false p) (dec_le d h)
  where
    at : (p ≡ true) ⊎ (p ≡ false) → Dec (d ≤ h) → asked p d h x + 1 ≤ asked q e k y
    at (inl u) (yes m) = omega (arith, asked_in p d h x u m, asked_in q e k y t l, f u)
    at (inl u) (no m) = omega (arith, asked_out p d h x (λ v. omega arith), asked_in q e k y t l)
    at (inr u) _ = omega (arith, asked_out p d h x (λ v. clash v u), asked_in q e k y t l)

-- c for each whole length d of h past e
unfoldable pub coming : ℕ → ℕ → ℕ → ℕ → ℕ
coming c e d h = c * ((h - e) / d)

pub coming_mono : (c e d h a k : ℕ) → 1 ≤ d → h - e ≤ k - a → coming c e d h ≤ coming c a d k
unfolding coming
coming_mono c e d h a k p l = mul-le-mul_left c (quotient_more (h - e) (k - a) d p l)

-- a job that is taken on moves from what is coming to what is asked
pub taken-on : (c d h : ℕ) → 1 ≤ d → asked true d h c + coming c d d h ≡ coming c 0 d h
unfolding coming
taken-on c d h p = at (dec_le d h)
  where
    whole : h - 0 ≡ h
    whole = omega arith

    at : Dec (d ≤ h) → asked true d h c + c * ((h - d) / d) ≡ c * ((h - 0) / d)
    at (yes l) = rw (whole, div-eq-sub-div p l) (omega (arith, asked_in true d h c refl l))
    at (no l) =
        let none : h - d ≡ 0 = omega arith in
        let less : h / d ≡ 0 = div-eq_of_lt (omega arith) in
        rw (whole, none, zero-div, less) (omega (arith, asked_out true d h c (λ u. omega arith)))

pub coming_all : (c e d h : ℕ) → 1 ≤ d → coming c e d h ≤ c * (h / d)
unfolding coming
coming_all c e d h p = mul-le-mul_left c (quotient_more (h - e) h d p (omega arith))
