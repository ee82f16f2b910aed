-- Laws of the sets of positions: a set is the number of its bits, and what `|`, `count_ones` and `trailing_zeros` say of them. Assumes nothing.
use Rattle.std.proofs.Common.{◌≡◌, ℕ, zero, suc, ◌+◌, ◌*◌, ◌/◌, ◌%◌, ◌^◌, ◌<◌, ◌≤◌, Bool, true, false, cond, ◌||◌, eqb, sym, refl, ap, ◌∙◌, le_refl, le_of_suc-le-suc, not-suc-le-zero, mod-lt, mod-eq_of_lt, one-mul, pow-suc, div-one, add-one, arith, eq-eqb, ne_eqb}
use mathlib.Core.Bool.{or-true, or-false, false≢true}
use native.Mathlib.Nat.{pow-succ', pow-le-pow_right, div-div-eq-div-mul, div-eq_of_lt}
use lib.Dec.{eqb-suc-suc, eqb-zero-suc, eqb-suc-zero}
use lib.Count.{ones, ones_cat, count_trailing_zeros, under, trailing_le}
use lib.Bits.{bit_and, bit_or, and_mask, or_shr, or_mod, or_lt, or_shifted_r}
use Rattle.units.specs.Folds.{over, lowest}
use Rattle.units.specs.Sets.{set, has, with, how_many}
use Rattle.units.proofs.Laws.Folds.{over-same, up_to, lowest-is}

-- ---- the bits of a number

pub has-zero : (m : ℕ) → has m 0 ≡ eqb (m % 2) 1
unfolding has
has-zero m = ap (λ (x : ℕ). eqb (x % 2) 1) (div-one m)

pub has-suc : (m k : ℕ) → has m (suc k) ≡ has (m / 2) k
unfolding has
has-suc m k = ap (λ (x : ℕ). eqb (x % 2) 1) (ap (λ (d : ℕ). m / d) (pow-succ' 2 k) ∙ sym (div-div-eq-div-mul m 2 (2 ^ k)))

below_pow : (n k m : ℕ) → n ≤ k → m < 2 ^ n → m < 2 ^ k
below_pow n k m h l = let two : 0 < 2 = omega arith in omega (arith, pow-le-pow_right two {i = n} {j = k} h)

-- a position past the width is in no set
pub has_past : (n m k : ℕ) → m < 2 ^ n → n ≤ k → has m k ≡ false
unfolding has
has_past n m k h l = ap (λ (x : ℕ). eqb (x % 2) 1) (div-eq_of_lt (below_pow n k m l h))

pub has_power : (k i : ℕ) → has (2 ^ k) i ≡ eqb i k
has_power zero zero = has-zero 1
has_power zero (suc i) = has-suc 1 i ∙ has_past 0 0 i (omega arith) (omega arith) ∙ sym (eqb-suc-zero i)
has_power (suc k) zero =
    let z : 2 ^ suc k % 2 ≡ 0 = omega (arith, pow-suc 2 k) in has-zero (2 ^ suc k) ∙ ap (λ (x : ℕ). eqb x 1) z ∙ sym (eqb-zero-suc k)
has_power (suc k) (suc i) =
    let h : 2 ^ suc k / 2 ≡ 2 ^ k = omega (arith, pow-suc 2 k) in
    has-suc (2 ^ suc k) i ∙ ap (λ (x : ℕ). has x i) h ∙ has_power k i ∙ sym (eqb-suc-suc i k)

either : (x y : ℕ) → x < 2 → y < 2 → eqb (bit_or x y) 1 ≡ eqb x 1 || eqb y 1
either zero zero h l = refl
either zero (suc zero) h l = refl
either (suc zero) zero h l = refl
either (suc zero) (suc zero) h l = refl
either zero (suc (suc y)) h l = absurd (omega arith)
either (suc zero) (suc (suc y)) h l = absurd (omega arith)
either (suc (suc x)) y h l = absurd (omega arith)

pub has-or : (a b k : ℕ) → has (bit_or a b) k ≡ has a k || has b k
unfolding has
has-or a b k =
    let two : 0 < 2 = omega arith in
    ap (λ (z : ℕ). eqb (z % 2) 1) (or_shr a b k) ∙ ap (λ (z : ℕ). eqb z 1) (or_mod (a / 2 ^ k) (b / 2 ^ k) 1)
    ∙ either (a / 2 ^ k % 2) (b / 2 ^ k % 2) (mod-lt (a / 2 ^ k) two) (mod-lt (b / 2 ^ k) two)

-- ---- a set, one position more

pub set_more : (p : ℕ → Bool) (n : ℕ) → set p (suc n) ≡ cond (p n) (set p n + 2 ^ n) (set p n)
unfolding set over
set_more p n = refl

pub set-lt : (p : ℕ → Bool) (n : ℕ) → set p n < 2 ^ n
unfolding set over
set-lt p zero = omega arith
set-lt p (suc n) = go (p n) (set-lt p n)
  where
    go : (b : Bool) → set p n < 2 ^ n → cond b (set p n + 2 ^ n) (set p n) < 2 ^ suc n
    go true h = omega (arith, pow-suc 2 n)
    go false h = omega (arith, pow-suc 2 n)

pub set_same : (p q : ℕ → Bool) (n : ℕ) → ((k : ℕ) → k < n → p k ≡ q k) → set p n ≡ set q n
unfolding set
set_same p q n h = over-same p q _ _ 0 n h (λ k x l. refl)

or_power : (m k : ℕ) → m < 2 ^ k → bit_or m (2 ^ k) ≡ m + 2 ^ k
or_power m k h = ap (bit_or m) (sym (one-mul (2 ^ k))) ∙ or_shifted_r 1 k m h ∙ omega arith

-- the members of a set are those that it was made of
pub has-set : (p : ℕ → Bool) (n k : ℕ) → k < n → has (set p n) k ≡ p k
has-set p zero k l = absurd (not-suc-le-zero l)
has-set p (suc n) k l =
    rw (set_more p n)
    (up_to (λ k. has (cond (p n) (set p n + 2 ^ n) (set p n)) k ≡ p k) n (λ k l. older (p n) k l (has-set p n k l)) (newest (p n)) k l)
  where
    split : (k : ℕ) → has (set p n + 2 ^ n) k ≡ has (set p n) k || eqb k n
    split k =
        ap (λ (x : ℕ). has x k) (sym (or_power (set p n) n (set-lt p n))) ∙ has-or (set p n) (2 ^ n) k ∙ ap (λ (b : Bool). has (set p n) k || b) (has_power n k)

    older : (b : Bool) (k : ℕ) → k < n → has (set p n) k ≡ p k → has (cond b (set p n + 2 ^ n) (set p n)) k ≡ p k
    older true k l h = split k ∙ ap (λ (b : Bool). has (set p n) k || b) (ne_eqb k n (λ e. omega arith)) ∙ or-false (has (set p n) k) ∙ h
    older false k l h = h

    newest : (b : Bool) → has (cond b (set p n + 2 ^ n) (set p n)) n ≡ b
    newest true = split n ∙ ap (λ (b : Bool). has (set p n) n || b) (eq-eqb n n refl) ∙ or-true (has (set p n) n)
    newest false = has_past n (set p n) n (set-lt p n) (le_refl n)

parity : (x y : ℕ) → x < 2 → y < 2 → eqb x 1 ≡ eqb y 1 → x ≡ y
parity zero zero h l e = refl
parity zero (suc zero) h l e = absurd (false≢true e)
parity (suc zero) zero h l e = absurd (false≢true (sym e))
parity (suc zero) (suc zero) h l e = refl
parity zero (suc (suc y)) h l e = absurd (omega arith)
parity (suc zero) (suc (suc y)) h l e = absurd (omega arith)
parity (suc (suc x)) y h l e = absurd (omega arith)

-- two sets with the same members are one
pub same_set : (n a b : ℕ) → a < 2 ^ n → b < 2 ^ n → ((k : ℕ) → k < n → has a k ≡ has b k) → a ≡ b
same_set zero a b h l e = omega arith
same_set (suc n) a b h l e =
    let two : 0 < 2 = omega arith in
    let power = pow-suc 2 n in
    let low : a % 2 ≡ b % 2 = parity _ _ (mod-lt a two) (mod-lt b two) (sym (has-zero a) ∙ e 0 (omega arith) ∙ has-zero b) in
    let high : a / 2 ≡ b / 2 = same_set n _ _ (omega arith) (omega arith) (λ k m. sym (has-suc a k) ∙ e (suc k) (omega arith) ∙ has-suc b k) in
    omega arith

-- a number is the set of its bits
pub set-has : (n m : ℕ) → m < 2 ^ n → set (has m) n ≡ m
set-has n m h = same_set n _ _ (set-lt (has m) n) h (has-set (has m) n)

-- ---- what the code's operations are

power_fits : (k : ℕ) → k < 16 → 2 ^ k < 2 ^ 16
power_fits k l = let two : 0 < 2 = omega arith in omega (arith, pow-le-pow_right two {i = k} {j = 15} (omega arith))

shifted : (k : ℕ) → 2 ^ k < 2 ^ 16 → (1 * 2 ^ k) % 2 ^ 16 ≡ 2 ^ k
shifted k fits = ap (λ (x : ℕ). x % 2 ^ 16) (one-mul (2 ^ k)) ∙ mod-eq_of_lt fits

-- `m >> k & 1`
pub has_bit : (m k : ℕ) → eqb (bit_and (m / 2 ^ k) 1) 1 ≡ has m k
unfolding has
has_bit m k = ap (λ (x : ℕ). eqb x 1) (and_mask (m / 2 ^ k) 1)

pub has_none : (m k : ℕ) → m < 2 ^ 16 → 16 ≤ k → false ≡ has m k
has_none m k h l = sym (has_past 16 m k h l)

-- `m | 1 << k`
pub with_or : (m k : ℕ) → m < 2 ^ 16 → k < 16 → bit_or m ((1 * 2 ^ k) % 2 ^ 16) ≡ with m k
unfolding with
with_or m k h l =
    let fits = power_fits k l in
    rw (shifted k fits)
    (same_set 16 _ _ (or_lt 16 m (2 ^ k) h fits) (set-lt _ 16)
    (λ i b. has-or m (2 ^ k) i ∙ ap (λ (x : Bool). has m i || x) (has_power k i) ∙ sym (has-set (λ j. has m j || eqb j k) 16 i b)))

pub with_past : (m k : ℕ) → m < 2 ^ 16 → 16 ≤ k → m ≡ with m k
unfolding with
with_past m k h l =
    same_set 16 _ _ h (set-lt _ 16)
    (λ i b. sym (has-set (λ j. has m j || eqb j k) 16 i b ∙ ap (λ (x : Bool). has m i || x) (ne_eqb i k (λ e. omega arith)) ∙ or-false (has m i)))

with_above : (m k : ℕ) → m < 2 ^ k → k < 16 → with m k ≡ m + 2 ^ k
with_above m k h l =
    let fits = power_fits k l in
    sym (with_or m k (omega arith) l) ∙ ap (bit_or m) (shifted k fits) ∙ or_power m k h

-- a loop that gathers a set: the next position joins it, or does not
pub set_next : (p : ℕ → Bool) (k : ℕ) {m m' : ℕ} → k < 16 → m ≡ set p k → m' ≡ cond (p k) (with m k) m → m' ≡ set p (k + 1)
set_next p k l e e' = e' ∙ rw (e, with_above (set p k) k (set-lt p k) l, add-one k, set_more p k)

-- `count_ones`
ones_set : (p : ℕ → Bool) (n : ℕ) → ones (set p n) ≡ over p (λ k c. c + 1) 0 n
unfolding set over ones
ones_set p zero = refl
ones_set p (suc n) = go (p n) (ones_set p n)
  where
    go : (b : Bool) → ones (set p n) ≡ over p (λ k c. c + 1) 0 n → ones (cond b (set p n + 2 ^ n) (set p n)) ≡ cond b (over p (λ k c. c + 1) 0 n + 1) (over p (λ k c. c + 1) 0 n)
    go true e =
        let s : set p n + 2 ^ n ≡ 1 * 2 ^ n + set p n = omega arith in ap ones s ∙ ones_cat n 1 (set p n) (set-lt p n) ∙ omega arith
    go false e = e

pub ones_many : (m : ℕ) → m < 2 ^ 16 → ones m ≡ how_many m
unfolding how_many
ones_many m h = ap ones (sym (set-has 16 m h)) ∙ ones_set (has m) 16

-- `trailing_zeros`
zeros-at : (n m : ℕ) → count_trailing_zeros n m < n → has m (count_trailing_zeros n m) ≡ true
unfolding count_trailing_zeros
zeros-at zero m l = absurd (not-suc-le-zero l)
zeros-at (suc n) m l = go (m % 2) refl (zeros-at n (m / 2)) l
  where
    t : ℕ
    t = count_trailing_zeros n (m / 2)

    go : (d : ℕ) → m % 2 ≡ d → (t < n → has (m / 2) t ≡ true) → under d t < suc n → has m (under d t) ≡ true
    go zero e h l = has-suc m t ∙ h (le_of_suc-le-suc l)
    go (suc zero) e h l = has-zero m ∙ ap (λ (x : ℕ). eqb x 1) e
    go (suc (suc d)) e h l = absurd (omega arith)

zeros_below : (n m j : ℕ) → j < count_trailing_zeros n m → has m j ≡ false
unfolding count_trailing_zeros
zeros_below zero m j l = absurd (not-suc-le-zero l)
zeros_below (suc n) m j l = go (m % 2) refl j (zeros_below n (m / 2)) l
  where
    t : ℕ
    t = count_trailing_zeros n (m / 2)

    go : (d : ℕ) → m % 2 ≡ d → (j : ℕ) → ((i : ℕ) → i < t → has (m / 2) i ≡ false) → j < under d t → has m j ≡ false
    go zero e zero h l = has-zero m ∙ ap (λ (x : ℕ). eqb x 1) e
    go zero e (suc j) h l = has-suc m j ∙ h j (le_of_suc-le-suc l)
    go (suc d) e j h l = absurd (not-suc-le-zero l)

pub zeros_lowest : (n m : ℕ) → count_trailing_zeros n m ≡ lowest (has m) n
zeros_lowest n m = sym (lowest-is (has m) n (count_trailing_zeros n m) (trailing_le n m) (zeros-at n m) (zeros_below n m))
