-- Sums over the positions below a count, and the search for a position. Assumes nothing.
use Rattle.std.proofs.Common.{◌≡◌, ℕ, zero, suc, ◌+◌, ◌*◌, ◌<◌, ◌≤◌, ◌⊎◌, ap, subst, inl, inr, arith}
use native.Mathlib.Decide.{dec_lt}
use Rattle.units.specs.Folds.{over, sum}

-- no term is larger
pub sum-le : (f g : ℕ → ℕ) (n : ℕ) → ((k : ℕ) → k < n → f k ≤ g k) → sum f n ≤ sum g n
unfolding sum over
sum-le f g zero h = omega arith
sum-le f g (suc n) h = omega (arith, sum-le f g n (λ k l. h k (omega arith)), h n (omega arith))

-- and one is smaller
pub sum_less : (f g : ℕ → ℕ) (n p : ℕ) → p < n → ((k : ℕ) → k < n → f k ≤ g k) → f p + 1 ≤ g p → sum f n + 1 ≤ sum g n
unfolding sum over
sum_less f g zero p l h e = absurd (omega arith)
sum_less f g (suc n) p l h e = at (dec_lt p n) (λ m. sum_less f g n p m (λ k b. h k (omega arith)) e)
  where
    at : Dec (p < n) → (p < n → sum f n + 1 ≤ sum g n) → sum f n + f n + 1 ≤ sum g n + g n
    at (yes m) older = omega (arith, older m, h n (omega arith))
    at (no m) older =
        let same : p ≡ n = omega arith in
        let last : f n + 1 ≤ g n = subst (λ k. f k + 1 ≤ g k) same e in
        omega (arith, sum-le f g n (λ k b. h k (omega arith)))

-- one term
pub sum_term : (f : ℕ → ℕ) (n p : ℕ) → p < n → f p ≤ sum f n
unfolding sum over
sum_term f zero p l = absurd (omega arith)
sum_term f (suc n) p l = at (dec_lt p n) (λ m. sum_term f n p m)
  where
    at : Dec (p < n) → (p < n → f p ≤ sum f n) → f p ≤ sum f n + f n
    at (yes m) older = omega (arith, older m)
    at (no m) older = let same : p ≡ n = omega arith in omega (arith, ap f same)

-- so many times over
pub sum_times : (f : ℕ → ℕ) (c n : ℕ) → sum f n * c ≡ sum (λ k. f k * c) n
unfolding sum over
sum_times f c zero = omega arith
sum_times f c (suc n) = omega (arith, sum_times f c n)

-- nothing past the first m positions
pub sum_tail : (f : ℕ → ℕ) (n m : ℕ) → m ≤ n → ((k : ℕ) → m ≤ k → k < n → f k ≡ 0) → sum f n ≤ sum f m
unfolding sum over
sum_tail f zero m l h = let e : m ≡ 0 = omega arith in omega (arith, ap (sum f) e)
sum_tail f (suc n) m l h = at (dec_lt n m) (λ b. sum_tail f n m b (λ k a c. h k a (omega arith)))
  where
    at : Dec (n < m) → (m ≤ n → sum f n ≤ sum f m) → sum f n + f n ≤ sum f m
    at (yes a) older = let same : suc n ≡ m = omega arith in omega (arith, ap (sum f) same)
    at (no a) older = omega (arith, older (omega arith), h n (omega arith) (omega arith))

-- ---- a position that has P

-- one that has it, or none has
pub find : (P : ℕ → Type 0) → ((k : ℕ) → Dec (P k)) → (n : ℕ) → ((k : ℕ) × (k < n) × P k) ⊎ ((k : ℕ) → k < n → ¬ P k)
find P d zero = inr (λ k l x. omega arith)
find P d (suc n) = at (d n) (find P d n)
  where
    at : Dec (P n) → ((k : ℕ) × (k < n) × P k) ⊎ ((k : ℕ) → k < n → ¬ P k) → ((k : ℕ) × (k < suc n) × P k) ⊎ ((k : ℕ) → k < suc n → ¬ P k)
    at (yes x) _ = inl (n, omega arith, x)
    at (no x) (inl w) = inl (w.0, omega arith, w.2)
    at (no x) (inr w) = inr none
      where
        none : (k : ℕ) → k < suc n → ¬ P k
        none k l y = here (dec_lt k n)
          where
            here : Dec (k < n) → ⊥
            here (yes a) = w k a y
            here (no a) = x (subst P (omega arith) y)

-- the last that has it, where one has
pub last : (P : ℕ → Type 0) → ((k : ℕ) → Dec (P k)) → (n p : ℕ) → p < n → P p → (k : ℕ) × (k < n) × P k × ((j : ℕ) → k < j → j < n → ¬ P j)
last P d zero p l x = absurd (omega arith)
last P d (suc n) p l x = at (d n) (λ a. last P d n p a x)
  where
    at : Dec (P n) → (p < n → (k : ℕ) × (k < n) × P k × ((j : ℕ) → k < j → j < n → ¬ P j))
        → (k : ℕ) × (k < suc n) × P k × ((j : ℕ) → k < j → j < suc n → ¬ P j)
    at (yes y) older = (n, omega arith, y, λ j a b z. omega arith)
    at (no y) older = more (older (below (dec_lt p n)))
      where
        below : Dec (p < n) → p < n
        below (yes a) = a
        below (no a) = absurd (y (subst P (omega arith) x))

        more : (k : ℕ) × (k < n) × P k × ((j : ℕ) → k < j → j < n → ¬ P j) → (k : ℕ) × (k < suc n) × P k × ((j : ℕ) → k < j → j < suc n → ¬ P j)
        more w = (w.0, omega arith, w.2, beyond)
          where
            beyond : (j : ℕ) → w.0 < j → j < suc n → ¬ P j
            beyond j a b z = here (dec_lt j n)
              where
                here : Dec (j < n) → ⊥
                here (yes c) = w.3 j a c z
                here (no c) = y (subst P (omega arith) z)
