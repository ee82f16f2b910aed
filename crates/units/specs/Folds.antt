-- What is gathered over positions, of tasks or of resources, the lowest first.
use Rattle.std.specs.Prelude.{ℕ, zero, suc, ◌+◌, min, max, Bool, true, false, cond, ◌&&◌, List, [], ◌∷◌, ◌++◌, nat_lt}

-- from z, f at each position below n that has p
unfoldable pub over : {A : Type 0} → (ℕ → Bool) → (ℕ → A → A) → A → ℕ → A
over p f z zero = z
over p f z (suc n) = cond (p n) (f n (over p f z n)) (over p f z n)

-- the sum of f over the positions below n
unfoldable pub sum : (ℕ → ℕ) → ℕ → ℕ
sum f n = over (λ k. true) (λ k s. s + f k) 0 n

-- the largest f of those that have p; 0 where none has
unfoldable pub largest : (ℕ → Bool) → (ℕ → ℕ) → ℕ → ℕ
largest p f n = over p (λ k m. max m (f k)) 0 n

-- the smallest f of those that have p; z where none has
unfoldable pub smallest : (ℕ → Bool) → (ℕ → ℕ) → ℕ → ℕ → ℕ
smallest p f z n = over p (λ k m. min m (f k)) z n

-- some position below n has p
unfoldable pub some : (ℕ → Bool) → ℕ → Bool
some p n = over p (λ k b. true) false n

-- each position below n has p
unfoldable pub all : (ℕ → Bool) → ℕ → Bool
all p n = over (λ k. true) (λ k b. b && p k) true n

-- the lowest position below n that has p; n where none has
unfoldable pub lowest : (ℕ → Bool) → ℕ → ℕ
lowest p n = over p min n n

-- f of that position; z where none has p
unfoldable pub first : {A : Type 0} → (ℕ → Bool) → (ℕ → A) → A → ℕ → A
first p f z n = let k = lowest p n in cond (nat_lt k n) (f k) z

-- f of each position below n, in order
unfoldable pub listed : {A : Type 0} → (ℕ → A) → ℕ → List A
listed f n = over (λ k. true) (λ k l. l ++ (f k ∷ [])) [] n
