-- Sets: "a set of positions, one bit each", as a number of 16 bits.
use Rattle.std.specs.Prelude.{ℕ, ◌+◌, ◌/◌, ◌%◌, ◌^◌, Bool, ◌||◌, ◌==◌}
use Rattle.units.specs.Folds.{over}

-- the set of the positions below n that have p
unfoldable pub set : (ℕ → Bool) → ℕ → ℕ
set p n = over p (λ k m. m + 2 ^ k) 0 n

-- the position k is in the set m
unfoldable pub has : ℕ → ℕ → Bool
has m k = m / 2 ^ k % 2 == 1

-- the set m with the position k
unfoldable pub with : ℕ → ℕ → ℕ
with m k = set (λ j. has m j || j == k) 16

-- how many positions are in the set m
unfoldable pub how_many : ℕ → ℕ
how_many m = over (has m) (λ k c. c + 1) 0 16
