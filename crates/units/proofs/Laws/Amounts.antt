-- Laws of `given` and `up`: a faster tick gives more; Up covers the work, with the fewest ticks. Assumes nothing.
use Rattle.std.proofs.Common.{◌≡◌, ℕ, zero, suc, ◌+◌, ◌-◌, ◌*◌, ◌/◌, ◌<◌, ◌≤◌, le_of_suc-le-suc, suc-mul, div-lt_iff_lt-mul, le-div_iff_mul-le, div-mul-le_self, le_antisymm, arith}
use native.Mathlib.Nat.{div-zero, div-eq_of_lt, lt-div-mul-add}
use native.Mathlib.Decide.{dec_le}
use Rattle.std.proofs.Math.Nat.{lt_of_mul-lt-mul_right}
use Rattle.std.proofs.lemmas.Grind.{div_ceil_times}
use Rattle.std.specs.Int.{div_ceil}
use Rattle.units.specs.Amounts.{given, up}

pub given-some : (s : ℕ) → 1 ≤ s → 1 ≤ given s
unfolding given
given-some s h = h

pub given-more : (a b : ℕ) → a ≤ b → given a ≤ given b
unfolding given
given-more a b h = h

pub up_none : (a : ℕ) → up a 0 ≡ 0
unfolding up
up_none a = div-zero (a + (0 - 1))

pub up-covers : (a b : ℕ) → 0 < b → a ≤ up a b * b
unfolding up
up-covers a b p = omega (arith, lt-div-mul-add {a = a + (b - 1)} p)

quotient_below : (x n b : ℕ) → 0 < b → x < suc n * b → x / b ≤ n
quotient_below x n b p l = le_of_suc-le-suc ((div-lt_iff_lt-mul p).1 l)

pub up_least : (a b n : ℕ) → a ≤ n * b → up a b ≤ n
unfolding up
up_least a zero n h = omega (arith, up_none a)
up_least a (suc b) n h = quotient_below (a + (suc b - 1)) n (suc b) (omega arith) (omega (arith, suc-mul n (suc b)))

-- `div_ceil`
pub ceil_up : (a b : ℕ) → 0 < b → div_ceil a b ≡ up a b
ceil_up a b p =
    let times = div_ceil_times a b p in
    let covers = up-covers a b p in
    le_antisymm (le_of_suc-le-suc (lt_of_mul-lt-mul_right b {m = div_ceil a b} {n = suc (up a b)} (omega (arith, times, suc-mul (up a b) b)))) (up_least a b (div_ceil a b) times.0)

-- more makes no smaller quotient
pub quotient_more : (a b d : ℕ) → 1 ≤ d → a ≤ b → a / d ≤ b / d
quotient_more a b d p h = (le-div_iff_mul-le p).1 (omega (arith, div-mul-le_self a d))

-- "Up(0, b) = 0"
pub up-zero : (b : ℕ) → 1 ≤ b → up 0 b ≡ 0
unfolding up
up-zero b p = div-eq_of_lt (omega arith)

-- some work takes some ticks, and more work no fewer
pub up-some : (a b : ℕ) → 1 ≤ b → 1 ≤ a → 1 ≤ up a b
unfolding up
up-some a b p q = (le-div_iff_mul-le p).1 (omega arith)

pub up_more : (a c b : ℕ) → 1 ≤ b → a ≤ c → up a b ≤ up c b
unfolding up
up_more a c b p h = quotient_more (a + (b - 1)) (c + (b - 1)) b p (omega arith)

-- a tick that gives b steps or more leaves one tick less to do
pub up_step : (a v b : ℕ) → 1 ≤ b → b ≤ v → 1 ≤ a → up (a - v) b + 1 ≤ up a b
unfolding up
up_step a v b p h q = (le-div_iff_mul-le p).1 (at (dec_le v a))
  where
    at : Dec (v ≤ a) → ((a - v + (b - 1)) / b + 1) * b ≤ a + (b - 1)
    at (yes l) = omega (arith, div-mul-le_self (a - v + (b - 1)) b)
    at (no l) = let none : (a - v + (b - 1)) / b ≡ 0 = div-eq_of_lt (omega arith) in rw none (omega arith)
