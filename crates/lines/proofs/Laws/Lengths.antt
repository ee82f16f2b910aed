-- No line is longer than the room that is asked for. Assumes nothing.
use Rattle.std.specs.Prelude.{Some, None}
use mathlib.Core.Bool.{Bool, true, false, cond}
use mathlib.Core.List.{List, [], ◌∷◌, ◌++◌}
use Prim.Native.Nat.{ℕ, zero, suc, ◌+◌, ◌/◌, ◌%◌, ◌^◌, ◌≤◌, ◌<◌}
use mathlib.Core.Path.{◌≡◌, refl, sym, ◌∙◌, ap}
use native.Mathlib.Omega.{arith}
use native.Mathlib.Decide.{dec_lt}
use borrow.Author.Tests.{lt-ltb, le-ltb}
use lib.Dec.{ltb}
use lib.ListN.{length, length-append}
use Rattle.state.specs.State.{Runner}
use Rattle.state.specs.declared.Mode.{Mode}
use Rattle.state.specs.declared.Mode.TheVariants.{Independent, Synchronization}
use Rattle.lines.specs.declared.Line.{Line}
use Rattle.lines.specs.declared.Line.TheVariants.{Table, Release, Run, Refused}
use Rattle.lines.specs.Lines.{digits, decimal, field, runner, mode, text}

none_or : (b : Bool) (xs : List ℕ) → length (cond b [] xs) ≤ length xs
none_or true xs = omega arith
none_or false xs = omega arith

pub digits_le : (most n : ℕ) → length (digits most n) ≤ most
unfolding digits
digits_le zero n = omega arith
digits_le (suc most) n =
    omega (
      arith,
      length-append (cond (ltb n 10) [] (digits most (n / 10))) ((48 + n % 10) ∷ []),
      none_or (ltb n 10) (digits most (n / 10)),
      digits_le most (n / 10),
    )

-- with room for one digit more the digits are the same
digits_more : (most n : ℕ) → n < 10 ^ suc most → digits (suc (suc most)) n ≡ digits (suc most) n
unfolding digits
digits_more zero n h = let s : n < 10 = omega arith in rw (lt-ltb n 10 s) refl
digits_more (suc most) n h = go (dec_lt n 10) (λ l. digits_more most (n / 10) (omega arith))
  where
    go : Dec (n < 10) → (10 ≤ n → digits (suc (suc most)) (n / 10) ≡ digits (suc most) (n / 10))
        → (cond (ltb n 10) [] (digits (suc (suc most)) (n / 10)) ++ ((48 + n % 10) ∷ [])) ≡ (cond (ltb n 10) [] (digits (suc most) (n / 10)) ++ ((48 + n % 10) ∷ []))
    go (yes s) f = rw (lt-ltb n 10 s) refl
    go (no s) f = rw (f (omega arith)) refl

pub decimal_digit : (n : ℕ) → n < 10 → decimal n ≡ (48 + n % 10) ∷ []
unfolding decimal digits
decimal_digit n s = rw (lt-ltb n 10 s) refl

digits_next : (most n : ℕ) → 10 ≤ n → digits (suc most) n ≡ digits most (n / 10) ++ ((48 + n % 10) ∷ [])
unfolding digits
digits_next most n big = rw (le-ltb n 10 big) refl

-- a number of 32 bits that has more than one digit
module _ (n : ℕ) (big : 10 ≤ n) (fits : n < 2 ^ 32) where
  shorter : decimal (n / 10) ≡ digits 9 (n / 10)
  unfolding decimal
  shorter = digits_more 8 (n / 10) (omega arith)

  pub decimal_more : decimal n ≡ decimal (n / 10) ++ ((48 + n % 10) ∷ [])
  unfolding decimal
  decimal_more = digits_next 9 n big ∙ ap (λ (xs : List ℕ). xs ++ ((48 + n % 10) ∷ [])) (sym shorter)

  pub decimal_front : length (decimal (n / 10)) ≤ 9
  decimal_front = rw shorter (digits_le 9 (n / 10))

pub decimal-le : (n : ℕ) → length (decimal n) ≤ 10
unfolding decimal
decimal-le n = digits_le 10 n

runner-le : (r : Runner) → length (runner r) ≤ 10
unfolding runner
runner-le (Some p) = decimal-le p
runner-le None = omega arith

mode-le : (m : Mode) → length (mode m) ≤ 1
unfolding mode
mode-le Independent = omega arith
mode-le Synchronization = omega arith

pub text-le : (line : Line) → length (text line) ≤ 64
unfolding text field
text-le (Table n) = simp length-append (omega (arith, decimal-le n))
text-le (Release now p n) = simp length-append (omega (arith, decimal-le now.0, decimal-le p, decimal-le n))
text-le (Run now who m speed ending) =
    simp length-append (omega (arith, decimal-le now.0, runner-le who, mode-le m, decimal-le speed, decimal-le ending))
text-le (Refused now n) = simp length-append (omega (arith, decimal-le now.0, decimal-le n))
