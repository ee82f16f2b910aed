-- One turn of a loop that gathers, from what was found before it and what the calls of the turn gave: `search LAW` finds each, wherever it stands in the record of a place.
-- What the goal shows comes first: held against every fact that is known there, the rest would take too long. Assumes nothing.
use Rattle.std.proofs.Common.{◌≡◌, ℕ, ◌+◌, max, Bool, true, false, sym, ◌∙◌, arith}
use Rattle.std.specs.Ordering.{nat_cmp, ord_max}
use Rattle.std.proofs.lemmas.Bool.Decides.{nat_tests}
use Rattle.units.specs.Folds.{some, largest}
use Rattle.units.proofs.Laws.Tests.{cond_yes, cond_no}
use Rattle.units.proofs.Laws.Folds.{some_next, largest-next}

-- `max` of the derived order
pub told_max : {A : Type 0} (f : A → ℕ) (a b : A) {r : A} → r ≡ ord_max (λ x y. nat_cmp (f x) (f y)) a b → f r ≡ max (f a) (f b)
told_max f a b e = rw e (grind (arith, nat_tests))

module _ (p : ℕ → Bool) (n : ℕ) {b : Bool} where
  pub none_yet : b ≡ false → b ≡ p n → some p n ≡ false → some p (n + 1) ≡ false
  none_yet h e before = sym (some_next p n (sym before) (rw (← e, h)))

-- the next position has p, or it has not
module _ (p : ℕ → Bool) (f : ℕ → ℕ) (n : ℕ) {m m' : ℕ} where
  pub largest_taken : p n ≡ true → m' ≡ max m (f n) → m ≡ largest p f n → m' ≡ largest p f (n + 1)
  largest_taken h e before = largest-next p f n before (e ∙ sym (cond_yes _ _ h))

  pub largest_passed : p n ≡ false → m' ≡ m → m ≡ largest p f n → m' ≡ largest p f (n + 1)
  largest_passed h e before = largest-next p f n before (e ∙ sym (cond_no _ _ h))
