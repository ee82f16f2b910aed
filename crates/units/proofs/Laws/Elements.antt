-- What std gathers over the first elements of a list is what the folds gather over their positions. Assumes nothing.
use Rattle.std.proofs.Common.{◌≡◌, ℕ, zero, suc, ◌+◌, ◌≤◌, ◌<◌, List, take, length, get_or, sym, refl, ap, ◌∙◌, add-one, arith, sum_by, subst, ⊎_elim, eq-or-lt_of_le}
use denote.Param.Members.{Mut, Called}
use Rattle.std.specs.Array.{IsFromFnResultFrom}
use Rattle.std.proofs.lemmas.List.Sums.{sum_by_more}
use Rattle.units.specs.Folds.{over, sum}

module _ {X : Type 0} (d : X) (xs : List X) where
  -- `map(f).sum()`
  pub sum_sum : (f : X → ℕ) (n : ℕ) → n ≤ length xs → sum_by f (take n xs) ≡ sum (λ k. f (get_or xs k d)) n
  unfolding sum over
  sum_sum f zero l = refl
  sum_sum f (suc n) l =
      ap (λ m. sum_by f (take m xs)) (sym (add-one n)) ∙ sum_by_more f xs n d (omega arith) ∙ ap (λ s. s + f (get_or xs n d)) (sum_sum f n (omega arith))

-- `array::from_fn`: what holds of the closure before a call holds after it, and each call gives what is right at its index
module _ {F B : Type 0} (g : Mut F (ℕ × Unit {0}) B) (S : F → Type 0) (R : ℕ → B → Type 0) (d : B) (step : (p q : F) (i : ℕ) (y : B) → S p → Called g p (i, tt) y q → S q × R i y) where
  pub from_fn_at : (n i : ℕ) (f : F) (ys : List B) → S f → IsFromFnResultFrom g f ys i n → (k : ℕ) → i ≤ k → k < i + n → R k (get_or ys k d)
  from_fn_at zero i f ys s h k l m = absurd (omega arith)
  from_fn_at (suc n) i f ys s h k l m =
      let now = step f h.0 i h.1 s h.3 in
      ⊎_elim
      (λ e. subst (λ k. R k (get_or ys k d)) e (subst (R i) (sym (h.2.1 d)) now.1))
      (λ b. from_fn_at n (i + 1) h.0 ys now.0 h.4 k (omega arith) (omega arith))
      (eq-or-lt_of_le l)
