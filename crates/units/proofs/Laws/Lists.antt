-- A loop that puts f of each element in its place, from the front. Assumes nothing.
use Rattle.std.proofs.Common.{◌≡◌, ℕ, zero, suc, ◌+◌, ◌≤◌, List, [], ◌∷◌, map, length, get_or, set, refl, ap, le_of_suc-le-suc, not-suc-le-zero, add-one}

module _ {A : Type 0} (f : A → A) where
  -- f of each of the first i elements, and the others
  abbrev pub part : ℕ → List A → List A
  part zero l = l
  part (suc i) [] = []
  part (suc i) (x ∷ l) = f x ∷ part i l

  part_suc : (i : ℕ) (l : List A) (d : A) → set (part i l) i (f (get_or (part i l) i d)) ≡ part (suc i) l
  part_suc zero [] d = refl
  part_suc zero (x ∷ l) d = refl
  part_suc (suc i) [] d = refl
  part_suc (suc i) (x ∷ l) d = ap (λ m. f x ∷ m) (part_suc i l d)

  pub part_more : (i : ℕ) (l : List A) (d : A) → set (part i l) i (f (get_or (part i l) i d)) ≡ part (i + 1) l
  part_more i l d = rw add-one (part_suc i l d)

  pub part_all : (i : ℕ) (l : List A) → length l ≤ i → part i l ≡ map f l
  part_all zero [] h = refl
  part_all zero (x ∷ l) h = absurd (not-suc-le-zero h)
  part_all (suc i) [] h = refl
  part_all (suc i) (x ∷ l) h = ap (λ m. f x ∷ m) (part_all i l (le_of_suc-le-suc h))
