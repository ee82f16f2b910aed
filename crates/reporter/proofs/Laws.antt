-- A stack whose places are written from the front, and one whose places above the depth are emptied. Assumes nothing.
use Rattle.std.proofs.Common.{arith, ◌≡◌, ◌∙◌, ℕ, ◌+◌, ◌-◌, ◌<◌, ◌≤◌, ◌++◌, List, min, length, get_or, set, take, refl, sym, ap, length-append, length-set, get_or-set_other, get_or-set_same, le-ltb, lt-ltb}
use lib.ListN.{replicate, drop}
use borrow.Rule.Slice.PartMut.{put_mid, same_len_mid}
use Rattle.std.proofs.lemmas.Slice.{take-put_mid}
use native.Mathlib.Decide.{dec_lt}
use Rattle.std.proofs.lemmas.List.{get_or-take, length-take, length-replicate, length-drop, take_all, get_or_append_left, get_or-append_right, get_or-replicate}
use Rattle.units.specs.Folds.{over, listed}
use Rattle.units.proofs.Laws.Folds.{listed-length, listed_at, listed-all}
use Rattle.units.proofs.Laws.Tests.{cond_yes, cond_no}
use Rattle.state.specs.declared.Section.{Section}
use Rattle.state.specs.declared.Stack.{Stack}
use Rattle.state.specs.Stack.{no_section, in_use, stacked}
use Rattle.state.proofs.Laws.Stacks.{placed, lent_length}

module _ (f : ℕ → Section) where
  placed_in : (n k : ℕ) → k < n → placed f n k ≡ f k
  placed_in n k l = cond_yes _ _ (lt-ltb k n l)

  placed_past : (n k : ℕ) → n ≤ k → placed f n k ≡ no_section
  placed_past n k l = cond_no _ _ (le-ltb k n l)

  -- the four places, of which the first n are written
  abbrev pub first_placed : ℕ → List Section
  first_placed n = listed (placed f n) 4

  pub place_none : first_placed 0 ≡ listed (λ i. no_section) 4
  unfolding listed over
  place_none = refl

  pub place_next : (n : ℕ) → n < 4 → set (first_placed n) n (f n) ≡ first_placed (n + 1)
  place_next n b =
      listed-all no_section (placed f (n + 1)) (set (first_placed n) n (f n)) 4 (length-set (first_placed n) n (f n) ∙ listed-length no_section (placed f n) 4) (λ k l. go k l (dec_lt k n) (dec_lt n k))
    where
      older : (k : ℕ) → k < 4 → (k ≡ n → ⊥) → placed f n k ≡ placed f (n + 1) k → get_or (set (first_placed n) n (f n)) k no_section ≡ placed f (n + 1) k
      older k l e h = get_or-set_other (first_placed n) n k (f n) no_section e ∙ listed_at no_section (placed f n) 4 k l ∙ h

      go : (k : ℕ) → k < 4 → Dec (k < n) → Dec (n < k) → get_or (set (first_placed n) n (f n)) k no_section ≡ placed f (n + 1) k
      go k l (yes c) d = older k l (λ e. omega (arith, c, e)) (placed_in n k c ∙ sym (placed_in (n + 1) k (omega (arith, c))))
      go k l (no c) (yes d) = older k l (λ e. omega (arith, d, e)) (placed_past n k (omega (arith, d)) ∙ sym (placed_past (n + 1) k (omega (arith, d))))
      go k l (no c) (no d) =
          let e : k ≡ n = omega (arith, c, d) in
          rw e (get_or-set_same (first_placed n) n (f n) no_section (omega (arith, b, listed-length no_section (placed f n) 4)) ∙ sym (placed_in (n + 1) n (omega arith)))

  -- as many as a depth has in use
  pub place_all : (n depth : ℕ) → n ≡ min depth 4 → first_placed n ≡ first_placed depth
  place_all n depth e =
      listed-all no_section (placed f depth) (first_placed n) 4 (listed-length no_section (placed f n) 4) (λ k l. listed_at no_section (placed f n) 4 k l ∙ go k l (dec_lt k depth))
    where
      go : (k : ℕ) → k < 4 → Dec (k < depth) → placed f n k ≡ placed f depth k
      go k l (yes c) = placed_in n k (omega (arith, c, e, l)) ∙ sym (placed_in depth k c)
      go k l (no c) = placed_past n k (omega (arith, c, e)) ∙ sym (placed_past depth k (omega (arith, c)))

-- a loop over the sections in use that writes f of each at its place
module _ (h : Stack) {l : List Section} (e : l ≡ in_use h) where
  pub placing : (f : ℕ → Section) (i : ℕ) {a : Stack} {x : Section} → i < length l → a ≡ record { depth = h.depth; sections = first_placed f i } → x ≡ f i
      → ◌≡◌ {A = Stack} (record { depth = a.depth; sections = set a.sections i x }) (record { depth = h.depth; sections = first_placed f (i + 1) })
  placing f i b g k = rw (g, k) (ap (λ (l : List Section). record { depth = h.depth; sections = l }) (place_next f i (omega (arith, b, lent_length h e))))

  pub all_placed : (f : ℕ → Section) (i : ℕ) {a : Stack} → i ≤ length l → length l ≤ i → a ≡ record { depth = h.depth; sections = first_placed f i } → a ≡ stacked f h.depth
  all_placed f i m n g = g ∙ ap (λ (l : List Section). record { depth = h.depth; sections = l }) (place_all f i h.depth (omega (arith, m, n, lent_length h e)))

-- what stands above the depth is written over
module _ (l : List Section) (n depth : ℕ) (e : length l ≡ 4) (h : n ≡ min depth 4) where
  long : length (take n l) ≡ n
  long = omega (arith, length-take n l, e, h)

  emptied : take n l ++ replicate (4 - n) no_section ≡ first_placed (λ i. get_or l i no_section) depth
  emptied =
      listed-all no_section (placed f depth) whole 4 (omega (arith, length-append (take n l) (replicate (4 - n) no_section), long, length-replicate (4 - n) no_section, h)) (λ k b. go k b (dec_lt k depth))
    where
      f : ℕ → Section
      f i = get_or l i no_section

      whole : List Section
      whole = take n l ++ replicate (4 - n) no_section

      go : (k : ℕ) → k < 4 → Dec (k < depth) → get_or whole k no_section ≡ placed f depth k
      go k b (yes c) =
          get_or_append_left (take n l) (replicate (4 - n) no_section) no_section k (omega (arith, long, h, b, c)) ∙ get_or-take n l k no_section (omega (arith, h, b, c)) ∙ sym (placed_in f depth k c)
      go k b (no c) =
          get_or-append_right (take n l) (replicate (4 - n) no_section) n k no_section long (omega (arith, h, c))
          ∙ get_or-replicate (4 - n) (k - n) no_section no_section (omega (arith, h, b, c)) ∙ sym (placed_past f depth k (omega (arith, c)))

  pub stack_emptied : {ys : List Section} → ys ≡ replicate (length (take (4 - n) (drop n l))) no_section
      → ◌≡◌ {A = Stack} (record { depth = depth; sections = put_mid n (4 - n) l ys }) (stacked (λ i. get_or l i no_section) depth)
  stack_emptied {ys} g =
      let rest : length (take (4 - n) (drop n l)) ≡ 4 - n = omega (arith, length-take (4 - n) (drop n l), length-drop n l, e, h) in
      let full : ys ≡ replicate (4 - n) no_section = g ∙ ap (λ (m : ℕ). replicate m no_section) rest in
      let many : length ys ≡ 4 - n = ap length full ∙ length-replicate (4 - n) no_section in
      let all : take 4 (put_mid n (4 - n) l ys) ≡ take n l ++ ys = take-put_mid n (4 - n) l ys 4 (omega (arith, many, h)) (omega (arith, e, h)) in
      let long : length (put_mid n (4 - n) l ys) ≡ length l = same_len_mid n (4 - n) l ys (many ∙ sym rest) in
      ap (λ (l : List Section). record { depth = depth; sections = l }) (sym (take_all 4 (put_mid n (4 - n) l ys) (omega (arith, long, e))) ∙ all ∙ ap (λ (y : List Section). take n l ++ y) full ∙ emptied)
