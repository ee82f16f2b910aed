-- The stack of a job. Assumes nothing.
use Prim.Native.Nat.{ℕ, ◌≤◌, ◌<◌}
use mathlib.Core.Path.{◌≡◌, refl, sym, ap, ◌∙◌}
use mathlib.Core.Bool.{Bool, true, false, cond, ◌&&◌, false≢true}
use mathlib.Core.List.{List, [], ◌∷◌}
use native.Mathlib.Decide.{dec_lt}
use native.Mathlib.Omega.{arith}
use lib.Dec.{ltb}
use lib.ListN.{length, take, get_or}
use mathlib.Core.Bool.{or-false}
use Prim.Native.Nat.{zero, suc, min}
use native.Mathlib.Decide.{dec_le}
use Rattle.std.specs.List.{list_any, fold}
use Rattle.std.proofs.lemmas.List.Folds.{list_any-append}
use Rattle.std.proofs.lemmas.List.Sums.{fold-append}
use Rattle.units.proofs.Laws.Folds.{over-same, over_past}
use Rattle.std.proofs.lemmas.List.{get_or-take, length-take}
use Rattle.state.proofs.Laws.Holders.{or-cond}
use borrow.Author.Tests.{lt-ltb, le-ltb, ltb-true, eq-eqb, eqb-true}
use Rattle.units.specs.Folds.{over, some, listed}
use Rattle.units.proofs.Laws.Folds.{both, some_tells, some_holds, Filled, listed-length, listed_at, listed-all}
use Rattle.units.proofs.Laws.Tests.{cond_yes, cond_no, and-true}
use Rattle.state.specs.declared.Section.{Section}
use Rattle.state.specs.declared.Stack.{Stack}
use Rattle.state.specs.Stack.{no_section, section_at, in_use, stacked, any_on}
use Rattle.state.specs.Order.{holds_any, holds}

-- ---- a stack that is made

module _ (f : ℕ → Section) (n i : ℕ) (b : i < 4) where
  pub stacked-at : i < n → section_at (stacked f n) i ≡ f i
  stacked-at l = listed_at no_section _ 4 i b ∙ cond_yes _ _ (lt-ltb i n l)

  pub stacked_spare : n ≤ i → section_at (stacked f n) i ≡ no_section
  stacked_spare l = listed_at no_section _ 4 i b ∙ cond_no _ _ (le-ltb i n l)

-- what stands at a place of the stack of n sections
abbrev pub placed : (ℕ → Section) → ℕ → ℕ → Section
placed f n i = cond (ltb i n) (f i) no_section

module _ (f : ℕ → Section) (n : ℕ) where
  -- its four places, filled from the front
  pub stacked_filled : {l : List Section} {i : ℕ} → Filled no_section (λ i x. x ≡ placed f n i) 4 l i → 4 ≤ i → ◌≡◌ {A = Stack} (record { depth = n; sections = l }) (stacked f n)
  stacked_filled {l} h full = ap (λ (l : List Section). record { depth = n; sections = l }) (listed-all no_section (placed f n) l 4 h.long (λ k b. h.right k (omega arith)))

  -- and as those of another, where that is the same at each place in use
  pub stacked-same : (g : ℕ → Section) → ((i : ℕ) → i < 4 → i < n → g i ≡ f i) → stacked g n ≡ stacked f n
  stacked-same g h = stacked_filled record { within = omega arith; long = listed-length no_section (placed g n) 4; right = λ k b. listed_at no_section (placed g n) 4 k b ∙ same k b (dec_lt k n) } (omega arith)
    where
      same : (k : ℕ) → k < 4 → Dec (k < n) → placed g n k ≡ placed f n k
      same k b (yes l) = cond_yes _ _ (lt-ltb k n l) ∙ h k b l ∙ sym (cond_yes _ _ (lt-ltb k n l))
      same k b (no l) = cond_no _ _ (le-ltb k n (omega (arith, l))) ∙ sym (cond_no _ _ (le-ltb k n (omega (arith, l))))

-- ---- what some section on it has

-- a place in use
abbrev pub On : Stack → ℕ → Type 0
On h i = (i < 4) × (i < h.depth)

module _ (p : Section → Bool) (h : Stack) where
  pub on_tells : any_on p h ≡ true → (i : ℕ) × On h i × (p (section_at h i) ≡ true)
  unfolding any_on
  on_tells e =
      let w = some_tells _ 4 e in
      let v = both (ltb w.0 h.depth) _ w.2 in
      (w.0, (w.1, ltb-true _ _ v.0), v.1)

  pub on_holds : (i : ℕ) → On h i → p (section_at h i) ≡ true → any_on p h ≡ true
  unfolding any_on
  on_holds i l e = some_holds _ 4 i l.0 (and-true _ _ (lt-ltb _ _ l.1) e)

  pub on_none : any_on p h ≡ false → (i : ℕ) → On h i → p (section_at h i) ≡ false
  on_none e i l = go (p (section_at h i)) refl
    where
      go : (b : Bool) → p (section_at h i) ≡ b → p (section_at h i) ≡ false
      go true f = absurd (false≢true (sym e ∙ on_holds i l f))
      go false f = f

  pub on_free : ((i : ℕ) → On h i → p (section_at h i) ≡ true → ⊥) → any_on p h ≡ false
  on_free f = go (any_on p h) refl
    where
      go : (b : Bool) → any_on p h ≡ b → any_on p h ≡ false
      go true e = let w = on_tells e in absurd (f w.0 w.1 w.2)
      go false e = e

  pub on_empty : holds_any h ≡ false → any_on p h ≡ false
  on_empty e = on_free (λ i l f. false≢true (sym e ∙ lt-ltb 0 h.depth (omega (arith, l))))

  -- a stack that has one is not empty
  pub on_any : any_on p h ≡ true → holds_any h ≡ true
  on_any e = let w = on_tells e in lt-ltb 0 h.depth (omega (arith, w.1))

-- ---- the sections in use, as code goes over them: what is gathered from them is what is gathered over the four places

module _ (f : ℕ → Section) where
  any-listed : (p : Section → Bool) (n : ℕ) → list_any p (listed f n) ≡ some (λ i. p (f i)) n
  unfolding some listed over
  any-listed p zero = refl
  any-listed p (suc n) = list_any-append p (listed f n) (f n ∷ []) ∙ rw (any-listed p n, or-false) (or-cond _ (p (f n)))

  fold-listed : {A : Type 0} (g : A → Section → A) (z : A) (n : ℕ) → fold g z (listed f n) ≡ over (λ i. true) (λ i a. g a (f i)) z n
  unfolding listed over
  fold-listed g z zero = refl
  fold-listed g z (suc n) = fold-append g z (listed f n) (f n ∷ []) ∙ rw (fold-listed g z n)

module _ (h : Stack) where
  reached : {A : Type 0} (p q : ℕ → Bool) (f : ℕ → A → A) (z : A) → ((k : ℕ) → k < h.depth → q k ≡ p k) → ((k : ℕ) → h.depth ≤ k → q k ≡ false) → over p f z (min h.depth 4) ≡ over q f z 4
  reached p q f z here past = sym (go (dec_le h.depth 4))
    where
      go : Dec (h.depth ≤ 4) → over q f z 4 ≡ over p f z (min h.depth 4)
      go (yes l) = sym (over_past q f z h.depth 4 l (λ k a b. past k a)) ∙ over-same q p f f z h.depth here (λ k x b. refl) ∙ ap (over p f z) (omega arith)
      go (no l) = over-same q p f f z 4 (λ k b. here k (omega (arith, l))) (λ k x b. refl) ∙ ap (over p f z) (omega (arith, l))

  pub any_in_use : (p : Section → Bool) → list_any p (in_use h) ≡ any_on p h
  unfolding any_on some
  any_in_use p =
      let here = λ (k : ℕ) (l : k < h.depth). ap (λ (b : Bool). b && p (section_at h k)) (lt-ltb _ _ l) in
      let past = λ (k : ℕ) (l : h.depth ≤ k). ap (λ (b : Bool). b && p (section_at h k)) (le-ltb _ _ l) in
      any-listed (section_at h) p (min h.depth 4) ∙ reached (λ i. p (section_at h i)) _ (λ k b. true) false here past

  pub fold_in_use : {A : Type 0} (g : A → Section → A) (z : A) → fold g z (in_use h) ≡ over (λ i. ltb i h.depth) (λ i a. g a (section_at h i)) z 4
  fold_in_use g z = fold-listed (section_at h) g z (min h.depth 4) ∙ reached (λ i. true) (λ i. ltb i h.depth) _ z (λ k l. lt-ltb _ _ l) (λ k l. le-ltb _ _ l)

  -- what code lends
  pub lent_in_use : length h.sections ≡ 4 → (n : ℕ) → n ≡ min h.depth 4 → take n h.sections ≡ in_use h
  lent_in_use e n m =
      listed-all no_section (section_at h) (take n h.sections) (min h.depth 4) (omega (arith, length-take n h.sections, e, m)) (λ k l. get_or-take n h.sections k no_section (omega (arith, m)))

  module _ {l : List Section} (e : l ≡ in_use h) where
    pub lent_length : length l ≡ min h.depth 4
    lent_length = ap length e ∙ listed-length no_section (section_at h) (min h.depth 4)

    pub lent_at : (i : ℕ) (d : Section) → i < length l → get_or l i d ≡ section_at h i
    lent_at i d b = ap (λ (l : List Section). get_or l i d) e ∙ listed_at d (section_at h) (min h.depth 4) i (omega (arith, b, lent_length))

    -- some section below one of them
    pub lent_below : (p : Section → Bool) (i : ℕ) → i < length l → list_any p (take i l) ≡ some (λ m. p (section_at h m)) i
    lent_below p i b =
        ap (list_any p)
        (listed-all no_section (section_at h) (take i l) i (omega (arith, length-take i l, b)) (λ k m. get_or-take i l k no_section m ∙ lent_at k no_section (omega (arith, m, b))))
        ∙ any-listed (section_at h) p i

-- ---- the resources

module _ (r : ℕ) (h : Stack) where
  pub holds_tells : holds r h ≡ true → (i : ℕ) × On h i × (r ≡ (section_at h i).resource)
  holds_tells e = let w = on_tells _ h e in (w.0, w.1, eqb-true _ _ w.2)

  pub holds_at : (i : ℕ) → On h i → r ≡ (section_at h i).resource → holds r h ≡ true
  holds_at i l e = on_holds _ h i l (eq-eqb _ _ e)
