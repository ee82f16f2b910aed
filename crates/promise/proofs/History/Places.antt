-- The sections that the lines count, place by place, against the stack that the state holds. Assumes nothing.
use Prim.Native.Nat.{ℕ, zero, suc, ◌+◌, ◌-◌, ◌≤◌, ◌<◌}
use mathlib.Core.Path.{◌≡◌, refl, sym, ap, ◌∙◌}
use mathlib.Core.Bool.{Bool, true, false, cond, ◌||◌, false≢true}
use mathlib.Core.List.{[], ◌∷◌}
use native.Mathlib.Decide.{dec_lt}
use native.Mathlib.Nat.{not-suc-le-zero, le_refl}
use native.Mathlib.Omega.{arith}
use lib.ListN.{length, get_or}
use lib.Dec.{ltb, eqb}
use borrow.Author.Tests.{lt-ltb, le-ltb, ltb-false, eq-eqb, eqb-true}
use Rattle.units.specs.Folds.{over, listed}
use Rattle.units.proofs.Laws.Folds.{up_to, listed-all}
use Rattle.units.proofs.Laws.Tests.{cond_yes, cond_no}
use Rattle.state.specs.declared.Section.{Section}
use Rattle.state.specs.declared.Stack.{Stack}
use Rattle.state.specs.Stack.{no_section, section_at, nothing}
use Rattle.state.specs.Order.{holds_any, holds}
use Rattle.state.proofs.Laws.Stacks.{On, holds_tells, holds_at}
use Rattle.consistency.proofs.Laws.Jobs.{StackFits}
use Rattle.promise.specs.History.{IsOpen, is_held, stack_of}
use Rattle.promise.proofs.History.Opened.{down, opened}

-- ---- a list by its places

module _ (f : ℕ → Section) where
  -- the section at a place of the list stands at one of the stack, counted from the other end
  down_tells : (n p : ℕ) (x : Section) → IsOpen (down f n) p x → (i : ℕ) × (i < n) × (i + p + 1 ≡ n) × (f i ≡ x)
  unfolding down
  down_tells zero p x e = absurd e
  down_tells (suc n) zero x e = (n, le_refl (suc n), omega arith, e)
  down_tells (suc n) (suc p) x e = let w = down_tells n p x e in (w.0, omega (arith, w.1), omega (arith, w.2), w.3)

  down_at : (n i : ℕ) → i < n → (p : ℕ) × IsOpen (down f n) p (f i)
  unfolding down
  down_at zero i l = absurd (not-suc-le-zero l)
  down_at (suc n) i l = up_to (λ i. (p : ℕ) × IsOpen (f n ∷ down f n) p (f i)) n (λ i l. let w = down_at n i l in (suc w.0, w.1)) (zero, refl) i l

  down_length : (n : ℕ) → length (down f n) ≡ n
  unfolding down
  down_length zero = refl
  down_length (suc n) = ap suc (down_length n)

  down_get : (n p i : ℕ) → i + p + 1 ≡ n → get_or (down f n) p no_section ≡ f i
  unfolding down
  down_get zero p i e = absurd (omega (arith, e))
  down_get (suc n) zero i e = let same : i ≡ n = omega (arith, e) in ap f (sym same)
  down_get (suc n) (suc p) i e = down_get n p i (omega (arith, e))

  down_held : (r n : ℕ) → is_held r (down f n) ≡ true → (i : ℕ) × (i < n) × (r ≡ (f i).resource)
  unfolding down
  down_held r zero h = absurd (false≢true h)
  down_held r (suc n) h = go (eqb r (f n).resource) refl (down_held r n) h
    where
      go : (b : Bool) → eqb r (f n).resource ≡ b → (is_held r (down f n) ≡ true → (i : ℕ) × (i < n) × (r ≡ (f i).resource)) → (b || is_held r (down f n)) ≡ true
          → (i : ℕ) × (i < suc n) × (r ≡ (f i).resource)
      go true e before h = (n, le_refl (suc n), eqb-true _ _ e)
      go false e before h = let w = before h in (w.0, omega (arith, w.1), w.2)

  held_down : (r n i : ℕ) → i < n → r ≡ (f i).resource → is_held r (down f n) ≡ true
  unfolding down
  held_down r zero i l e = absurd (not-suc-le-zero l)
  held_down r (suc n) i l e =
      up_to (λ i. r ≡ (f i).resource → (eqb r (f n).resource || is_held r (down f n)) ≡ true) n (λ i l e. more (eqb r (f n).resource) (held_down r n i l e))
      (λ e. ap (λ (b : Bool). b || is_held r (down f n)) (eq-eqb _ _ e)) i l e
    where
      more : (b : Bool) → is_held r (down f n) ≡ true → (b || is_held r (down f n)) ≡ true
      more true e = refl
      more false e = e

-- ---- the stack

none_open : (h : Stack) → h.depth ≤ 0 → opened h ≡ []
unfolding down
none_open h l = let e : h.depth ≡ 0 = omega arith in ap (down (section_at h)) e

of_none : stack_of [] ≡ nothing
unfolding listed over
of_none = refl

module _ (h : Stack) where
  pub at_tells : (p : ℕ) (x : Section) → IsOpen (opened h) p x → (i : ℕ) × (i < h.depth) × (i + p + 1 ≡ h.depth) × (section_at h i ≡ x)
  at_tells p x e = down_tells (section_at h) h.depth p x e

  pub at_place : (i : ℕ) → i < h.depth → (p : ℕ) × IsOpen (opened h) p (section_at h i)
  at_place i l = down_at (section_at h) h.depth i l

  pub opened_length : length (opened h) ≡ h.depth
  opened_length = down_length (section_at h) h.depth

  module _ (fits : StackFits h) where
    pub on : (i : ℕ) → i < h.depth → On h i
    on i l = (omega (arith, l, fits.depth), l)

    -- what is held, in the state and in the lines
    pub held-is : (r : ℕ) → holds r h ≡ is_held r (opened h)
    held-is r = go (holds r h) refl (is_held r (opened h)) refl
      where
        go : (a : Bool) → holds r h ≡ a → (b : Bool) → is_held r (opened h) ≡ b → a ≡ b
        go true e true f = refl
        go false e false f = refl
        go true e false f = let w = holds_tells r h e in absurd (false≢true (sym f ∙ held_down (section_at h) r h.depth w.0 w.1.1 w.2))
        go false e true f = let w = down_held (section_at h) r h.depth f in absurd (false≢true (sym e ∙ holds_at r h w.0 (on w.0 w.1) w.2))

    -- a stack of four places is the stack of its sections
    pub stack_is : length h.sections ≡ 4 → h ≡ stack_of (opened h)
    stack_is long i = record { depth = sym opened_length i; sections = same i }
      where
        place : ℕ → Section
        place i = get_or (opened h) (length (opened h) - 1 - i) no_section

        at : (i : ℕ) → i < 4 → Dec (i < h.depth) → section_at h i ≡ cond (ltb i (length (opened h))) (place i) no_section
        at i b (yes l) =
            sym (cond_yes _ _ (lt-ltb i (length (opened h)) (omega (arith, opened_length)))
            ∙ down_get (section_at h) h.depth (length (opened h) - 1 - i) i (omega (arith, opened_length)))
        at i b (no l) = fits.spare i b (omega arith) ∙ sym (cond_no _ _ (le-ltb i (length (opened h)) (omega (arith, opened_length))))

        same : h.sections ≡ (stack_of (opened h)).sections
        same = listed-all no_section (λ i. cond (ltb i (length (opened h))) (place i) no_section) h.sections 4 long (λ i b. at i b (dec_lt i h.depth))

    -- an empty one is the stack that stands where nothing is held
    pub empty_stack : length h.sections ≡ 4 → holds_any h ≡ false → h ≡ nothing
    empty_stack long e = stack_is long ∙ ap stack_of (none_open h (ltb-false 0 h.depth e)) ∙ of_none
