-- The steps at each place of a stack: one line more adds no more to them than its tick gives. Assumes nothing.
use Prim.Native.Nat.{ℕ, zero, suc, ◌-◌, ◌+◌, ◌≤◌, ◌<◌}
use mathlib.Core.Path.{◌≡◌, refl, sym, ap, ◌∙◌}
use mathlib.Core.Bool.{cond}
use mathlib.Core.List.{List, [], ◌∷◌, map}
use native.Mathlib.Decide.{dec_lt, ℕ_discrete}
use native.Mathlib.Omega.{arith}
use lib.ListN.{length, get_or}
use lib.Dec.{eqb}
use borrow.Author.Tests.{eq-eqb, ne_eqb}
use Rattle.units.specs.Amounts.{given, steps}
use Rattle.units.proofs.Laws.Tests.{cond_yes, cond_no}
use Rattle.state.specs.{declared.Section.Section, declared.Report.TheVariants.CarryOn, declared.Report.TheVariants.Done, declared.Report.TheVariants.Take, declared.Report.TheVariants.Give, Stack.no_section, Stack.section_at}
use Rattle.state.proofs.Laws.Stacks.{stacked-at, stacked_spare}
use Rattle.promise.specs.History.{Call, release, choose, report, longer, after_call, stack_of}

-- the steps of the section that stands at a place, counted from the outermost, which is the last of the list
abbrev pub steps_at : List Section → ℕ → ℕ
steps_at [] i = 0
steps_at (x ∷ l) i = cond (eqb i (length l)) x.steps.0 (steps_at l i)

module _ (x : Section) (l : List Section) (i : ℕ) where
  innermost : i ≡ length l → steps_at (x ∷ l) i ≡ x.steps.0
  innermost e = cond_yes _ _ (eq-eqb _ _ e)

  further : (i ≡ length l → ⊥) → steps_at (x ∷ l) i ≡ steps_at l i
  further n = cond_no _ _ (ne_eqb _ _ n)

above : (l : List Section) (i : ℕ) → length l ≤ i → steps_at l i ≡ 0
above [] i b = refl
above (x ∷ l) i b = further x l i (λ e. omega (arith, e)) ∙ above l i (omega arith)

-- so it is on the stack of the list
at_index : (l : List Section) (i n : ℕ) → i + n + 1 ≡ length l → (get_or l n no_section).steps.0 ≡ steps_at l i
at_index [] i zero e = absurd (omega (arith, e))
at_index [] i (suc n) e = absurd (omega (arith, e))
at_index (x ∷ l) i zero e = sym (innermost x l i (omega (arith, e)))
at_index (x ∷ l) i (suc n) e = at_index l i n (omega (arith, e)) ∙ sym (further x l i (λ z. omega (arith, e, z)))

pub on_stack : (l : List Section) (i : ℕ) → i < 4 → (section_at (stack_of l) i).steps.0 ≡ steps_at l i
on_stack l i b = go (dec_lt i (length l))
  where
    go : Dec (i < length l) → (section_at (stack_of l) i).steps.0 ≡ steps_at l i
    go (yes m) = ap (λ (x : Section). x.steps.0) (stacked-at _ (length l) i b m) ∙ at_index l i (length l - 1 - i) (omega (arith, m))
    go (no m) = ap (λ (x : Section). x.steps.0) (stacked_spare _ (length l) i b (omega arith)) ∙ sym (above l i (omega arith))

-- ---- one tick

module _ (v : ℕ) where
  same_length : (l : List Section) → length (map (longer v) l) ≡ length l
  same_length [] = refl
  same_length (x ∷ l) = ap suc (same_length l)

  longer-le : (l : List Section) (i : ℕ) → steps_at (map (longer v) l) i ≤ steps_at l i + given v
  longer-le [] i = omega arith
  longer-le (x ∷ l) i = go (longer-le l i) (ℕ_discrete i (length l))
    where
      go : steps_at (map (longer v) l) i ≤ steps_at l i + given v → Dec (i ≡ length l) → steps_at (map (longer v) (x ∷ l)) i ≤ steps_at (x ∷ l) i + given v
      go before (yes e) = omega (arith, innermost x l i e, innermost (longer v x) (map (longer v) l) i (e ∙ sym (same_length l)))
      go before (no n) = omega (arith, before, further x l i n, further (longer v x) (map (longer v) l) i (λ e. n (e ∙ same_length l)))

  taken-le : (r : ℕ) (l : List Section) (i : ℕ) → steps_at (after_call (report (Take r)) (map (longer v) l)) i ≤ steps_at l i + given v
  taken-le r l i = go (ℕ_discrete i (length (map (longer v) l)))
    where
      new : Section
      new = record { resource = r; steps = steps 0 }

      go : Dec (i ≡ length (map (longer v) l)) → steps_at (after_call (report (Take r)) (map (longer v) l)) i ≤ steps_at l i + given v
      go (yes e) = omega (arith, innermost new (map (longer v) l) i e)
      go (no n) = omega (arith, longer-le l i, further new (map (longer v) l) i n)

  given-le : (x : Section) (l : List Section) (i : ℕ) → steps_at (map (longer v) l) i ≤ steps_at (x ∷ l) i + given v
  given-le x l i = go (ℕ_discrete i (length l))
    where
      go : Dec (i ≡ length l) → steps_at (map (longer v) l) i ≤ steps_at (x ∷ l) i + given v
      go (yes e) = omega (arith, above (map (longer v) l) i (omega (arith, e, same_length l)))
      go (no n) = omega (arith, longer-le l i, further x l i n)

  pub after-le : (call : Call) (l : List Section) (i : ℕ) → steps_at (after_call call (map (longer v) l)) i ≤ steps_at l i + given v
  after-le (release k) l i = longer-le l i
  after-le choose l i = longer-le l i
  after-le (report CarryOn) l i = longer-le l i
  after-le (report Done) l i = longer-le l i
  after-le (report (Take r)) l i = taken-le r l i
  after-le (report Give) [] i = omega arith
  after-le (report Give) (x ∷ l) i = given-le x l i
