-- What a test that a function made says of its rule. Assumes nothing.
use Rattle.std.proofs.Common.{◌≡◌, ℕ, ◌≤◌, arith, ltb, leb, Bool, true, false, cond, not, ◌&&◌, ◌||◌, sym, refl, ap, ◌∙◌, ltb-true, le-ltb, lt-ltb, eq-eqb, ne_eqb, eqb-true, le-leb, leb-true}
use mathlib.Core.Path.{ap₂}
use Rattle.std.specs.Prelude.{Some}
use Rattle.std.specs.declared.ops.RangeInclusive.{RangeInclusive}
use Rattle.std.specs.Range.{range_inclusive_contains, range_inclusive_start, range_inclusive_end, range_inclusive_exhausted}
use Rattle.std.specs.Ordering.{is_lt, is_le, nat_cmp}
use Rattle.std.proofs.lemmas.Bool.Decides.{nat_tests}
use mathlib.Core.Path.{◌∙⁻¹◌}
use mathlib.Core.Bool.{false≢true}
use borrow.Author.Tests.{not-true, not-false, lt-leb}

-- ---- r is what a function gave for b

module _ {r b : Bool} (e : r ≡ b) where
  pub passed : not r ≡ false → b ≡ true
  passed h = sym e ∙ not-false r h

  pub failed : not r ≡ true → b ≡ false
  failed h = sym e ∙ not-true r h

  pub told-true : r ≡ true → b ≡ true
  told-true h = sym e ∙ h

  pub told-false : r ≡ false → b ≡ false
  told-false h = sym e ∙ h

  pub told-not : not r ≡ not b
  told-not = ap not e

  pub not-told : {v : Bool} → not r ≡ v → not b ≡ v
  not-told h = sym (ap not e) ∙ h

module _ {b : Bool} where
  pub not_yes : b ≡ true → not b ≡ false
  not_yes e = ap not e

  pub not_no : b ≡ false → not b ≡ true
  not_no e = ap not e

-- what the derived order of amounts tells
pub order_lt : (a b : ℕ) → is_lt (nat_cmp a b) ≡ ltb a b
order_lt a b = grind (arith, nat_tests)

pub order_le : (a b : ℕ) → is_le (nat_cmp a b) ≡ leb a b
order_le a b = grind (arith, nat_tests)

module _ (a b : ℕ) {r v : Bool} where
  pub told_lt : r ≡ is_lt (nat_cmp a b) → r ≡ v → ltb a b ≡ v
  told_lt e h = sym (order_lt a b) ∙ sym e ∙ h

  pub told_le : r ≡ is_le (nat_cmp a b) → r ≡ v → leb a b ≡ v
  told_le e h = sym (order_le a b) ∙ sym e ∙ h

-- the arm that a test chooses
module _ {A : Type 0} (x y : A) {b : Bool} where
  pub cond_yes : b ≡ true → cond b x y ≡ x
  cond_yes e = ap (λ (b : Bool). cond b x y) e

  pub cond_no : b ≡ false → cond b x y ≡ y
  cond_no e = ap (λ (b : Bool). cond b x y) e

-- ---- r is what a rule gives: the first test decides, or it passes on to the rest

module _ (r a b : Bool) where
  pub and_first : a ≡ false → r ≡ false → r ≡ (a && b)
  and_first e h = h ∙ sym (ap (λ (a : Bool). a && b) e)

  pub and_rest : a ≡ true → r ≡ b → r ≡ (a && b)
  and_rest e h = h ∙ sym (ap (λ (a : Bool). a && b) e)

  pub or-first : a ≡ true → r ≡ true → r ≡ (a || b)
  or-first e h = h ∙ sym (ap (λ (a : Bool). a || b) e)

  pub or_rest : a ≡ false → r ≡ b → r ≡ (a || b)
  or_rest e h = h ∙ sym (ap (λ (a : Bool). a || b) e)

module _ {A : Type 0} (r x y : A) (b : Bool) where
  pub cond-first : b ≡ true → r ≡ x → r ≡ cond b x y
  cond-first e h = h ∙ sym (cond_yes x y e)

  pub cond_rest : b ≡ false → r ≡ y → r ≡ cond b x y
  cond_rest e h = h ∙ sym (cond_no x y e)

-- ---- a conjunction, and its parts

pub and-true : (a b : Bool) → a ≡ true → b ≡ true → (a && b) ≡ true
and-true a b e f = ap (λ (a : Bool). a && b) e ∙ f

pub and_left : (a b : Bool) → (a && b) ≡ true → a ≡ true
and_left true b h = refl
and_left false b h = h

pub and_right : (a b : Bool) → (a && b) ≡ true → b ≡ true
and_right true b h = h
and_right false b h = absurd (false≢true h)

-- the first of two pairs decides, or it passes on to the second
pub and_pass : (r a b c : Bool) → a ≡ true → r ≡ (b && c) → r ≡ (a && b && c)
and_pass r a b c h e = rw h e

pub and_stop : (r a b c : Bool) → a ≡ false → r ≡ false → r ≡ (a && b && c)
and_stop r a b c h e = rw h e

-- `(a..=b).contains(&x)`
module _ {A : Type 0} (f : A → ℕ) (a b x : A) {s : RangeInclusive A} {r : Bool} where
  module _ (e : r ≡ range_inclusive_contains (λ x y. Some (nat_cmp (f x) (f y))) s x) (i : range_inclusive_start s ≡ a) (j : range_inclusive_end s ≡ b) (k : range_inclusive_exhausted s ≡ false) where
    pub told_within : r ≡ (leb (f a) (f x) && leb (f x) (f b))
    told_within = rw (i, j, k) at e ∙ ap₂ (λ (p q : Bool). p && q) (order_le (f a) (f x)) (order_le (f x) (f b))

-- `search tests` at a return follows the rule, and finds what the tests on the way said wherever it stands in the record of the place.
-- It also makes a rule of the plain facts of a record; `search parts` makes the record of the rule.
pub ruleset tests = (
  and_first,
  and_rest,
  and-true,
  or-first,
  or_rest,
  cond-first,
  cond_rest,
  passed,
  failed,
  told-true,
  told-false,
  told-not,
  not-told,
  not_yes,
  not_no,
  lt-ltb,
  le-ltb,
  le-leb,
  lt-leb,
  eq-eqb,
  ne_eqb,
)

pub ruleset parts = (and_left, and_right, ltb-true, leb-true, eqb-true, not-true)

-- a test by a call: r is what it answered
pub tested : {r b d : Bool} → r ≡ b → r ≡ d → b ≡ d
tested e f = sym e ∙ f

-- `search (told, LAW)` proves that an answer is the one that LAW gives, by what the calls answered and what the tests said.
pub ruleset told = (◌∙⁻¹◌, tested, passed, failed)
