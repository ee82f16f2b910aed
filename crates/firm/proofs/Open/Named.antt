-- Whom a choice names is fixed by the lines: the first job in order; or where it has not started and is blocked, the first that has. Assumes nothing.
use Rattle.std.specs.Prelude.{Some}
use Prim.Native.Nat.{ℕ, ◌≤◌, ◌<◌}
use mathlib.Core.Path.{◌≡◌, refl, sym, ap, ◌∙◌, fun_ext}
use mathlib.Core.Bool.{Bool, true, false, not, false≢true}
use mathlib.Core.List.{List, ◌∷◌}
use mathlib.Core.Logic.{◌⊎◌, inl, inr}
use mathlib.Core.Option.{Option}
use native.Mathlib.Decide.{dec_lt}
use native.Mathlib.Omega.{arith}
use borrow.Author.Tests.{eq-eqb}
use Rattle.units.proofs.Laws.Folds.{both}
use Rattle.table.specs.declared.Table.{Table}
use Rattle.table.specs.Table.{D, ceiling}
use Rattle.state.specs.{declared.State.State, Answers.Answer, declared.Section.Section, declared.Report.TheVariants.CarryOn}
use Rattle.promise.specs.History.{Machine, choose, report, answered, Line, line_of, sections, IsOpen, has_started, ends_at, latest, is_there, ticks_left, number_by, runner_by}
use Rattle.promise.specs.Promise.{FirstBlocked, Kept}
use Rattle.promise.proofs.History.List.{carries_on, there_on, standing_new}
use Rattle.firm.proofs.Silly.First.{own_is}
use Rattle.firm.proofs.Open.Blank as Blank
use Rattle.firm.proofs.Open.Blank.{blanks}

-- what the lines tell of each position
pub record View : Type 0 where
  pub there : ℕ → Bool
  pub started : ℕ → Bool
  pub held : ℕ → List Section
  pub left : ℕ → ℕ

abbrev pub view_of : Table → List Line → View
view_of t h = record { there = λ j. is_there t j h; started = λ j. has_started j (latest j h); held = λ j. sections j (latest j h); left = λ j. ticks_left t j h }

blank_view : (t : Table) (h : List Line) → view_of t (blanks h) ≡ view_of t h
blank_view t h = λ i. record {
  there = fun_ext (λ j. Blank.blank_there t j h) i;
  started = fun_ext (λ j. ap (has_started j) (Blank.blank_latest j h) ∙ Blank.blank_started j (latest j h)) i;
  held = fun_ext (λ j. Blank.blank_since j h) i;
  left = fun_ext (λ j. Blank.blank_left t j h) i;
}

pub same_view : (t : Table) (h g : List Line) → blanks h ≡ blanks g → view_of t h ≡ view_of t g
same_view t h g e = sym (blank_view t h) ∙ ap (view_of t) e ∙ blank_view t g

module _ (t : Table) (v : View) where
  abbrev pub First : ℕ → ℕ → Type 0
  First j k = (v.left j < v.left k) ⊎ ((v.left j ≡ v.left k) × (j < k))

  pub record Blocked : Type 0 where
    pub first : ℕ
    pub there : v.there first ≡ true
    pub none_ahead : (q : ℕ) → v.there q ≡ true → First q first → ⊥
    pub holder : ℕ
    pub other : holder ≡ first → ⊥
    pub holder_there : v.there holder ≡ true
    pub inside : ℕ
    pub held : Section
    pub holds : IsOpen (v.held holder) inside held
    pub bars : ceiling t held.resource ≤ D t first

  -- what holds of a job that is named
  pub record Named (k : ℕ) : Type 0 where
    pub there : v.there k ≡ true
    pub in_order : (j : ℕ) → v.there j ≡ true → First j k → (v.started j ≡ false) × (v.started k ≡ true) × Blocked
    pub starts_free : v.started k ≡ false → (j p : ℕ) (x : Section) → (j ≡ k → ⊥) → v.there j ≡ true → IsOpen (v.held j) p x → D t k < ceiling t x.resource

  either : (j k : ℕ) → (j ≡ k) ⊎ (First j k ⊎ First k j)
  either j k = go (dec_lt (v.left j) (v.left k)) (dec_lt (v.left k) (v.left j)) (dec_lt j k) (dec_lt k j)
    where
      go : Dec (v.left j < v.left k) → Dec (v.left k < v.left j) → Dec (j < k) → Dec (k < j) → (j ≡ k) ⊎ (First j k ⊎ First k j)
      go (yes l) b c d = inr (inl (inl l))
      go (no l) (yes b) c d = inr (inr (inl b))
      go (no l) (no b) (yes c) d = inr (inl (inr (omega (arith, l, b), c)))
      go (no l) (no b) (no c) (yes d) = inr (inr (inr (omega (arith, l, b), d)))
      go (no l) (no b) (no c) (no d) = inl (omega (arith, c, d))

  -- of two that may be named neither is ahead
  not-ahead : (k l : ℕ) → Named k → Named l → First k l → ⊥
  not-ahead k l nk nl ahead = go (either f k)
    where
      w : (v.started k ≡ false) × (v.started l ≡ true) × Blocked
      w = nl.in_order k nk.there ahead

      b : Blocked
      b = w.2

      f : ℕ
      f = b.first

      go : (f ≡ k) ⊎ (First f k ⊎ First k f) → ⊥
      go (inl z) = omega (arith, nk.starts_free w.0 b.holder b.inside b.held (λ y. b.other (y ∙ sym z)) b.holder_there b.holds, b.bars, ap (D t) z)
      go (inr (inl z)) = false≢true (sym w.0 ∙ (nk.in_order f b.there z).1)
      go (inr (inr z)) = b.none_ahead k nk.there z

  pub one_runner : (k l : ℕ) → Named k → Named l → k ≡ l
  one_runner k l nk nl = go (either k l)
    where
      go : (k ≡ l) ⊎ (First k l ⊎ First l k) → k ≡ l
      go (inl z) = z
      go (inr (inl z)) = absurd (not-ahead k l nk nl z)
      go (inr (inr z)) = absurd (not-ahead l k nl nk z)

-- a machine that keeps the promise names such a job
module _ (m : Machine) (t : Table) (now : ℕ) (s : State) (h : List Line) (kept : Kept m t now s h) (next : Kept m t now (answered m t s choose).state (line_of m t s choose ∷ h))
    (zero : (answered m t s choose).number ≡ 0) (k : ℕ) (names : (answered m t s choose).runner ≡ Some k) where
  abbrev c : Line
  c = line_of m t s choose

  is-there : is_there t k h ≡ true
  is-there =
      let stands = standing_new c h (eq-eqb _ _ zero) in
      let carries : (answered m t c.answer.state (report CarryOn)).number ≡ 0 =
      next.by_the_list (report CarryOn) ∙ ap (λ (o : Option Answer). number_by t (c ∷ h) o (report CarryOn)) stands ∙ carries_on t (c ∷ h) c.answer.runner in
      let w = next.as_chosen CarryOn carries in
      let own = own_is k CarryOn (answered m t c.answer.state (report CarryOn)) carries (w.2 ∙ ap runner_by (sym w.1 ∙ stands) ∙ names) in
      (both (is_there t k h) (not (ends_at t k c (latest k h))) (sym (there_on c h k t refl) ∙ (next.within_limits CarryOn k own).there)).0

  blocked_as : FirstBlocked t h → Blocked t (view_of t h)
  blocked_as b = record { first = b.first; there = b.there; none_ahead = b.none_ahead; holder = b.holder; other = b.other; holder_there = b.holder_there; inside = b.inside; held = b.held; holds = b.holds; bars = b.bars }

  pub is_named : Named t (view_of t h) k
  is_named = record {
    there = is-there;
    in_order = λ j there ahead. let w = kept.in_order k j zero names there ahead in (w.0, w.1, blocked_as w.3);
    starts_free = λ fresh j p x other there holds. kept.starts_free k j p x zero names fresh other there holds;
  }
