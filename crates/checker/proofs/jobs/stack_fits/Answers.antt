use Rattle.std.proofs.Common.{rules, arith, ◌≡◌, ◌∙◌, ℕ, ◌+◌, ◌-◌, ◌<◌, ◌≤◌, ◌||◌, Bool, true, List, ltb, length, get_or, drop, take, sym, ap, le-ltb, lt-ltb}
use borrow.Author.Tests as borrowed
use borrow.Author.Tests.{le-leb}
use native.Mathlib.Decide.{dec_lt}
use Rattle.std.specs.List.{list_all}
use Rattle.std.proofs.lemmas.Bool.Decides.{same_from_decides}
use Rattle.std.proofs.lemmas.Iterator.{YieldsList-from_slice}
use Rattle.std.proofs.lemmas.Iterator.Search.{all_from_yields_List}
use Rattle.std.proofs.lemmas.List.{get_or-drop, get_or_default, length-drop, take_all}
use Rattle.std.proofs.lemmas.List.Sums.{AllPass-from_list_all, list_all-from_AllPass}
use Rattle.units.specs.Folds.{all}
use Rattle.units.proofs.Laws.Folds.{long, all_tells, all-holds}
use Rattle.units.proofs.Laws.Tests.{and_rest}
use Rattle.state.specs.declared.Section.{Section}
use Rattle.state.specs.declared.Stack.{Stack}
use Rattle.state.specs.Stack.{no_section, section_at}
use Rattle.consistency.specs.Consistency.{is_none, stack_fits}
use Rattle.checker.proofs.jobs.stack_fits.Goals as goal

-- the places above the depth
module _ (h : Stack) (low : h.depth ≤ 4) (four : length h.sections ≡ 4) where
  abbrev rest : List Section
  rest = drop h.depth h.sections

  abbrev place : ℕ → Bool
  place i = ltb i h.depth || is_none (section_at h i)

  long_rest : length rest ≡ 4 - h.depth
  long_rest = omega (arith, length-drop h.depth h.sections, four)

  rest_at : (k : ℕ) (d : Section) → k < length rest → get_or rest k d ≡ section_at h (h.depth + k)
  rest_at k d l = get_or_default rest k d no_section l ∙ get_or-drop h.depth h.sections k no_section

  spare : list_all is_none rest ≡ all place 4
  spare = same_from_decides _ _ ((λ e. all-holds place 4 (λ k l. each e k l (dec_lt k h.depth))), back) ((λ e. e), (λ e. e))
    where
      each : list_all is_none rest ≡ true → (k : ℕ) → k < 4 → Dec (k < h.depth) → place k ≡ true
      each e k b (yes l) = ap (λ (a : Bool). a || is_none (section_at h k)) (lt-ltb _ _ l)
      each e k b (no l) =
          let at : h.depth + (k - h.depth) ≡ k = omega (arith, l) in
          ap (λ (a : Bool). a || is_none (section_at h k)) (le-ltb k h.depth (omega (arith, l)))
          ∙ ap (λ (i : ℕ). is_none (section_at h i)) (sym at) ∙ ap is_none (sym (rest_at (k - h.depth) no_section (omega (arith, long_rest, b, l))))
          ∙ AllPass-from_list_all is_none rest e (k - h.depth) no_section (omega (arith, long_rest, b, l))

      back : all place 4 ≡ true → list_all is_none rest ≡ true
      back f = list_all-from_AllPass is_none rest (λ k d l.
          ap is_none (rest_at k d l) ∙ sym (ap (λ (a : Bool). a || is_none (section_at h (h.depth + k))) (le-ltb (h.depth + k) h.depth (omega arith)))
          ∙ all_tells place 4 f (h.depth + k) (omega (arith, long_rest, l)))

  counted : {b : Bool} → b ≡ list_all is_none (take (4 - h.depth) rest) → b ≡ stack_fits h
  unfolding stack_fits
  counted e = and_rest _ _ _ (le-leb _ _ low) (e ∙ ap (list_all is_none) (take_all (4 - h.depth) rest (omega (arith, long_rest))) ∙ spare)

tested : (h : Stack) {n : ℕ} → n ≡ h.depth → n ≤ 4 → length h.sections ≡ 4 → {b : Bool} → b ≡ list_all is_none (take (4 - n) (drop n h.sections)) → b ≡ stack_fits h
tested h m low four e = counted h (omega (arith, m, low)) four (rw m at e)

pub returns-then-depth-le-PLACES : goal.returns-then-depth-le-PLACES
returns-then-depth-le-PLACES c =
    let h = c.args.held.now in
    let n = c.from-depth.result in
    tested h c.from-depth.ensures c.if-depth-le-PLACES.true (search (rules, long)) (all_from_yields_List is_none _ _ _ c.all.ensures.ran (YieldsList-from_slice (take (4 - n) (drop n h.sections)) (search rules)) (λ x b q k. search (rules, borrowed.tests)))
