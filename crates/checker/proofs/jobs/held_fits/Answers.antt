use Rattle.std.proofs.Common.{rules, tests, arith, ◌≡◌, ◌∙◌, ℕ, ◌+◌, ◌<◌, ◌&&◌, ◌||◌, Bool, true, not, List, ltb, leb, eqb, length, get_or, take, refl, sym, ap}
use native.Mathlib.Decide.{dec_lt}
use borrow.Author.Tests.{le-leb, lt-leb}
use Rattle.std.specs.List.{list_any, list_all, enumerate_from}
use Rattle.std.proofs.lemmas.Bool.Decides.{same_from_decides}
use Rattle.std.proofs.lemmas.Iterator.{YieldsList-from_slice}
use Rattle.std.proofs.lemmas.Iterator.Consumers.{YieldsList-from_enumerate}
use Rattle.std.proofs.lemmas.Iterator.Search.{all_from_yields_List}
use Rattle.std.proofs.lemmas.List.FromFn.{length-enumerate_from, get_or-enumerate_from}
use Rattle.std.proofs.lemmas.List.Sums.{AllPass-from_list_all, list_all-from_AllPass}
use Rattle.units.proofs.Laws.Folds.{all_tells, all-holds}
use Rattle.table.specs.declared.Task.{Task}
use Rattle.table.specs.Table.{limit}
use Rattle.state.specs.declared.Section.{Section}
use Rattle.state.specs.declared.Stack.{Stack}
use Rattle.state.specs.Stack.{no_section, in_use}
use Rattle.state.proofs.Laws.Stacks.{lent_length, lent_at, lent_below}
use Rattle.consistency.specs.Consistency.{section_fits, held_fits}
use Rattle.checker.proofs.jobs.held_fits.Goals as goal

-- of a section with its place, by those that were lent
abbrev is_fit : Task → List Section → ℕ × Section → Bool
is_fit task l x = ltb 0 (limit task x.1.resource) && (ltb x.1.steps.0 (limit task x.1.resource) && not (list_any (λ y. eqb y.resource x.1.resource) (take x.0 l)))

module _ (task : Task) (h : Stack) {l : List Section} (lent : l ≡ in_use h) where
  abbrev place : ℕ → Bool
  place k = leb h.depth k || section_fits task h k

  fit_at : (k : ℕ) (d : ℕ × Section) → k < length l → is_fit task l (get_or (enumerate_from 0 l) k d) ≡ section_fits task h k
  fit_at k d m =
      let at : 0 + k ≡ k = omega arith in
      ap (is_fit task l) (get_or-enumerate_from 0 l k d m ∙ ap (λ (i : ℕ). (i, get_or l k d.1)) at)
      ∙ rw (lent_below h lent (λ y. eqb y.resource (get_or l k d.1).resource) k m, lent_at h lent k d.1 m) refl

  each_fits : {b : Bool} → b ≡ list_all (is_fit task l) (enumerate_from 0 l) → b ≡ held_fits task h
  unfolding held_fits
  each_fits e = e ∙ same_from_decides _ (held_fits task h) ((λ t. all-holds place 4 (λ k b. here t k b (dec_lt k h.depth))), (λ t. list_all-from_AllPass (is_fit task l) (enumerate_from 0 l) (λ k d m. back t k d m))) ((λ t. t), (λ t. t))
    where
      here : list_all (is_fit task l) (enumerate_from 0 l) ≡ true → (k : ℕ) → k < 4 → Dec (k < h.depth) → place k ≡ true
      here t k b (yes m) =
          let on : k < length l = omega (arith, b, m, lent_length h lent) in
          ap (λ (a : Bool). a || section_fits task h k) (lt-leb _ _ m) ∙ sym (fit_at k (0, no_section) on)
          ∙ AllPass-from_list_all (is_fit task l) (enumerate_from 0 l) t k (0, no_section) (omega (arith, on, length-enumerate_from 0 l))
      here t k b (no m) = ap (λ (a : Bool). a || section_fits task h k) (le-leb h.depth k (omega arith))

      back : held_fits task h ≡ true → (k : ℕ) (d : ℕ × Section) → k < length (enumerate_from 0 l) → is_fit task l (get_or (enumerate_from 0 l) k d) ≡ true
      back t k d b =
          let m : k < length l = omega (arith, b, length-enumerate_from 0 l) in
          fit_at k d m ∙ ap (λ (a : Bool). a || section_fits task h k) (sym (lt-leb _ _ (omega (arith, m, lent_length h lent))))
          ∙ all_tells place 4 t k (omega (arith, m, lent_length h lent))

pub returns : goal.returns
returns c =
    each_fits c.args.task c.args.held.now c.in_use-sections.ensures
    (all_from_yields_List (is_fit c.args.task c.in_use-sections.result.now) _ _ _ c.all.ensures.ran (YieldsList-from_enumerate (YieldsList-from_slice c.in_use-sections.result.now (search rules)) (search rules)) (λ x b q k. search (rules, tests)))
