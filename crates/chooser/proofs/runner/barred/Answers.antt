use Rattle.std.proofs.Common.{rules, arith, ◌≡◌, ◌∙◌, ℕ, zero, suc, ◌≤◌, ◌&&◌, Bool, List, leb, length, get_or, take, refl, sym, ap, add-one}
use borrow.Author.Tests.{tests}
use Rattle.std.specs.List.{list_any, enumerate_from}
use Rattle.std.proofs.lemmas.Iterator.{YieldsList-from_slice}
use Rattle.std.proofs.lemmas.Iterator.Consumers.{YieldsList-from_enumerate}
use Rattle.std.proofs.lemmas.Iterator.Search.{any_from_yields_List}
use Rattle.std.proofs.lemmas.List.{take_all}
use Rattle.std.proofs.lemmas.List.Folds.{list_any_more}
use Rattle.std.proofs.lemmas.List.FromFn.{length-enumerate_from, get_or-enumerate_from}
use Rattle.units.specs.declared.Ticks.{Ticks}
use Rattle.units.specs.Amounts.{ticks}
use Rattle.units.specs.Folds.{over, some}
use Rattle.units.specs.Sets.{has}
use Rattle.units.proofs.Laws.Folds.{long, over-same}
use Rattle.state.proofs.Laws.Holders.{or-cond}
use Rattle.seen.specs.Seen.{barred}
use Rattle.chooser.proofs.runner.barred.Goals as goal

abbrev bars : ℕ → ℕ → ℕ × Ticks → Bool
bars held d x = has held x.0 && leb x.1.0 d

module _ (held d : ℕ) (l : List Ticks) (e : length l ≡ 8) where
  abbrev each : List (ℕ × Ticks)
  each = enumerate_from 0 l

  first : (n : ℕ) → n ≤ 8 → list_any (bars held d) (take n each) ≡ some (λ i. bars held d (get_or each i (0, ticks 0))) n
  unfolding some over
  first zero b = refl
  first (suc n) b =
      let more = list_any_more (bars held d) each n (0, ticks 0) (omega (arith, length-enumerate_from 0 l, e, b)) in
      ap (λ (k : ℕ). list_any (bars held d) (take k each)) (sym (add-one n)) ∙ more ∙ or-cond (list_any (bars held d) (take n each)) (bars held d (get_or each n (0, ticks 0))) ∙ rw (first n (omega (arith, b)))

  all_of_them : list_any (bars held d) each ≡ barred held l d
  unfolding barred some
  all_of_them =
      sym (ap (list_any (bars held d)) (take_all 8 each (omega (arith, length-enumerate_from 0 l, e)))) ∙ first 8 (omega arith)
      ∙ over-same _ (λ r. bars held d (r, get_or l r (ticks 0))) _ _ _ 8 (λ i b. ap (bars held d) (get_or-enumerate_from 0 l i (0, ticks 0) (omega (arith, e, b)) ∙ ap (λ (r : ℕ). (r, get_or l i (ticks 0))) (omega arith))) (λ i x b. refl)

pub returns : goal.returns
returns c =
    any_from_yields_List (bars c.args.held c.args.deadline.0) _ _ _ c.any.ensures.ran (YieldsList-from_enumerate (YieldsList-from_slice c.args.ceilings (search rules)) (search rules)) (λ x b q k. search (rules, tests))
    ∙ all_of_them c.args.held c.args.deadline.0 c.args.ceilings (search (rules, long))
