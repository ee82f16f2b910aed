-- The tasks that a table has, as a slice: what the walks over them find is what the table's rules say. Assumes nothing.
use Rattle.std.proofs.Common.{◌≡◌, ℕ, ◌≤◌, ◌<◌, List, take, length, Ok, Err, true, [], ◌∷◌, ◌++◌, ◌&&◌, leb, refl, sym, ap, ◌∙◌, arith, sum_by}
use Rattle.std.proofs.lemmas.List.{get_or-take, length-take-le}
use Rattle.units.specs.Amounts.{ticks}
use Rattle.units.specs.Folds.{listed, first}
use Rattle.units.proofs.Laws.Folds.{over-same, first-same}
use Rattle.units.proofs.Laws.Elements.{sum_sum}
use Rattle.verdict.specs.declared.Fault.TheVariants.{Independent, Synchronization}
use Rattle.verdict.specs.declared.Fault.{Fault}
use Rattle.verdict.specs.Verdict.{Verdict, passing}
use Rattle.table.specs.declared.Task.{Task}
use Rattle.table.specs.declared.Table.{Table}
use Rattle.table.specs.Table.{no_task, users, takes, ceiling, ceilings}
use Rattle.table.proofs.Laws.Alike.{Alike, ceiling-same}
use Rattle.admission.specs.Admission.{of_tasks, ticks_in_round, independent_sum, B, synchronization_sum, count_in_range, setting_in_range, fault_at, faulty, overloaded, verdict}
use Rattle.admission.proofs.Laws.Alike.{verdict-same, independent-same}
use Rattle.admission.proofs.Laws.Verdict.{says_fault, says_independent, says_overload}

-- the full speed is not read
unread : (f g r : ℕ) (l : List Task) (i : ℕ) → overloaded (of_tasks f r l) i ≡ overloaded (of_tasks g r l) i
unfolding overloaded synchronization_sum B ceiling users takes
unread f g r l i = refl

level_unread : (f g r : ℕ) (l : List Task) → ceilings (of_tasks f r l) ≡ ceilings (of_tasks g r l)
unfolding ceilings ceiling users takes
level_unread f g r l = refl

module _ (t : Table) (few : t.count ≤ length t.tasks) where
  abbrev pub own : Table
  own = of_tasks t.full t.round (take t.count t.tasks)

  pub as_many : own.count ≡ t.count
  as_many = length-take-le t.count t.tasks few

  pub own_alike : Alike own t
  own_alike = record { full = refl; round = refl; count = as_many; tasks = λ k l. get_or-take t.count t.tasks k no_task (omega (arith, l, as_many)) }

  pub own_ceilings : ceilings t ≡ ceilings (of_tasks 0 t.round (take t.count t.tasks))
  unfolding ceilings listed
  own_ceilings =
      over-same (λ k. true) (λ k. true) (λ k l. l ++ (ticks (ceiling t k) ∷ [])) (λ k l. l ++ (ticks (ceiling own k) ∷ [])) [] 8 (λ k l. refl)
      (λ k x l. ap (λ (c : ℕ). x ++ (ticks c ∷ [])) (sym (ceiling-same own_alike k)))
      ∙ level_unread t.full 0 t.round (take t.count t.tasks)

  own_sum : sum_by (λ (x : Task). ticks_in_round x.budget.0 x.independent t.round x.deadline.0) own.tasks ≡ independent_sum own
  unfolding independent_sum
  own_sum = sum_sum no_task t.tasks (λ (x : Task). ticks_in_round x.budget.0 x.independent t.round x.deadline.0) t.count few ∙ sym (independent-same own_alike)

  own_overloads : first (overloaded (of_tasks 0 t.round own.tasks)) (λ i. Err (Synchronization i)) passing own.count ≡ first (overloaded own) (λ i. Err (Synchronization i)) passing own.count
  own_overloads = first-same _ _ _ _ passing own.count (λ i l. unread 0 t.full t.round own.tasks i) (λ i l h. refl)

  module _ (c : count_in_range t ≡ true) (s : setting_in_range t ≡ true) where
    own_count : count_in_range own ≡ true
    unfolding count_in_range
    own_count = ap (λ (n : ℕ). leb 1 n && leb n 16) as_many ∙ c

    own_setting : setting_in_range own ≡ true
    unfolding setting_in_range
    own_setting = s

    pub found_fault : {e : Fault} → Err e ≡ first (faulty own) (fault_at own) passing own.count → Err e ≡ verdict t
    found_fault f = says_fault own own_count own_setting f ∙ verdict-same own_alike

    module _ {u : Unit {0}} (n : Ok u ≡ first (faulty own) (fault_at own) passing own.count) {g : ℕ}
        (i : g ≡ sum_by (λ (x : Task). ticks_in_round x.budget.0 x.independent t.round x.deadline.0) own.tasks) where
      pub found_independent : t.round < g → Err Independent ≡ verdict t
      found_independent l = says_independent own own_count own_setting n (i ∙ own_sum) l ∙ verdict-same own_alike

      pub found_overload : {r : Verdict} → g ≤ t.round → r ≡ first (overloaded (of_tasks 0 t.round own.tasks)) (λ i. Err (Synchronization i)) passing own.count → r ≡ verdict t
      found_overload l f = says_overload own own_count own_setting n (i ∙ own_sum) l (f ∙ own_overloads) ∙ verdict-same own_alike
