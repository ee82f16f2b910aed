use Rattle.std.proofs.Common.{rules, arith, ◌≡◌, ◌∙◌, ℕ, zero, suc, ◌+◌, ◌≤◌, ◌<◌, ◌&&◌, ◌∷◌, [], Bool, true, false, cond, List, min, max, leb, ltb, length, get_or, take, filter, refl, sym, ap, add-one}
use borrow.Author.Tests.{lt-ltb, le-ltb}
use Rattle.std.specs.List.{fold, enumerate_from, zip}
use Rattle.std.proofs.lemmas.List.{get_or-take, length-take, take_all, take_more}
use Rattle.std.proofs.lemmas.List.Elements.{filter-append}
use Rattle.std.proofs.lemmas.List.FromFn.{length-enumerate_from, get_or-enumerate_from}
use Rattle.std.proofs.lemmas.List.Sums.{fold-append}
use Rattle.std.proofs.lemmas.Slice.Zip.{get_or-zip, length-zip}
use Rattle.std.specs.Ordering.{nat_cmp, ord_min}
use Rattle.std.proofs.lemmas.Bool.Decides.{nat_tests}
use Rattle.units.specs.declared.Ticks.{Ticks}
use Rattle.units.specs.Folds.{over, smallest, largest}
use Rattle.units.proofs.Laws.Folds.{over_past, over-same, largest-same, long}
use Rattle.units.proofs.Laws.Loops.{told_max}
use Rattle.table.specs.declared.Table.{Table}
use Rattle.table.specs.declared.Task.{Task}
use Rattle.table.specs.Table.{D, S, no_task, task_at}
use Rattle.state.specs.declared.Job.{Job}
use Rattle.state.specs.declared.State.{State}
use Rattle.state.specs.State.{no_job, job_at}
use Rattle.state.specs.Order.{place}
use Rattle.choice.specs.Choice.{fastest}
use Rattle.seen.specs.Seen.{ahead_by, inherited_by}
use Rattle.chooser.proofs.speed.inherited.Goals as goal

-- `min` of the derived order
told_min : {A : Type 0} (f : A → ℕ) (a b : A) {r : A} → r ≡ ord_min (λ x y. nat_cmp (f x) (f y)) a b → f r ≡ min (f a) (f b)
told_min f a b e = rw e (grind (arith, nat_tests))

-- what a chain gathers of the first n elements is gathered over their positions
module _ {A B : Type 0} (p : A → Bool) (g : B → A → B) (z : B) (d : A) (xs : List A) where
  last : (b : Bool) (a : B) (x : A) → fold g a (cond b (x ∷ []) []) ≡ cond b (g a x) a
  last true a x = refl
  last false a x = refl

  gathered : (n : ℕ) → n ≤ length xs → fold g z (filter p (take n xs)) ≡ over (λ k. p (get_or xs k d)) (λ k a. g a (get_or xs k d)) z n
  unfolding over
  gathered zero b = refl
  gathered (suc n) b =
      let x = get_or xs n d in
      ap (λ (k : ℕ). fold g z (filter p (take k xs))) (sym (add-one n)) ∙ ap (λ (l : List A). fold g z (filter p l)) (take_more xs n d (omega arith))
      ∙ ap (fold g z) (filter-append p (take n xs) (x ∷ [])) ∙ fold-append g z (filter p (take n xs)) (filter p (x ∷ [])) ∙ last (p x) (fold g z (filter p (take n xs))) x
      ∙ rw (gathered n (omega arith))

module _ (t : Table) (s : State) (n : ℕ) (e : n ≡ min t.count 16) (f : length t.tasks ≡ 16) (g : length s.jobs ≡ 16) where
  abbrev each : List (ℕ × (Job × Task))
  each = enumerate_from 0 (zip (take n s.jobs) (take n t.tasks))

  each_long : length each ≡ n
  each_long = omega (arith, length-enumerate_from 0 (zip (take n s.jobs) (take n t.tasks)), length-zip (take n s.jobs) (take n t.tasks), length-take n s.jobs, length-take n t.tasks, e, f, g)

  each_at : (k : ℕ) → k < n → get_or each k (0, (no_job, no_task)) ≡ (k, (job_at s k, task_at t k))
  each_at k l =
      let long : k < length (zip (take n s.jobs) (take n t.tasks)) = omega (arith, length-zip (take n s.jobs) (take n t.tasks), length-take n s.jobs, length-take n t.tasks, e, f, g, l) in
      let both = get_or-zip (take n s.jobs) (take n t.tasks) k (no_job, no_task) (omega (arith, length-take n s.jobs, e, g, l)) (omega (arith, length-take n t.tasks, e, f, l)) in
      let at : 0 + k ≡ k = omega arith in
      get_or-enumerate_from 0 (zip (take n s.jobs) (take n t.tasks)) k (0, (no_job, no_task)) long ∙ rw (at, both, get_or-take n s.jobs k no_job l, get_or-take n t.tasks k no_task l) refl

  ahead_is : (run : ℕ) {a : ℕ} → a ≡ fold (λ m x. min m x.1.1.deadline.0) 65535 (filter (λ x. x.1.0.pending && ltb (place s.tick.0 x.1.0.deadline.0 x.0) run) each) → a ≡ ahead_by t s run n
  unfolding ahead_by smallest
  ahead_is run h =
      let is_ahead = λ (x : ℕ × (Job × Task)). x.1.0.pending && ltb (place s.tick.0 x.1.0.deadline.0 x.0) run in
      let shorter = λ (m : ℕ) (x : ℕ × (Job × Task)). min m x.1.1.deadline.0 in
      h ∙ ap (λ (l : List (ℕ × (Job × Task))). fold shorter 65535 (filter is_ahead l)) (sym (take_all n each (omega (arith, each_long))))
      ∙ gathered is_ahead shorter 65535 (0, (no_job, no_task)) each n (omega (arith, each_long))
      ∙ over-same _ _ _ _ 65535 n (λ k l. ap is_ahead (each_at k l)) (λ k m l. ap (shorter m) (each_at k l))

  abbrev between : ℕ → ℕ → ℕ → Bool
  between low high k = leb low (D t k) && leb (D t k) high

  fastest_is : (low high : ℕ) {v : ℕ} → v ≡ fold (λ m x. max m x.synchronization) 0 (filter (λ x. leb low x.deadline.0 && leb x.deadline.0 high) (take n t.tasks)) → v ≡ fastest t low high
  unfolding fastest largest
  fastest_is low high h =
      h ∙ gathered (λ x. leb low x.deadline.0 && leb x.deadline.0 high) (λ m x. max m x.synchronization) 0 no_task t.tasks n (omega (arith, e, f))
      ∙ largest-same (between low high) in_table (S t) (S t) n (λ k l. rw (lt-ltb k t.count (omega (arith, e)))) (λ k l. refl)
      ∙ over_past in_table (λ k m. max m (S t k)) 0 n 16 (omega (arith, e)) (λ k c d. rw (le-ltb k t.count (omega (arith, e))))
    where
      in_table : ℕ → Bool
      in_table k = ltb k t.count && between low high k

  ends : (run own : ℕ) {low high a : ℕ} → low ≡ min own a → high ≡ max own a → a ≡ ahead_by t s run n → fastest t low high ≡ inherited_by t s run own
  unfolding inherited_by
  ends run own l h i = rw (l, h, i, e)

pub returns : goal.returns
returns c =
    let a = c.args in
    let e = c.min-n.ensures in
    let f : length a.table.tasks ≡ 16 = search (rules, long) in
    let g : length a.state.jobs ≡ 16 = search (rules, long) in
    let low = told_min (λ (t : Ticks). t.0) _ _ c.min.ensures in
    let high = told_max (λ (t : Ticks). t.0) _ _ c.max.ensures in
    fastest_is a.table a.state _ e f g _ _ c.fastest.ensures ∙ ends a.table a.state _ e f g a.run _ low high (ahead_is a.table a.state _ e f g a.run c.shortest_ahead.ensures)
