-- What the tests of range say, as plain facts, both ways. Assumes nothing.
use Prim.Native.Nat.{ℕ, ◌+◌, ◌≤◌, ◌<◌}
use mathlib.Core.Path.{◌≡◌, refl, sym, ap, ◌∙◌}
use mathlib.Core.Bool.{Bool, true, false, not, false≢true}
use lib.Dec.{leb}
use borrow.Author.Tests.{eq-eqb, ne_eqb}
use Rattle.units.specs.Folds.{all, first, lowest}
use Rattle.units.proofs.Laws.Folds.{lowest-next, first_found}
use Rattle.units.proofs.Laws.Tests.{passed, tests, parts}
use Rattle.std.specs.Prelude.{Ok, Err}
use Rattle.verdict.specs.declared.Fault.{Fault}
use Rattle.verdict.specs.Verdict.{Verdict, passing, answer}
use Rattle.verdict.proofs.Laws.{fault_counts}
use Rattle.table.specs.declared.Task.{Task}
use Rattle.table.specs.declared.Table.{Table}
use Rattle.table.specs.Table.{task_at, limit}
use Rattle.admission.specs.Admission.{count_in_range, setting_in_range, in_range, fault, previous, fault_at, faulty}

-- a test that cannot hold is false
pub no_test : (b : Bool) → (b ≡ true → ⊥) → false ≡ b
no_test true h = absurd (h refl)
no_test false h = refl

pub record CountFits (t : Table) : Type 0 where
  pub low : 1 ≤ t.count
  pub high : t.count ≤ 16

pub record SettingFits (t : Table) : Type 0 where
  pub full_low : 1 ≤ t.full
  pub full_high : t.full ≤ 64
  pub round_low : 1 ≤ t.round
  pub round_high : t.round ≤ 1000000

module _ (t : Table) where
  pub count_tells : count_in_range t ≡ true → CountFits t
  unfolding count_in_range
  count_tells h = search parts

  pub setting_tells : setting_in_range t ≡ true → SettingFits t
  unfolding setting_in_range
  setting_tells h = search parts

  pub count-holds : CountFits t → count_in_range t ≡ true
  unfolding count_in_range
  count-holds h = search tests

  pub setting-holds : SettingFits t → setting_in_range t ≡ true
  unfolding setting_in_range
  setting-holds h = search tests

-- the tasks that there are have a place each
pub count_high : (t : Table) {r : Bool} → r ≡ count_in_range t → r ≡ true → t.count ≤ 16
count_high t e h = (count_tells t (sym e ∙ h)).high

pub record NumbersFit (f : ℕ) (k : Task) : Type 0 where
  pub d_low : 1 ≤ k.deadline.0
  pub d_high : k.deadline.0 ≤ k.period.0
  pub t_high : k.period.0 ≤ 65535
  pub c_low : 1 ≤ k.budget.0
  pub c_high : k.budget.0 ≤ 65535
  pub i_low : 1 ≤ k.independent
  pub i_high : k.independent ≤ k.synchronization
  pub s_high : k.synchronization ≤ f

pub range_tells : (f : ℕ) (k : Task) → in_range f k ≡ true → NumbersFit f k × (all (λ r. leb (limit k r) k.budget.0) 8 ≡ true)
unfolding in_range
range_tells f k h = search parts depth 10

pub range_holds : (f : ℕ) (k : Task) → NumbersFit f k → in_range f k ≡ all (λ r. leb (limit k r) k.budget.0) 8
unfolding in_range
range_holds f k h = sym (search tests)

-- past the test of range, the round can be divided by D
pub divides_by : (full : ℕ) (task : Task) {r : Bool} → r ≡ in_range full task → not r ≡ false → 0 < task.deadline.0
divides_by full task e h = (range_tells full task (passed e h)).0.d_low

-- a position at fault, and one that is not
module _ (t : Table) (k : ℕ) {v : Verdict} (e : v ≡ fault_at t k) where
  at-fault : ((answer v).0 ≡ 0 → ⊥) → faulty t k ≡ true
  unfolding faulty
  at-fault h = ap not (ne_eqb _ _ (λ z. h (ap (λ (v : Verdict). (answer v).0) e ∙ z)))

  pub no_fault : (answer v).0 ≡ 0 → faulty t k ≡ false
  unfolding faulty
  no_fault h = ap not (eq-eqb _ _ (sym (ap (λ (v : Verdict). (answer v).0) e) ∙ h))

pub sound : (t : Table) (k : ℕ) → (answer (fault_at t k)).0 ≡ 0 → faulty t k ≡ true → ⊥
sound t k e h = false≢true (sym (no_fault t k refl e) ∙ h)

-- ---- the walk: what is found at k, where no position before it is at fault

module _ (t : Table) (k : ℕ) {d : ℕ} (before : d ≡ previous t k) where
  fault_here : fault t.full t.round d (task_at t k) k ≡ fault_at t k
  unfolding fault_at
  fault_here = ap (λ (d : ℕ). fault t.full t.round d (task_at t k) k) before

  module _ (none : lowest (faulty t) k ≡ k) where
    pub walk_stops : {e : Fault} → Err e ≡ fault t.full t.round d (task_at t k) k → k < t.count → Err e ≡ first (faulty t) (fault_at t) passing t.count
    walk_stops {e} f l = let here = f ∙ fault_here in here ∙ sym (first_found _ _ _ _ k none l (at-fault t k here (fault_counts e)))

    pub walk_on : {u : Unit {0}} → Ok u ≡ fault t.full t.round d (task_at t k) k → lowest (faulty t) (k + 1) ≡ k + 1
    walk_on f = lowest-next _ k none (no_fault t k (f ∙ fault_here) refl)
