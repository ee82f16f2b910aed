-- The edge: a table and a state of the machine, as the proof sees them. Past it distances are plain numbers. Assumes nothing.
use Rattle.std.specs.Prelude.{Some, None}
use Prim.Native.Nat.{ℕ, ◌-◌, ◌^◌, ◌≤◌, ◌<◌}
use mathlib.Core.Path.{◌≡◌, refl, sym, ap, ◌∙◌}
use mathlib.Core.Bool.{Bool, true, false, ◌&&◌, and-false, false≢true}
use mathlib.Core.Logic.{◌⊎◌, inl, inr}
use native.Mathlib.Decide.{dec_le, dec_lt}
use native.Mathlib.Omega.{arith}
use lib.ListN.{length}
use lib.Dec.{ltb}
use borrow.Author.Tests.{lt-ltb, le-ltb, ltb-true}
use Rattle.units.specs.Folds.{lowest, first}
use Rattle.units.proofs.Laws.Folds.{both, lowest-le, lowest-at, lowest-is, first_found, first_none}
use Rattle.units.proofs.Laws.Tests.{and-true}
use Rattle.units.specs.Amounts.{given}
use Rattle.units.specs.Clock.{distance}
use Rattle.units.proofs.Laws.Amounts.{given-some, given-more}
use Rattle.table.specs.declared.Task.{Task}
use Rattle.table.specs.declared.Table.{Table}
use Rattle.table.specs.Table.{task_at, D, C, I, S, limit, ceilings}
use Rattle.admission.specs.Admission.{B}
use Rattle.admission.proofs.Laws.Admitted.{Admitted}
use Rattle.admission.proofs.Laws.Room.{independent_room, synchronization_room}
use Rattle.state.specs.declared.Job.{Job}
use Rattle.state.specs.declared.Section.{Section}
use Rattle.state.specs.declared.Stack.{Stack}
use Rattle.state.specs.declared.Place.{Place}
use Rattle.state.specs.declared.State.{State}
use Rattle.state.specs.Stack.{section_at}
use Rattle.state.specs.State.{job_at, Mark}
use Rattle.state.specs.Order.{place_at, holds_any}
use Rattle.state.proofs.Laws.Order.{nearer-first, place-position}
use Rattle.state.proofs.Laws.Stacks.{On, on_tells, on_none}
use Rattle.choice.specs.Choice.{section_bars, bars}
use Rattle.choice.proofs.Laws.Bars.{bars-held, bars_lower, bars_tells}
use Rattle.consistency.proofs.Laws.Facts.{MarkFits}
use Rattle.consistency.proofs.Laws.Held.{Once}
use Rattle.consistency.proofs.Laws.Jobs.{NotPendingFits, UnstartedFits, StackFits, HeldFits, Unused, takes_one_of_8}
use Rattle.promise.proofs.Core.Tasks.{Tasks, Fits}
use Rattle.promise.proofs.Core.View.{View, Lawful}

-- ---- the table

abbrev pub tasks : Table → Tasks
tasks t = record { count = t.count; D = D t; T = λ k. (task_at t k).period.0; C = C t; I = λ k. given (I t k); S = λ k. given (S t k); B = B t }

pub fits : (t : Table) → Admitted t → Fits (tasks t)
fits t a = record {
  D-some = λ k l. (a.ranges k l).d_low;
  D_T = λ k l. (a.ranges k l).d_high;
  D_rises = a.order;
  C-some = λ k l. (a.ranges k l).c_low;
  I-some = λ k l. given-some (I t k) (a.ranges k l).i_low;
  I-S = λ k l. given-more (I t k) (S t k) (a.ranges k l).i_high;
  independent = independent_room t a;
  synchronization = synchronization_room t a;
}

-- ---- the state

-- the steps left to the limit of a section
abbrev pub rest : Task → Section → ℕ
rest task x = limit task x.resource - x.steps.0

-- those as seen from a level: of the outermost section whose ceiling is at most that level; none where there is no such. What is taken inside it is given back before it.
unfoldable pub left : Table → Task → ℕ → Stack → ℕ
left t task x h = first (λ i. ltb i h.depth && section_bars (ceilings t) x (section_at h i)) (λ i. rest task (section_at h i)) 0 4

abbrev pub marked : Mark → Bool
marked None = false
marked (Some m) = true

abbrev pub mark_distance : ℕ → Mark → ℕ
mark_distance now None = 0
mark_distance now (Some m) = distance now m.deadline.0

abbrev pub view : Table → State → View
view t s = record {
  pending = λ k. (job_at s k).pending;
  started = λ k. (job_at s k).started;
  holds = λ k. holds_any (job_at s k).held;
  distance = λ k. distance s.tick.0 (job_at s k).deadline.0;
  used = λ k. (job_at s k).used.0;
  wait = λ k. (job_at s k).wait.0;
  left = λ k x. left t (task_at t k) x (job_at s k).held;
  mark = marked s.mark;
  mark_distance = mark_distance s.tick.0 s.mark;
  before = λ j k. place_at s j < place_at s k;
}

-- ---- what consistency asks of a state, the counts of ticks left out

pub record JobStands (task : Task) (j : Job) : Type 0 where
  pub wait : j.wait.0 ≤ task.period.0
  pub unstarted : j.started ≡ false → UnstartedFits j
  pub stack : StackFits j.held
  pub held : HeldFits task j.held
  pub absent : j.pending ≡ false → NotPendingFits j

pub record Stands (t : Table) (s : State) : Type 0 where
  pub long : length s.jobs ≡ 16
  pub now : s.tick.0 < 2 ^ 32
  pub jobs : (k : ℕ) → k < t.count → JobStands (task_at t k) (job_at s k)
  pub past : (k : ℕ) → t.count ≤ k → Unused (job_at s k)
  pub once : Once s 16
  pub mark : (m : Place) → s.mark ≡ Some m → MarkFits t.count s.tick.0 m

-- ---- the steps left

module _ (t : Table) (x : ℕ) (h : Stack) where
  -- the section at i is the outermost whose ceiling is at most the level x
  pub record Outermost (i : ℕ) : Type 0 where
    pub on : On h i
    pub low : section_bars (ceilings t) x (section_at h i) ≡ true
    pub others : (m : ℕ) → m < i → section_bars (ceilings t) x (section_at h m) ≡ false

  abbrev test : ℕ → Bool
  test i = ltb i h.depth && section_bars (ceilings t) x (section_at h i)

  fails : (i : ℕ) → section_bars (ceilings t) x (section_at h i) ≡ false → test i ≡ false
  fails i e = ap (λ (b : Bool). ltb i h.depth && b) e ∙ and-false (ltb i h.depth)

  pub outermost : bars (ceilings t) x h ≡ true → (i : ℕ) × Outermost i
  outermost e =
      let w = on_tells (section_bars (ceilings t) x) h e in
      let l = lowest-le test 4 w.0 w.1.0 (and-true _ _ (lt-ltb _ _ w.1.1) w.2) in
      let b : lowest test 4 < 4 = omega (arith, w.1) in
      let v = both _ _ (lowest-at test 4 b) in
      let d = ltb-true (lowest test 4) h.depth v.0 in
      (lowest test 4, record { on = (b, d); low = v.1; others = λ m q. go m q (section_bars (ceilings t) x (section_at h m)) refl b d })
    where
      go : (m : ℕ) → m < lowest test 4 → (c : Bool) → section_bars (ceilings t) x (section_at h m) ≡ c → lowest test 4 < 4 → lowest test 4 < h.depth → c ≡ false
      go m q true f b d = absurd (omega (arith, lowest-le test 4 m (omega arith) (and-true _ _ (lt-ltb m h.depth (omega arith)) f)))
      go m q false f b d = refl

module _ (t : Table) (task : Task) (x : ℕ) (h : Stack) where
  pub left_of : (i : ℕ) → Outermost t x h i → left t task x h ≡ rest task (section_at h i)
  unfolding left
  left_of i o =
      first_found (test t x h) (λ i. rest task (section_at h i)) 0 4 i (lowest-is (test t x h) i i (omega arith) (λ l. absurd (omega arith)) (λ m l. fails t x h m (o.others m l))) o.on.0
      (and-true _ _ (lt-ltb _ _ o.on.1) o.low)

  pub left_unbarred : bars (ceilings t) x h ≡ false → left t task x h ≡ 0
  unfolding left
  left_unbarred e = first_none (test t x h) (λ i. rest task (section_at h i)) 0 4 (lowest-is (test t x h) 4 4 (omega arith) (λ l. absurd (omega arith)) (λ m l. go m l (dec_lt m h.depth)))
    where
      go : (m : ℕ) → m < 4 → Dec (m < h.depth) → (test t x h) m ≡ false
      go m l (yes d) = fails t x h m (on_none _ h e m (l, d))
      go m l (no d) = ap (λ (b : Bool). b && section_bars (ceilings t) x (section_at h m)) (le-ltb m h.depth (omega arith))

  pub left-barred : HeldFits task h → bars (ceilings t) x h ≡ true → 1 ≤ left t task x h
  left-barred f e = let w = outermost t x h e in omega (arith, left_of w.0 w.1, (f.section w.0 w.1.on).steps)

  -- what is left is left of something held
  pub left-bars : 1 ≤ left t task x h → bars (ceilings t) x h ≡ true
  left-bars l = go (bars (ceilings t) x h) refl
    where
      go : (b : Bool) → bars (ceilings t) x h ≡ b → b ≡ true
      go true e = refl
      go false e = absurd (omega (arith, left_unbarred e))

-- what keeps a level from nothing keeps no higher level from anything
left_lower : (t : Table) (task : Task) (x y : ℕ) (h : Stack) → HeldFits task h → x ≤ y → left t task y h ≡ 0 → left t task x h ≡ 0
left_lower t task x y h f l e = go (bars (ceilings t) x h) refl
  where
    go : (b : Bool) → bars (ceilings t) x h ≡ b → left t task x h ≡ 0
    go false b = left_unbarred t task x h b
    go true b = absurd (omega (arith, left-barred t task y h f (bars_lower (ceilings t) x y h l b)))

-- ---- the view of a state that stands is lawful

-- each task has 8 limits, as it has in the language
abbrev pub Eight : Table → Type 0
Eight t = (k : ℕ) → k < t.count → length (task_at t k).limits ≡ 8

module _ {t : Table} (a : Admitted t) {s : State} (stands : Stands t s) where
  pub inside : (k : ℕ) → (job_at s k).pending ≡ true → k < t.count
  inside k p = go (dec_lt k t.count)
    where
      go : Dec (k < t.count) → k < t.count
      go (yes l) = l
      go (no l) = absurd (false≢true (sym (stands.past k (omega arith)).pending ∙ p))

  pub below_16 : (k : ℕ) → (job_at s k).pending ≡ true → k < 16
  below_16 k p = omega (arith, inside k p, a.count.high)

  started-pending : (k : ℕ) → (job_at s k).started ≡ true → (job_at s k).pending ≡ true
  started-pending k h = go (job_at s k).pending refl (dec_lt k t.count)
    where
      go : (b : Bool) → (job_at s k).pending ≡ b → Dec (k < t.count) → (job_at s k).pending ≡ true
      go true e d = e
      go false e (yes l) = absurd (false≢true (sym ((stands.jobs k l).absent e).started ∙ h))
      go false e (no l) = absurd (false≢true (sym (stands.past k (omega arith)).absent.started ∙ h))

  holds-started : (k : ℕ) → holds_any (job_at s k).held ≡ true → (job_at s k).started ≡ true
  holds-started k h = go (job_at s k).started refl (dec_lt k t.count)
    where
      go : (b : Bool) → (job_at s k).started ≡ b → Dec (k < t.count) → (job_at s k).started ≡ true
      go true e d = e
      go false e (yes l) = absurd (false≢true (sym ((stands.jobs k l).unstarted e).held ∙ h))
      go false e (no l) = absurd (false≢true (sym (stands.past k (omega arith)).absent.held ∙ h))

  near : (j k : ℕ) → (job_at s j).pending ≡ true → (job_at s k).pending ≡ true → place_at s j < place_at s k → distance s.tick.0 (job_at s j).deadline.0 ≤ distance s.tick.0 (job_at s k).deadline.0
  near j k p q o = go (dec_le (distance s.tick.0 (job_at s j).deadline.0) (distance s.tick.0 (job_at s k).deadline.0))
    where
      go : Dec (distance s.tick.0 (job_at s j).deadline.0 ≤ distance s.tick.0 (job_at s k).deadline.0) → distance s.tick.0 (job_at s j).deadline.0 ≤ distance s.tick.0 (job_at s k).deadline.0
      go (yes l) = l
      go (no l) = absurd (omega (arith, nearer-first s.tick.0 (job_at s k).deadline.0 (job_at s j).deadline.0 k j (omega (arith, below_16 k q)) (omega arith)))

  -- two jobs at one place are one
  pub same_place : (j k : ℕ) → j < 16 → k < 16 → place_at s j ≡ place_at s k → j ≡ k
  same_place j k l m e =
      omega (
        arith,
        place-position s.tick.0 (job_at s j).deadline.0 j (omega arith),
        place-position s.tick.0 (job_at s k).deadline.0 k (omega arith),
      )

  -- behind or ahead, if another
  pub other_place : (j k : ℕ) → j < 16 → k < 16 → place_at s j ≤ place_at s k → (k ≡ j) ⊎ (place_at s j < place_at s k)
  other_place j k l m o = go (dec_lt (place_at s j) (place_at s k))
    where
      go : Dec (place_at s j < place_at s k) → (k ≡ j) ⊎ (place_at s j < place_at s k)
      go (yes h) = inr h
      go (no h) = inl (same_place k j m l (omega arith))

  either : (j k : ℕ) → (job_at s j).pending ≡ true → (job_at s k).pending ≡ true → (j ≡ k) ⊎ ((place_at s j < place_at s k) ⊎ (place_at s k < place_at s j))
  either j k p q = go (dec_lt (place_at s j) (place_at s k)) (dec_lt (place_at s k) (place_at s j))
    where
      go : Dec (place_at s j < place_at s k) → Dec (place_at s k < place_at s j) → (j ≡ k) ⊎ ((place_at s j < place_at s k) ⊎ (place_at s k < place_at s j))
      go (yes h) d = inr (inl h)
      go (no h) (yes m) = inr (inr m)
      go (no h) (no m) = inl (same_place j k (below_16 j p) (below_16 k q) (omega arith))

  module _ (limits : Eight t) where
    pub takes_8 : (k : ℕ) → k < t.count → (i : ℕ) → On (job_at s k).held i → (section_at (job_at s k).held i).resource < 8
    takes_8 k l i o = takes_one_of_8 (task_at t k) _ (limits k l) ((stands.jobs k l).held.section i o).taken

    -- no section that keeps a task of shorter D waiting is longer than its B
    left-limit : (k p : ℕ) → (job_at s k).pending ≡ true → p < t.count → D t p < D t k → left t (task_at t k) (D t p) (job_at s k).held ≤ B t p
    left-limit k p h l d = go (bars (ceilings t) (D t p) (job_at s k).held) refl
      where
        go : (b : Bool) → bars (ceilings t) (D t p) (job_at s k).held ≡ b → left t (task_at t k) (D t p) (job_at s k).held ≤ B t p
        go false e = omega (arith, left_unbarred t (task_at t k) (D t p) (job_at s k).held e)
        go true e =
            let w = outermost t (D t p) (job_at s k).held e in
            let one = takes_8 k (inside k h) w.0 w.1.on in
            let low = bars_tells t (D t p) (section_at (job_at s k).held w.0) one w.1.low in
            omega (arith, left_of t (task_at t k) (D t p) (job_at s k).held w.0 w.1, a.blocks p k (section_at (job_at s k).held w.0).resource (inside k h) one d low)

    -- a place past the count bars nothing
    left-level : (k x y : ℕ) → x ≤ y → left t (task_at t k) y (job_at s k).held ≡ 0 → left t (task_at t k) x (job_at s k).held ≡ 0
    left-level k x y l e = go (dec_lt k t.count) (bars (ceilings t) x (job_at s k).held) refl
      where
        go : Dec (k < t.count) → (b : Bool) → bars (ceilings t) x (job_at s k).held ≡ b → left t (task_at t k) x (job_at s k).held ≡ 0
        go (yes q) b f = left_lower t (task_at t k) x y (job_at s k).held (stands.jobs k q).held l e
        go (no q) false f = left_unbarred t (task_at t k) x (job_at s k).held f
        go (no q) true f = absurd (false≢true (sym (stands.past k (omega arith)).absent.held ∙ bars-held (ceilings t) x (job_at s k).held f))

    pub lawful : Lawful (tasks t) (view t s)
    lawful = record {
      inside = inside;
      started-pending = started-pending;
      holds-started = holds-started;
      left-holds = λ k x l. bars-held (ceilings t) x (job_at s k).held (left-bars t (task_at t k) x (job_at s k).held l);
      left-level = left-level;
      left-limit = left-limit;
      near = near;
      either = either;
      once = λ j k p q o x. omega arith;
    }
