-- What a tick and its report make of the sections that a job is in. Assumes nothing.
use Prim.Native.Nat.{ℕ, ◌+◌, ◌-◌, ◌≤◌, ◌<◌, min}
use mathlib.Core.Path.{◌≡◌, refl, ap, ◌∙◌}
use mathlib.Core.Bool.{false}
use native.Mathlib.Decide.{dec_lt}
use native.Mathlib.Omega.{arith}
use lib.Dec.{eqb}
use borrow.Author.Tests.{lt-ltb, le-ltb, eqb-false}
use Rattle.units.specs.Amounts.{given, steps}
use Rattle.units.proofs.Laws.Tests.{cond_yes, cond_no}
use Rattle.table.specs.declared.Task.{Task}
use Rattle.table.specs.Table.{limit}
use Rattle.state.specs.declared.Section.{Section}
use Rattle.state.specs.declared.Stack.{Stack}
use Rattle.state.specs.declared.Report.{Report}
use Rattle.state.specs.declared.Report.TheVariants.{CarryOn, Done, Take, Give}
use Rattle.state.specs.Stack.{no_section, section_at}
use Rattle.state.proofs.Laws.Stacks.{stacked-at, stacked_spare, On, on_none}
use Rattle.report.specs.Report.{risen, held_on, taken, given_back, at_limit}
use Rattle.report.proofs.Laws.Jobs.{handed}

abbrev pub section : ℕ → ℕ → Section
section r n = record { resource = r; steps = steps n }

-- ---- the stack

module _ (h : Stack) (i : ℕ) (b : i < 4) where
  pub taken_older : (r : ℕ) → i < h.depth → section_at (taken r h) i ≡ section_at h i
  taken_older r l = stacked-at _ (h.depth + 1) i b (omega arith) ∙ cond_yes _ _ (lt-ltb _ _ l)

  pub taken_newer : (r : ℕ) → i ≡ h.depth → section_at (taken r h) i ≡ section r 0
  taken_newer r e = stacked-at _ (h.depth + 1) i b (omega arith) ∙ cond_no _ _ (le-ltb i h.depth (omega arith))

  pub back_at : i < h.depth - 1 → section_at (given_back h) i ≡ section_at h i
  back_at l = stacked-at (section_at h) (h.depth - 1) i b l

module _ (task : Task) (v : ℕ) (h : Stack) where
  pub on-at : (i : ℕ) → On h i → section_at (held_on task v h) i ≡ risen task v (section_at h i)
  on-at i l = stacked-at _ h.depth i l.0 l.1

  -- ---- after the report: where each section comes from

  pub data From (said : Report) (i : ℕ) (x : Section) : Type 0 where
    older : On h i → x ≡ risen task v (section_at h i) → From said i x
    newer : (r : ℕ) → said ≡ Take r → i ≡ h.depth → x ≡ section r 0 → From said i x

  abbrev pub after : Report → Stack
  after said = handed said (held_on task v h)

  pub from : (said : Report) (i : ℕ) → On (after said) i → From said i (section_at (after said) i)
  from CarryOn i l = older l (on-at i l)
  from Done i l = older l (on-at i l)
  from Give i l = let m : On h i = (l.0, omega (arith, l.1)) in older m (back_at (held_on task v h) i l.0 l.1 ∙ on-at i m)
  from (Take r) i l = go (dec_lt i h.depth)
    where
      go : Dec (i < h.depth) → From (Take r) i (section_at (after (Take r)) i)
      go (yes m) = older (l.0, m) (taken_older (held_on task v h) i l.0 r m ∙ on-at i (l.0, m))
      go (no m) = let e : i ≡ h.depth = omega (arith, l.1) in newer r refl e (taken_newer (held_on task v h) i l.0 r e)

  -- no more than four, and 0 above them
  pub after_depth : (said : Report) → h.depth ≤ 4 → ((r : ℕ) → said ≡ Take r → h.depth < 4) → (after said).depth ≤ 4
  after_depth CarryOn l f = l
  after_depth Done l f = l
  after_depth Give l f = omega arith
  after_depth (Take r) l f = omega (arith, f r refl)

  pub after_spare : (said : Report) (i : ℕ) → i < 4 → (after said).depth ≤ i → section_at (after said) i ≡ no_section
  after_spare CarryOn i b l = stacked_spare _ h.depth i b l
  after_spare Done i b l = stacked_spare _ h.depth i b l
  after_spare Give i b l = stacked_spare _ (h.depth - 1) i b l
  after_spare (Take r) i b l = stacked_spare _ (h.depth + 1) i b l

-- ---- the steps

module _ (task : Task) (v : ℕ) (x : Section) where
  abbrev most : ℕ
  most = limit task x.resource

  -- one that is not at its limit has all the steps of the tick, and is below it
  pub rises : ((risen task v x).steps.0 ≡ most → ⊥) → (risen task v x ≡ section x.resource (x.steps.0 + given v)) × (x.steps.0 + given v < most)
  rises h = (ap (section x.resource) (all h), less h)
    where
      all : (min (x.steps.0 + given v) most ≡ most → ⊥) → min (x.steps.0 + given v) most ≡ x.steps.0 + given v
      all h = omega (arith, h)

      less : (min (x.steps.0 + given v) most ≡ most → ⊥) → x.steps.0 + given v < most
      less h = omega (arith, h)

-- no section on a stack that is not at its limit is
pub below : (task : Task) (h : Stack) → at_limit task h ≡ false → (i : ℕ) → On h i → (section_at h i).steps.0 ≡ limit task (section_at h i).resource → ⊥
below task h e i l = eqb-false _ _ (on_none (λ (x : Section). eqb x.steps.0 (limit task x.resource)) h e i l)
