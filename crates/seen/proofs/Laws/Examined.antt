-- A consistent state, by what the test of it hands back. Assumes nothing.
use Rattle.std.specs.Prelude.{Option, Some, None, Err}
use Prim.Native.Nat.{ℕ, ◌^◌, ◌<◌}
use mathlib.Core.Path.{◌≡◌, refl, sym, ap, ◌∙◌}
use mathlib.Core.Bool.{Bool, true, false, ◌&&◌, and-false}
use lib.ListN.{length}
use borrow.Author.Tests.{ne_eqb}
use Rattle.units.proofs.Laws.Tests.{and-true}
use Rattle.verdict.specs.declared.Fault.{Fault}
use Rattle.verdict.specs.Verdict.{passing}
use Rattle.verdict.proofs.Laws.{fault_counts}
use Rattle.table.specs.declared.Table.{Table}
use Rattle.admission.specs.Admission.{verdict}
use Rattle.state.specs.declared.State.{State}
use Rattle.state.specs.State.{job_at, passes}
use Rattle.state.specs.Order.{held_resources}
use Rattle.choice.specs.Choice.{turn}
use Rattle.choice.proofs.Laws.Choice.{runner-is, runner-pending}
use Rattle.choice.proofs.Laws.Runner.{named, runs-top}
use Rattle.consistency.specs.Consistency.{consistent}
use Rattle.consistency.proofs.Laws.Facts.{consistent_tells}
use Rattle.consistency.proofs.Laws.Found.{found_passes}
use Rattle.consistency.proofs.Laws.Middle.{ready}
use Rattle.seen.specs.declared.Examined.{Examined}
use Rattle.seen.specs.Seen.{due, fits, examined}

module _ (t : Table) (s : State) where
  pub consistent-is : consistent t s ≡ (passes t && fits t s)
  unfolding consistent fits
  consistent-is = refl

  -- the job that runs is there
  pub runner-there : consistent t s ≡ true → length s.jobs ≡ 16 → s.tick.0 < 2 ^ 32 → (p : ℕ) → (turn t s).runner ≡ Some p → (job_at s p).pending ≡ true
  runner-there good long small p e =
      let r = ready t s (consistent_tells t s good) long small in
      let some = runs-top t s p e in
      rw (named (sym e ∙ runner-is t s r some)) (runner-pending t s r some)

  -- what the test hands back of a state that fits
  abbrev whole : Examined
  whole = record { turn = turn t s; held = held_resources s; due = due s }

  pub examined-fits : fits t s ≡ true → examined t s ≡ Some whole
  unfolding examined
  examined-fits h = rw h

  pub examined_unfit : fits t s ≡ false → examined t s ≡ None
  unfolding examined
  examined_unfit h = rw h

  -- nothing is handed back of a state that does not fit, and that of one that does
  none-unfit : None ≡ examined t s → fits t s ≡ false
  none-unfit e = go (fits t s) refl
    where
      go : (b : Bool) → fits t s ≡ b → fits t s ≡ false
      go true h = let z : None ≡ Some whole = e ∙ examined-fits h in cc
      go false h = h

  some-fits : {y : Examined} → Some y ≡ examined t s → (fits t s ≡ true) × (y ≡ whole)
  some-fits {y} e = go (fits t s) refl
    where
      go : (b : Bool) → fits t s ≡ b → (fits t s ≡ true) × (y ≡ whole)
      go true h = let z : Some y ≡ Some whole = e ∙ examined-fits h in (h, cc)
      go false h = let z : Some y ≡ None = e ∙ examined_unfit h in (cc, cc)

  -- a table with a fault, and then what the test of the state hands back
  pub faulty : {f : Fault} → Err f ≡ verdict t → consistent t s ≡ false
  faulty {f} e = consistent-is ∙ ap (λ (b : Bool). b && fits t s) (found_passes t e refl (ne_eqb _ 0 (fault_counts f)))

  module _ {x : Option Examined} (e : x ≡ examined t s) where
    pub unfit : x ≡ None → consistent t s ≡ false
    unfit h = consistent-is ∙ ap (λ (b : Bool). passes t && b) (none-unfit (sym h ∙ e)) ∙ and-false (passes t)

    module _ {y : Examined} (h : x ≡ Some y) where
      pub fit : passing ≡ verdict t → consistent t s ≡ true
      fit a = consistent-is ∙ and-true _ _ (found_passes t a refl refl) (some-fits (sym h ∙ e)).0

      pub handed_back : y ≡ whole
      handed_back = (some-fits (sym h ∙ e)).1
