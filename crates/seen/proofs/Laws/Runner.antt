-- Who runs, by what one pass has seen, where each place fits. Assumes nothing.
use Prim.Native.Nat.{ℕ, ◌<◌}
use mathlib.Core.Path.{◌≡◌, refl, sym, ap, ◌∙◌}
use mathlib.Core.Bool.{Bool, true, false, ◌||◌, cond, false≢true}
use mathlib.Core.Logic.{◌⊎◌, inl, inr, ⊎_elim}
use native.Mathlib.Nat.{eq-or-lt_of_le}
use native.Mathlib.Omega.{arith}
use lib.Dec.{eqb}
use borrow.Author.Tests.{eqb-true, eqb-false}
use Rattle.units.specs.Sets.{has}
use Rattle.units.proofs.Laws.Folds.{both, some_tells, some_holds}
use Rattle.units.proofs.Laws.Sets.{has_past}
use Rattle.units.proofs.Laws.Tests.{and-true, cond_yes, cond_no}
use Rattle.table.specs.declared.Table.{Table}
use Rattle.table.specs.Table.{D, ceilings}
use Rattle.state.specs.declared.State.{State}
use Rattle.state.specs.Stack.{section_at}
use Rattle.state.specs.State.{job_at}
use Rattle.state.specs.Order.{position_of, no_place, is_pending, is_started, holds, first_in_order, held_resources}
use Rattle.state.proofs.Laws.Order.{first_bound}
use Rattle.state.proofs.Laws.Stacks.{on_tells, on_holds, on_any, holds_tells, holds_at}
use Rattle.choice.specs.Choice.{top, bars, blocked, runner}
use Rattle.choice.proofs.Laws.Ready.{blocked_tells, blocked-holds}
use Rattle.choice.proofs.Laws.Runner.{runner-blocked, runner_free}
use Rattle.consistency.specs.Consistency.{positions_fit}
use Rattle.seen.specs.Seen.{seen, is_free, barred, run_by}
use Rattle.seen.proofs.Laws.Fits.{Eight, holder-started, held_one_of_8, top-first, started-top, held_tells, held-holds}

module _ (t : Table) (s : State) (fit : positions_fit t s ≡ true) (eight : Eight t) where
  abbrev first : ℕ
  first = first_in_order is_started s

  abbrev at : ℕ
  at = position_of (top s)

  abbrev d : ℕ
  d = D t at

  -- who bars top holds a resource of a ceiling that is not above its D
  bars-seen : (k : ℕ) → k < 16 → bars (ceilings t) d (job_at s k).held ≡ true → barred (held_resources s) (ceilings t) d ≡ true
  unfolding barred
  bars-seen k l h =
      let w = on_tells _ (job_at s k).held h in
      let r = (section_at (job_at s k).held w.0).resource in
      let e : holds r (job_at s k).held ≡ true = holds_at _ (job_at s k).held w.0 w.1 refl in
      let b = held_one_of_8 t s fit eight k r l e in
      some_holds _ 8 r b (and-true _ _ (held-holds s k r l b e) w.2)

  seen-bars : barred (held_resources s) (ceilings t) d ≡ true → (k : ℕ) × (k < 16) × (bars (ceilings t) d (job_at s k).held ≡ true)
  unfolding barred
  seen-bars h =
      let w = some_tells _ 8 h in
      let v = both (has (held_resources s) w.0) _ w.2 in
      let u = held_tells s w.0 w.1 v.0 in
      let x = holds_tells w.0 (job_at s u.0).held u.2 in
      (u.0, u.1, on_holds _ (job_at s u.0).held x.0 x.1 (rw (← x.2) v.1))

  -- a job that is not started is blocked where that is so
  blocked-barred : blocked t s at ≡ true → barred (held_resources s) (ceilings t) d ≡ true
  blocked-barred h = let w = (blocked_tells t s at h).1 in bars-seen w.0 w.1.0 w.1.1

  barred-blocked : (job_at s at).started ≡ false → barred (held_resources s) (ceilings t) d ≡ true → blocked t s at ≡ true
  barred-blocked e h =
      let w = seen-bars h in
      let b = both (job_at s w.0).pending (job_at s w.0).started (holder-started t s fit w.0 w.1 (on_any _ (job_at s w.0).held w.2)) in
      blocked-holds t s at e w.0 (w.1, w.2, b.0, λ q. false≢true (sym e ∙ ap (λ (k : ℕ). (job_at s k).started) (sym q) ∙ b.1))

  nothing-bars : held_resources s ≡ 0 → barred (held_resources s) (ceilings t) d ≡ true → ⊥
  unfolding barred
  nothing-bars e h =
      let w = some_tells _ 8 h in
      let v = both (has (held_resources s) w.0) _ w.2 in
      false≢true (sym (has_past 0 0 w.0 (omega arith) (omega arith)) ∙ sym (ap (λ (m : ℕ). has m w.0) e) ∙ v.0)

  -- nothing is held, or top is started: top runs
  pub runner_free_top : is_free (seen s) ≡ true → runner t s ≡ top s
  unfolding is_free seen
  runner_free_top h = go (blocked t s at) refl (either (eqb (held_resources s) 0) _ h)
    where
      either : (a b : Bool) → (a || b) ≡ true → (a ≡ true) ⊎ (b ≡ true)
      either true b h = inl refl
      either false b h = inr h

      go : (b : Bool) → blocked t s at ≡ b → (eqb (held_resources s) 0 ≡ true) ⊎ (eqb first (top s) ≡ true) → runner t s ≡ top s
      go false e f = runner_free t s e
      go true e (inl f) = absurd (nothing-bars (eqb-true _ _ f) (blocked-barred e))
      go true e (inr f) = runner-blocked t s e ∙ eqb-true _ _ f

  module _ (h : is_free (seen s) ≡ false) where
    not_first : first ≡ top s → ⊥
    unfolding is_free seen
    not_first = eqb-false first (top s) (neither (eqb (held_resources s) 0) _ h)
      where
        neither : (a b : Bool) → (a || b) ≡ false → b ≡ false
        neither true b h = absurd (false≢true (sym h))
        neither false b h = h

    -- else there is a top, which is not started
    pub top-there : top s < no_place
    top-there = ⊎_elim (λ e. absurd (not_first (omega (arith, e, top-first s, first_bound s is_started)))) (λ l. l) (eq-or-lt_of_le (first_bound s is_pending))

    top_unstarted : (job_at s at).started ≡ false
    top_unstarted = go (job_at s at).started refl
      where
        go : (b : Bool) → (job_at s at).started ≡ b → (job_at s at).started ≡ false
        go true e = absurd (not_first (started-top s top-there e))
        go false e = e

    -- and what is held tells whether it is blocked
    pub runner-by : runner t s ≡ run_by (seen s) (ceilings t) d
    unfolding run_by seen
    runner-by = go (blocked t s at) (barred (held_resources s) (ceilings t) d) refl refl
      where
        go : (a b : Bool) → blocked t s at ≡ a → barred (held_resources s) (ceilings t) d ≡ b → runner t s ≡ cond (barred (held_resources s) (ceilings t) d) first (top s)
        go true b e f = runner-blocked t s e ∙ sym (cond_yes _ _ (blocked-barred e))
        go false true e f = absurd (false≢true (sym e ∙ barred-blocked top_unstarted f))
        go false false e f = runner_free t s e ∙ sym (cond_no _ _ f)
