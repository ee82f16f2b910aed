-- Whether the runner is started, by the places of the runner and of the first started job. Assumes nothing.
use Prim.Native.Nat.{ℕ, ◌≤◌, ◌<◌}
use mathlib.Core.Path.{◌≡◌, refl, sym, ap, ◌∙◌}
use mathlib.Core.Bool.{Bool, true, false, ◌&&◌, false≢true}
use native.Mathlib.Decide.{dec_lt}
use native.Mathlib.Omega.{arith}
use lib.Dec.{eqb}
use borrow.Author.Tests.{eq-eqb, ne_eqb}
use Rattle.table.specs.declared.Table.{Table}
use Rattle.state.specs.declared.State.{State}
use Rattle.state.specs.declared.Half.{Half}
use Rattle.state.specs.declared.Half.TheVariants.{First, Second}
use Rattle.state.specs.State.{job_at}
use Rattle.state.specs.Order.{position_of, no_place, is_started, first_in_order}
use Rattle.state.proofs.Laws.Order.{first-le, first_bound, place-lt}
use Rattle.state.proofs.Laws.Stacks.{on_any}
use Rattle.choice.specs.declared.Turn.{Turn}
use Rattle.choice.specs.Choice.{top, blocked, runner, turn}
use Rattle.choice.proofs.Laws.Ready.{blocked_tells}
use Rattle.choice.proofs.Laws.Rules.{rules-runner}
use Rattle.choice.proofs.Laws.Runner.{runner-blocked, runner_free, turn-runs, turn-idle}
use Rattle.consistency.specs.Consistency.{positions_fit, same_runner, same_mark, has_begun, unchanged, half_fits}
use Rattle.seen.specs.Seen.{half_fits_by}
use Rattle.seen.proofs.Laws.Fits.{holder-started, top-first, started-top, first-started}

module _ (t : Table) (s : State) (fit : positions_fit t s ≡ true) where
  abbrev first : ℕ
  first = first_in_order is_started s

  abbrev at : ℕ
  at = position_of (top s)

  -- who bars a blocked top is started
  blocked-first : blocked t s at ≡ true → first < no_place
  blocked-first h =
      let w = (blocked_tells t s at h).1 in
      let e = holder-started t s fit w.0 w.1.0 (on_any _ (job_at s w.0).held w.1.1) in
      omega (arith, first-le s is_started w.0 w.1.0 e, place-lt s.tick.0 (job_at s w.0).deadline.0 w.0 (omega (arith, w.1.0)))

  begun-at : top s < no_place → (job_at s (position_of (runner t s))).started ≡ eqb (runner t s) first
  begun-at l = go (blocked t s at) (job_at s at).started refl refl
    where
      of : (run : ℕ) → runner t s ≡ run → (job_at s (position_of run)).started ≡ eqb run first → (job_at s (position_of (runner t s))).started ≡ eqb (runner t s) first
      of run e h = rw e h

      go : (a b : Bool) → blocked t s at ≡ a → (job_at s at).started ≡ b → (job_at s (position_of (runner t s))).started ≡ eqb (runner t s) first
      go true b e f = of first (runner-blocked t s e) (first-started s (blocked-first e) ∙ sym (eq-eqb first first refl))
      go false true e f = of (top s) (runner_free t s e) (f ∙ sym (eq-eqb _ _ (sym (started-top s l f))))
      go false false e f = of (top s) (runner_free t s e) (f ∙ sym (ne_eqb _ _ (λ q. unstarted f q)))
        where
          unstarted : (job_at s at).started ≡ false → top s ≡ first → ⊥
          unstarted f q = false≢true (sym f ∙ ap (λ (x : ℕ). (job_at s (position_of x)).started) q ∙ first-started s (omega (arith, q, l)))

  -- "The runner becomes started": it is already where it is the first started job; with nobody to run, there is none of either
  pub begun_first : has_begun s (turn t s).runner ≡ eqb (runner t s) first
  begun_first = go (dec_lt (top s) no_place)
    where
      none : no_place ≤ top s → runner t s ≡ first
      none l = go (blocked t s at) refl
        where
          go : (b : Bool) → blocked t s at ≡ b → runner t s ≡ first
          go true e = runner-blocked t s e
          go false e = runner_free t s e ∙ omega (arith, l, top-first s, first_bound s is_started)

      go : Dec (top s < no_place) → has_begun s (turn t s).runner ≡ eqb (runner t s) first
      go (yes l) = ap (has_begun s) (ap (λ (u : Turn). u.runner) (turn-runs t s l) ∙ rules-runner t s (runner t s)) ∙ begun-at l
      go (no l) = ap (λ (u : Turn). has_begun s u.runner) (turn-idle t s (omega arith)) ∙ sym (eq-eqb _ _ (none (omega arith)))

  unchanged-by : unchanged s (turn t s) ≡ half_fits_by Second s.runner s.mark (eqb (runner t s) first) (turn t s)
  unfolding unchanged
  unchanged-by = ap (λ (b : Bool). same_runner (turn t s).runner s.runner && (same_mark (turn t s).mark s.mark && b)) begun_first

  -- so the clause of the half goes by the turn
  pub half-by : half_fits t s s.half ≡ half_fits_by s.half s.runner s.mark (eqb (runner t s) first) (turn t s)
  half-by = go s.half
    where
      go : (h : Half) → half_fits t s h ≡ half_fits_by h s.runner s.mark (eqb (runner t s) first) (turn t s)
      go First = refl
      go Second = unchanged-by
