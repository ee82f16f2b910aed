-- Who runs. Assumes nothing.
use Rattle.std.specs.Prelude.{Some, None}
use Prim.Native.Nat.{ℕ, ◌≤◌, ◌<◌}
use mathlib.Core.Path.{◌≡◌, refl, sym, ap, ◌∙◌}
use mathlib.Core.Bool.{Bool, true, false, false≢true}
use native.Mathlib.Decide.{dec_lt}
use native.Mathlib.Omega.{arith}
use borrow.Author.Tests.{lt-ltb, le-ltb}
use Rattle.table.specs.declared.Table.{Table}
use Rattle.state.specs.declared.State.{State}
use Rattle.state.specs.State.{Runner}
use Rattle.state.specs.Order.{position_of, no_place, first_in_order, is_pending, is_started}
use Rattle.state.proofs.Laws.Order.{first-position}
use Rattle.choice.specs.declared.Turn.{Turn}
use Rattle.choice.specs.Choice.{top, blocked, runner, rules, idle, turn}
use Rattle.choice.proofs.Laws.Rules.{rules-runner}

-- nobody is no job, and a job has one position
abbrev position : Runner → ℕ
position None = 0
position (Some p) = p

abbrev someone : Runner → Bool
someone None = false
someone (Some p) = true

pub named : {p q : ℕ} → Some p ≡ Some q → p ≡ q
named e = ap position e

pub nobody : {p : ℕ} → None ≡ Some p → ⊥
nobody e = false≢true (ap someone e)

module _ (t : Table) (s : State) where
  pub runner-blocked : blocked t s (position_of (top s)) ≡ true → runner t s ≡ first_in_order is_started s
  unfolding runner
  runner-blocked h = rw h

  pub runner_free : blocked t s (position_of (top s)) ≡ false → runner t s ≡ top s
  unfolding runner
  runner_free h = rw h

  pub runner-position : position_of (runner t s) < 16
  runner-position = go (blocked t s (position_of (top s))) refl
    where
      go : (b : Bool) → blocked t s (position_of (top s)) ≡ b → position_of (runner t s) < 16
      go true h = rw (runner-blocked h) (first-position s is_started)
      go false h = rw (runner_free h) (first-position s is_pending)

  pub turn-runs : top s < no_place → turn t s ≡ rules t s (runner t s)
  unfolding turn
  turn-runs l = simp (lt-ltb _ _ l)

  pub turn-idle : no_place ≤ top s → turn t s ≡ idle
  unfolding turn
  turn-idle l = simp (le-ltb _ _ l)

  -- where somebody runs, there is a top
  pub runs-top : (p : ℕ) → (turn t s).runner ≡ Some p → top s < no_place
  runs-top p e = go (dec_lt (top s) no_place)
    where
      go : Dec (top s < no_place) → top s < no_place
      go (yes l) = l
      go (no l) = absurd (nobody (sym (ap (λ (u : Turn). u.runner) (turn-idle (omega arith))) ∙ e))

  -- whoever runs is at a position below 16
  pub runner_below : (p : ℕ) → (turn t s).runner ≡ Some p → p < 16
  runner_below p e = rw (named (sym e ∙ ap (λ (u : Turn). u.runner) (turn-runs (runs-top p e)) ∙ rules-runner t s (runner t s))) runner-position
