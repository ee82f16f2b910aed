-- What a held resource bars, by its ceiling. Assumes nothing.
use Prim.Native.Nat.{ℕ, ◌≤◌, ◌<◌}
use mathlib.Core.Path.{◌≡◌}
use mathlib.Core.Bool.{true}
use mathlib.Core.List.{List}
use native.Mathlib.Nat.{le_trans}
use borrow.Author.Tests.{le-leb, leb-true}
use Rattle.units.specs.declared.Ticks.{Ticks}
use Rattle.table.specs.declared.Table.{Table}
use Rattle.table.specs.Table.{ceiling, ceilings}
use Rattle.table.proofs.Laws.Ceilings.{ceilings-at}
use Rattle.state.specs.declared.Section.{Section}
use Rattle.state.specs.declared.Stack.{Stack}
use Rattle.state.specs.Order.{holds_any, holds}
use Rattle.state.proofs.Laws.Stacks.{on_tells, on_holds, on_any, holds_tells}
use Rattle.choice.specs.Choice.{section_bars, bars}

module _ (l : List Ticks) (d : ℕ) where
  -- an empty stack bars nothing
  pub bars-held : (h : Stack) → bars l d h ≡ true → holds_any h ≡ true
  bars-held h e = on_any (section_bars l d) h e

  -- what bars a level bars the lower levels: those of a longer D
  pub bars_lower : (e : ℕ) (h : Stack) → d ≤ e → bars l d h ≡ true → bars l e h ≡ true
  bars_lower e h m b = let w = on_tells (section_bars l d) h b in on_holds (section_bars l e) h w.0 w.1 (le-leb _ e (le_trans (leb-true _ d w.2) m))

-- "a resource whose ceiling is at most top's D", both ways
module _ (t : Table) (d : ℕ) where
  pub bars-holds : (r : ℕ) (h : Stack) → r < 8 → holds r h ≡ true → ceiling t r ≤ d → bars (ceilings t) d h ≡ true
  bars-holds r h one e m = let w = holds_tells r h e in on_holds (section_bars (ceilings t) d) h w.0 w.1 (rw (← w.2) (le-leb _ d (rw (ceilings-at t r one) m)))

  pub bars_tells : (x : Section) → x.resource < 8 → section_bars (ceilings t) d x ≡ true → ceiling t x.resource ≤ d
  bars_tells x one h = rw (ceilings-at t x.resource one) at (leb-true _ d h)
