-- The listing goes back to the state before a tick that is refused, so that its states are not handed on as those of a history are. Each is a place of a history all the same, and so of the numbers 9 to 16 only 10, 12, 13 and 14 come in it.
use Rattle.std.specs.Prelude.{ℕ, ◌^◌, ◌<◌}
use mathlib.Core.{Path.◌≡◌, Logic.◌⊎◌, List.List}
use Rattle.std.proofs.Math.Option.{none}
use Rattle.table.specs.declared.Table.{Table}
use Rattle.state.specs.{declared.State.State}
use Rattle.records.specs.declared.Event.{Event}
use Rattle.lines.specs.declared.Line.{Line}
use Rattle.listing.specs.Listing.{step, page}
use Rattle.promise.specs.History.{written, Call, lines, start, state_after, standing}
use Rattle.promise.specs.Promise.{Passed}

-- a place of a history, between ticks
pub record Place (t : Table) (now : ℕ) (s : State) : Type 0 where
  pub calls : List Call
  pub is : s ≡ state_after written t (start written t now) calls
  pub between : standing (lines written t (start written t now) calls) ≡ none

-- the numbers that a line may have
abbrev pub Shows : Line → Type 0
Shows (Line.Table n) = Unit
Shows (Line.Release tick p n) = (n ≡ 0) ⊎ ((n ≡ 10) ⊎ (n ≡ 12))
Shows (Line.Run tick r o v e) = Unit
Shows (Line.Refused tick n) = (n ≡ 13) ⊎ (n ≡ 14)

-- after any number of a file's events
pub record Listed : Type 0 where
  pub covered : (file : List ℕ) (t : Table) → Passed written t → (now : ℕ) → now < 2 ^ 32 → (n : ℕ) → Place t now (page file t (start written t now) n).state
  pub numbers : (file : List ℕ) (t : Table) → Passed written t → (now : ℕ) → now < 2 ^ 32 → (n : ℕ) (event : Event) → Shows (step t (page file t (start written t now) n).state event).line
