-- A run: events from a fresh start, the line of the last of them, and the job that they leave.
use Rattle.std.specs.Prelude.{ℕ, zero, suc, List, [], ◌∷◌}
use Rattle.units.specs.Clock as Clock
use Rattle.table.specs.declared.Table.{Table}
use Rattle.state.specs.{declared.Job.Job, declared.State.State, declared.Report.Report, declared.Report.TheVariants.CarryOn, State.job_at, State.fresh}
use Rattle.records.specs.declared.Event.{Event}
use Rattle.lines.specs.declared.Line.{Line}
use Rattle.listing.specs.Listing.{step}

abbrev pub release : ℕ → Event
release p = Event.Release p

abbrev pub tick : Report → Event
tick said = Event.Tick said

-- ticks that carry on
abbrev pub carry : ℕ → List Event
carry zero = []
carry (suc n) = tick CarryOn ∷ carry n

-- the state that some events lead to
unfoldable pub reached : Table → State → List Event → State
reached t s [] = s
reached t s (e ∷ rest) = reached t (step t s e).state rest

abbrev pub from : Table → ℕ → List Event → State
from t now events = reached t (fresh t (Clock.tick now)).state events

-- the line of an event that comes after some others
abbrev pub line : Table → ℕ → List Event → Event → Line
line t now events e = (step t (from t now events) e).line

-- the job at a position after some events
abbrev pub job_after : Table → ℕ → List Event → ℕ → Job
job_after t now events k = job_at (from t now events) k
