-- The listing of a record file: "one program that reads records and prints".
use Rattle.std.specs.Prelude.{ℕ, ◌+◌, true, cond, List, [], ◌++◌, eqb}
use Rattle.units.specs.Folds.{over}
use Rattle.verdict.specs.Verdict.{answer}
use Rattle.table.specs.declared.Table.{Table}
use Rattle.admission.specs.Admission.{verdict}
use Rattle.state.specs.{declared.State.State, Answers.Answer, State.fresh}
use Rattle.machine.specs.Machine as Machine
use Rattle.records.specs.{declared.Event.Event, Records.first_event, Records.event_count, Records.well_formed, Contents.table, Contents.start, Contents.event}
use Rattle.lines.specs.declared.Line.TheVariants as Line
use Rattle.lines.specs.Lines.{text}
use Rattle.listing.specs.declared.Step.{Step}

-- "Release line: tick, "release", position, number."
abbrev pub released : State → ℕ → Answer → Step
released s p a = record { line = Line.Release s.tick p a.number; state = a.state }

-- "Tick line: tick, "run", position or "-", mode i or s, speed, ending"; "A refused tick prints tick, "refused", number, and the state is as before its first half."
abbrev pub ticked : State → Answer → Step
ticked s a =
    cond (eqb a.number 0)
    (record { line = Line.Run s.tick a.runner a.mode a.speed a.ending; state = a.state })
    (record { line = Line.Refused s.tick a.number; state = s })

-- the line of an event, and the state after it
unfoldable pub step : Table → State → Event → Step
step t s (Event.Release p) = released s p (Machine.release t s p)
step t s (Event.Tick said) = let a = Machine.choose t s in ticked s (cond (eqb a.number 0) (Machine.report t a.state said) a)

-- what is printed, and the state after it
pub record Page : Type 0 where
  pub text : List ℕ
  pub state : State

-- one event more
unfoldable pub more : List ℕ → Table → ℕ → Page → Page
more file t k page = let x = step t page.state (event file (first_event file + k)) in record { text = page.text ++ text x.line; state = x.state }

-- the lines of the first n events, one after the other, from a state
unfoldable pub page : List ℕ → Table → State → ℕ → Page
page file t s n = over (λ k. true) (more file t) (record { text = []; state = s }) n

-- "prints "table" and the verdict number"; "it stops there if that is not 0"
unfoldable pub listed : List ℕ → List ℕ
listed file =
    let t = table file in
    let number = (answer (verdict t)).0 in
    text (Line.Table number) ++ cond (eqb number 0) (page file t (fresh t (start file)).state (event_count file)).text []

-- "or 1 for a malformed file"
unfoldable pub listing : List ℕ → List ℕ
listing file = cond (well_formed file) (listed file) (text (Line.Table 1))
