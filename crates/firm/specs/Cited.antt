-- Laws that the documents cite and no proof needs, at their full type, for the same reason. What they speak of is of the specs alone.
use Rattle.std.specs.Prelude.{ℕ, ◌*◌, ◌^◌, max, ◌≤◌, ◌<◌, length, Some}
use mathlib.Core.{Path.◌≡◌, List.List}
use Rattle.units.specs.declared.Tick.{Tick}
use Rattle.units.specs.Amounts.{up}
use Rattle.units.specs.Clock.{distance}
use Rattle.table.specs.declared.Table.{Table}
use Rattle.table.specs.Table.{task_at, ceiling}
use Rattle.admission.specs.Admission.{verdict}
use Rattle.state.specs.declared.Place.{Place}
use Rattle.state.specs.declared.State.{State}
use Rattle.state.specs.declared.Report.{Report}
use Rattle.state.specs.State.{fresh}
use Rattle.state.specs.Order.{place, no_place, last_holder}
use Rattle.state.specs.Answers.{bare}
use Rattle.choice.specs.Choice.{top, runner, old_mark}
use Rattle.machine.specs.Machine.{release, choose, report}
use Rattle.listing.specs.Listing.{listing}
use Rattle.promise.specs.History.{written, Call, start, state_after}
use Rattle.promise.specs.Promise.{Passed}

-- two tables that differ in entries past the task count alone
pub record SameTasks (t u : Table) : Type 0 where
  pub full : t.full ≡ u.full
  pub round : t.round ≡ u.round
  pub count : t.count ≡ u.count
  pub tasks : (k : ℕ) → k < t.count → task_at t k ≡ task_at u k

pub record Cited : Type 0 where
  -- "Up(a, b) is a divided by b, rounded up": so many ticks cover the work, and no fewer do; "Up(0, b) = 0"
  pub up_covers : (a b : ℕ) → 0 < b → a ≤ up a b * b
  pub up_least : (a b n : ℕ) → a ≤ n * b → up a b ≤ n
  pub up_zero : (b : ℕ) → 1 ≤ b → up 0 b ≡ 0
  -- "nearer deadline first; equal deadlines by lower position"
  pub nearer_first : (now d e j k : ℕ) → j < 256 → distance now d < distance now e → place now d j < place now e k
  pub lower_first : (now d e j k : ℕ) → j < k → distance now d ≡ distance now e → place now d j < place now e k
  -- "Entries past the task count are not read."
  pub ceiling_same : (t u : Table) → SameTasks t u → (r : ℕ) → ceiling t r ≡ ceiling u r
  pub verdict_same : (t u : Table) → SameTasks t u → verdict t ≡ verdict u
  pub fresh_same : (t u : Table) → SameTasks t u → (now : Tick) → fresh t now ≡ fresh u now
  pub release_same : (t u : Table) → SameTasks t u → (s : State) (p : ℕ) → release t s p ≡ release u s p
  pub choose_same : (t u : Table) → SameTasks t u → (s : State) → choose t s ≡ choose u s
  pub report_same : (t u : Table) → SameTasks t u → (s : State) (said : Report) → report t s said ≡ report u s said
  -- "Every refusal leaves the state unchanged and returns no job, independent, speed 0, ending 0."
  pub release_refused : (t : Table) (s : State) (p : ℕ) → ((release t s p).number ≡ 0 → ⊥) → release t s p ≡ bare (release t s p).number s
  pub choose_refused : (t : Table) (s : State) → ((choose t s).number ≡ 0 → ⊥) → choose t s ≡ bare (choose t s).number s
  pub report_refused : (t : Table) (s : State) (said : Report) → ((report t s said).number ≡ 0 → ⊥) → report t s said ≡ bare (report t s said).number s
  -- in a history a mark that stands is the last in order among itself and the holders behind any place
  pub mark_stays : (t : Table) → Passed written t → (now : ℕ) → now < 2 ^ 32 → (calls : List Call) (m : Place) (run : ℕ) → let s = state_after written t (start written t now) calls in
      s.mark ≡ Some m → max (old_mark s) (last_holder s run) ≡ old_mark s
  -- and so it is among itself, a runner that is not top, and the holders behind that
  pub mark_stays_blocked : (t : Table) → Passed written t → (now : ℕ) → now < 2 ^ 32 → (calls : List Call) (m : Place) → let s = state_after written t (start written t now) calls in
      s.mark ≡ Some m → top s < no_place → (runner t s ≡ top s → ⊥) → max (old_mark s) (max (runner t s) (last_holder s (runner t s))) ≡ old_mark s
  -- a listing fits in the output
  pub listing_fits : (file : List ℕ) → length (listing file) ≤ 131072
