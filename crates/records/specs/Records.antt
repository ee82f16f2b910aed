-- Which files are well-formed: "every byte not named zero"; "One setting first, then tasks, then events; at most 65,536 bytes."
use Rattle.std.specs.Prelude.{ℕ, ◌+◌, ◌-◌, ◌%◌, Bool, ◌&&◌, ◌||◌, not, cond, List, length, leb, eqb}
use Rattle.units.specs.Folds.{all, lowest}
use Rattle.records.specs.Bytes.{record_count, record_at, byte, zeros}

-- "Records of 32 bytes", "at most 65,536 bytes", and not "an empty file"
unfoldable pub sized : ℕ → Bool
sized n = leb 1 n && (leb n 65536 && eqb (n % 32) 0)

-- "1 setting (byte 1 F; 4-7 G; 8-11 starting tick)"
unfoldable pub is_setting : List ℕ → Bool
is_setting r = eqb (byte r 0) 1 && (zeros r 2 2 && zeros r 12 20)

-- "2 task (1 I; 2 S; 4-5 T; 6-7 D; 8-9 C; 16-31 limits)"
unfoldable pub is_task : List ℕ → Bool
is_task r = eqb (byte r 0) 2 && (zeros r 3 1 && zeros r 10 6)

-- "(1: 1 release, 2 tick; 2: position or report 0 carry on, 1 done, 2 take, 3 give; 3: resource for take, else 0)"
unfoldable pub event_fits : ℕ → ℕ → ℕ → Bool
event_fits kind said resource = cond (eqb kind 1) (eqb resource 0) (eqb kind 2 && (eqb said 2 || (leb said 3 && eqb resource 0)))

-- "3 event"
unfoldable pub is_event : List ℕ → Bool
is_event r = eqb (byte r 0) 3 && (zeros r 4 28 && event_fits (byte r 1) (byte r 2) (byte r 3))

-- how many tasks follow the setting
unfoldable pub task_count : List ℕ → ℕ
task_count file = lowest (λ k. not (is_task (record_at file (1 + k)))) (record_count file - 1)

-- where the events begin, and how many records there are from there on
abbrev pub first_event : List ℕ → ℕ
first_event file = 1 + task_count file

abbrev pub event_count : List ℕ → ℕ
event_count file = record_count file - first_event file

-- "Any other first byte, kind, report, order or length is malformed, as are a non-zero byte that should be zero and an empty file"
unfoldable pub well_formed : List ℕ → Bool
well_formed file =
    sized (length file) && (is_setting (record_at file 0) && all (λ k. is_event (record_at file (first_event file + k))) (event_count file))
