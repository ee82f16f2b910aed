-- The tables of the ponds, and the events of P5 and of a mark that is left.
use Rattle.std.specs.Prelude.{ℕ, List, [], ◌∷◌, ◌++◌, map}
use Rattle.units.specs.Amounts.{ticks, steps}
use Rattle.units.specs.Folds.{listed}
use Rattle.table.specs.declared.Task.{Task}
use Rattle.table.specs.declared.Table.{Table}
use Rattle.state.specs.declared.Report.TheVariants.{Take, Done}
use Rattle.records.specs.declared.Event.{Event}
use Rattle.ponds.specs.Runs.{release, tick, carry}

-- a task with T = D: (D, C, I, S) and its limits on resources 0 and 1
abbrev pub task : ℕ → ℕ → ℕ → ℕ → ℕ → ℕ → Task
task d c i s r0 r1 = record {
  period = ticks d;
  deadline = ticks d;
  budget = steps c;
  independent = i;
  synchronization = s;
  limits = map steps (r0 ∷ r1 ∷ 0 ∷ 0 ∷ 0 ∷ 0 ∷ 0 ∷ 0 ∷ []);
}

-- F, G, the count, and the entries up to it: those past it are not read
abbrev pub table : ℕ → ℕ → ℕ → List Task → Table
table f g n tasks = record { full = f; round = g; count = n; tasks = tasks }

-- "P1: document 003's three tasks, times × 4. F 5, G 240, T = D; (D, C, I, S): (20, 40, 4, 5), (60, 60, 4, 4), (80, 80, 4, 4). Limits, resource 0: 10, 60, 0; resource 1: 0, 10, 20.",
-- with G, and I and S of position 0, to be chosen
abbrev pub p1 : ℕ → ℕ → ℕ → Table
p1 g i s = table 5 g 3 (task 20 40 i s 10 0 ∷ task 60 60 4 4 60 10 ∷ task 80 80 4 4 0 20 ∷ [])

abbrev pub p3 : Table
p3 = p1 240 4 4

-- "P5: F 6, G 280, T = D; (D, C, I, S): (10, 6, 1, 6), (10, 18, 6, 6), (14, 6, 6, 6), (280, 48, 6, 6); resource 0 limits 0, 0, 6, 42."
abbrev pub p5 : Table
p5 = table 6 280 4 (task 10 6 1 6 0 0 ∷ task 10 18 6 6 0 0 ∷ task 14 6 6 6 6 0 ∷ task 280 48 6 6 42 0 ∷ [])

-- 01's listing: "F 2, G 20; position 0: T = D = 10, C 2, I 1, S 2, resource 0 limit 2; position 1: T = D = 20, C 8, I 1, S 2, resource 0 limit 4"
abbrev pub two : Table
two = table 2 20 2 (task 10 2 1 2 2 0 ∷ task 20 8 1 2 4 0 ∷ [])

-- for P6: released together, position 0 has the nearer deadline
abbrev pub p6 : Table
p6 = table 1 10 2 (task 5 1 1 1 0 0 ∷ task 10 1 1 1 0 0 ∷ [])

-- for P7: the ceiling of resource 0 is 10, by position 2; position 1 has a D of 10 too and does not take it, and position 0 has one of 9
abbrev pub p7 : Table
p7 = table 4 90 4 (task 9 1 1 4 0 0 ∷ task 10 1 1 4 0 0 ∷ task 10 1 1 4 1 0 ∷ task 90 8 1 4 8 0 ∷ [])

-- for P8: T 7 and D 5
abbrev pub p8 : Table
p8 = table 1 5 1 (record { period = ticks 7; deadline = ticks 5; budget = steps 1; independent = 1; synchronization = 1; limits = listed (λ r. steps 0) 8 } ∷ [])

-- Ask 1's pump, position 1: resource 0 is its meter, of 6 steps, and resource 1 its valve, of 3, which position 0 takes too
abbrev pub pump : Table
pump = table 2 20 2 (task 10 2 1 2 0 2 ∷ task 20 10 1 2 6 3 ∷ [])

-- a task that may take each of the eight resources
abbrev pub eight : Table
eight = table 1 20 1 (record { period = ticks 20; deadline = ticks 20; budget = steps 10; independent = 1; synchronization = 1; limits = listed (λ r. steps 9) 8 } ∷ [])

-- P5's events: "Position 3 released at 0 takes resource 0 at its first report; positions 0 and 1 released at 1 and 11, position 2 at 7; all use whole budgets.":
-- up to tick 7, and from the release of position 2 on with n ticks after tick 10
abbrev pub p5_before : List Event
p5_before = (release 3 ∷ tick (Take 0) ∷ release 0 ∷ release 1 ∷ []) ++ carry 6

abbrev pub p5_later : ℕ → List Event
p5_later n = carry 4 ++ ((release 0 ∷ release 1 ∷ []) ++ carry n)

-- of P7: position 3 takes resource 0, blocks position 1 in tick 1, and is marked; then both are done, and the mark is left, 87 ticks ahead
abbrev pub mark_left : List Event
mark_left = release 3 ∷ tick (Take 0) ∷ release 1 ∷ tick Done ∷ tick Done ∷ []
