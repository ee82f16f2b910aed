-- The admission test: which of the answers 0 and 2 to 8 a table gets.
use Rattle.std.specs.Prelude.{ℕ, zero, suc, ◌+◌, ◌*◌, ◌/◌, ◌%◌, Bool, not, ◌&&◌, cond, ltb, leb, eqb, Err, List, length}
use Rattle.units.specs.Amounts.{up, given}
use Rattle.units.specs.Folds.{sum, largest, all, first}
use Rattle.verdict.specs.declared.Fault.TheVariants.{Count, Setting, Range, Divisor, Order, Independent, Synchronization}
use Rattle.verdict.specs.Verdict.{Verdict, passing, answer}
use Rattle.table.specs.declared.Task.{Task}
use Rattle.table.specs.declared.Table.{Table}
use Rattle.table.specs.Table.{task_at, D, C, I, S, limit, ceiling}

-- "Up(C, I) × (G/D)": the ticks that some work takes at some speed in a round, once in each D
unfoldable pub ticks_in_round : ℕ → ℕ → ℕ → ℕ → ℕ
ticks_in_round work speed g d = up work (given speed) * (g / d)

-- the table of these settings and tasks
abbrev pub of_tasks : ℕ → ℕ → List Task → Table
of_tasks full g tasks = record { full = full; round = g; count = length tasks; tasks = tasks }

-- "Independent: the sum over all positions of Up(C, I) × (G/D)"
unfoldable pub independent_sum : Table → ℕ
independent_sum t = sum (λ k. ticks_in_round (C t k) (I t k) t.round (D t k)) t.count

-- "B is the largest section limit of any task with D greater than that of i, on a resource whose ceiling is at most D of i; 0 if there is none."
unfoldable pub B : Table → ℕ → ℕ
B t i = largest (λ j. ltb (D t i) (D t j)) (λ j. largest (λ r. leb (ceiling t r) (D t i)) (limit (task_at t j)) 8) t.count

-- "Synchronization, for each position i: Up(B, S of i) × (G/D of i), plus the sum over positions 0 to i of Up(C, S) × (G/D)"
unfoldable pub synchronization_sum : Table → ℕ → ℕ
synchronization_sum t i = ticks_in_round (B t i) (S t i) t.round (D t i) + sum (λ k. ticks_in_round (C t k) (S t k) t.round (D t k)) (i + 1)

-- 2: "task count not 1 to 16"
unfoldable pub count_in_range : Table → Bool
count_in_range t = leb 1 t.count && leb t.count 16

-- 3: "F or G out of range": "1 to 64", "1 to 1,000,000"
unfoldable pub setting_in_range : Table → Bool
setting_in_range t = leb 1 t.full && leb t.full 64 && leb 1 t.round && leb t.round 1000000

-- 4: "a number of this task out of range, D not dividing G excepted": "1 ≤ D ≤ T ≤ 65,535"; C "1 to 65,535"; "1 ≤ I ≤ S ≤ F"; each limit "0 to C"
unfoldable pub in_range : ℕ → Task → Bool
in_range full task =
    leb 1 task.deadline.0 && leb task.deadline.0 task.period.0 && leb task.period.0 65535
    && leb 1 task.budget.0 && leb task.budget.0 65535
    && leb 1 task.independent && leb task.independent task.synchronization && leb task.synchronization full
    && all (λ r. leb (limit task r) task.budget.0) 8

-- of a task at k, after one whose D is `before`: 4, then 5, "D does not divide G", then 6, "D smaller than that of the position before"
unfoldable pub fault : ℕ → ℕ → ℕ → Task → ℕ → Verdict
fault full round before task k =
    cond (not (in_range full task)) (Err (Range k))
    (cond (not (eqb (round % task.deadline.0) 0)) (Err (Divisor k))
    (cond (ltb task.deadline.0 before) (Err (Order k)) passing))

-- D of "the position before"; 0 before the first
abbrev pub previous : Table → ℕ → ℕ
previous t zero = 0
previous t (suc k) = D t k

-- "faulty position": one with such a fault
unfoldable pub fault_at : Table → ℕ → Verdict
fault_at t k = fault t.full t.round (previous t k) (task_at t k) k

unfoldable pub faulty : Table → ℕ → Bool
faulty t k = not (eqb (answer (fault_at t k)).0 0)

-- 7: "independent sum above G"; 8: "synchronization sum above G; smallest such position named"
unfoldable pub overloaded : Table → ℕ → Bool
overloaded t i = ltb t.round (synchronization_sum t i)

unfoldable pub sums : Table → Verdict
sums t = cond (ltb t.round (independent_sum t)) (Err Independent) (first (overloaded t) (λ i. Err (Synchronization i)) passing t.count)

-- "Order for a table: 2, 3, then for the lowest faulty position 4, 5, 6, then 7, 8."
unfoldable pub verdict : Table → Verdict
verdict t =
    cond (not (count_in_range t)) (Err Count) (cond (not (setting_in_range t)) (Err Setting) (first (faulty t) (fault_at t) (sums t) t.count))
