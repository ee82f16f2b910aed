-- Each rule, over what a function finds on its way (a variant, a number that another function gives): where `search` goes on to the tests. Assumes nothing.
use Prim.Native.Nat.{ℕ, ◌+◌, ◌-◌}
use mathlib.Core.Path.{◌≡◌}
use mathlib.Core.Bool.{Bool, not, ◌&&◌}
use lib.Dec.{ltb, leb, eqb}
use Rattle.units.specs.declared.Steps.{Steps}
use Rattle.units.specs.Amounts.{steps}
use Rattle.units.specs.Clock.{distance}
use Rattle.units.specs.Folds.{some}
use Rattle.verdict.specs.Verdict.{Verdict, answer}
use Rattle.table.specs.declared.Task.{Task}
use Rattle.table.specs.declared.Table.{Table}
use Rattle.table.specs.Table.{limit}
use Rattle.admission.specs.Admission.{verdict}
use Rattle.state.specs.declared.Job.{Job}
use Rattle.state.specs.declared.Stack.{Stack}
use Rattle.state.specs.Stack.{section_at}
use Rattle.state.specs.State.{passes}
use Rattle.consistency.specs.Consistency.{pending_fits, section_fits}

pub found_passes : (t : Table) {v : Verdict} {n : ℕ} {r : Bool} → v ≡ verdict t → n ≡ (answer v).0 → eqb n 0 ≡ r → passes t ≡ r
unfolding passes
found_passes t e f h = rw (← e, ← f) h

-- ---- a job

pub found_pending : (task : Task) (now : ℕ) (j : Job) {ahead rest : ℕ} {r : Bool} → ahead ≡ distance now j.deadline.0 → rest ≡ task.period.0 - task.deadline.0
    → r ≡ (ltb j.used.0 task.budget.0 && (leb 1 ahead && (leb ahead task.deadline.0 && eqb j.wait.0 (ahead + rest)))) → r ≡ pending_fits task now j
unfolding pending_fits
found_pending task now j e f h = rw (← e, ← f) h

pub found_section : (task : Task) (h : Stack) (i : ℕ) {l : Steps} {r : Bool} → l ≡ steps (limit task (section_at h i).resource)
    → r ≡ (ltb 0 l.0 && (ltb (section_at h i).steps.0 l.0 && not (some (λ m. eqb (section_at h m).resource (section_at h i).resource) i)))
    → r ≡ section_fits task h i
found_section task h i e g = rw e at g
