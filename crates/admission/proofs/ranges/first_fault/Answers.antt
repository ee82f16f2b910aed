use mathlib.Core.Path.{refl, sym, ◌∙◌}
use native.Mathlib.Numerals.{add-one}
use native.Mathlib.Omega.{arith}
use Rattle.std.proofs.lemmas.Result.{err_from_is_err_and}
use Rattle.units.specs.Folds.{over, lowest}
use Rattle.admission.specs.Admission.{of_tasks}
use Rattle.admission.proofs.Laws.Ranges.{walk_stops, walk_on}
use Rattle.admission.proofs.Laws.Verdict.{first_past}
use Rattle.admission.proofs.ranges.first_fault.Goals as goal

pub loop-k-init : goal.loop-k-init
unfolding lowest over
loop-k-init c = (omega arith, refl, refl)

pub returns-in_err-fault_of : goal.returns-in_err-fault_of
returns-in_err-fault_of c =
    let a = c.args in
    let p = err_from_is_err_and c.from_residual.result c.from_residual.ensures.1 in
    let i = c.loop-k.invariant in
    rw (p.1, p.2) (walk_stops (of_tasks a.full a.round a.tasks.now) c.loop-k.k i.1 i.2 (sym c.in_err-fault_of.was ∙ c.fault_of.ensures) (omega arith))

pub loop-k-preserved : goal.loop-k-preserved
loop-k-preserved c =
    let a = c.args in
    let i = c.loop-k.invariant in
    (omega arith, rw add-one, walk_on (of_tasks a.full a.round a.tasks.now) c.loop-k.k i.1 i.2 (sym c.in_ok-fault_of.was ∙ c.fault_of.ensures))

pub returns : goal.returns
returns c = search first_past
