use Rattle.std.proofs.Common.{◌≤◌, ◌↔◌, rules, arith, le-leb, leb-true, slice_index_or}
use Rattle.std.specs.Prelude.{EachIndex, IsTrue}
use Rattle.units.specs.Amounts.{steps}
use Rattle.units.proofs.Laws.Folds.{all_told}
use Rattle.admission.proofs.ranges.limits_in_range.Goals as goal

pub returns : goal.returns
returns c =
    let l = c.args.task.limits in
    let e : IsTrue c.all.result ↔ EachIndex l (λ k. (slice_index_or l k (steps 0)).0 ≤ c.args.task.budget.0) = search rules in
    all_told _ 8 (λ h k m. le-leb _ _ (e.0 h k (omega arith))) (λ h. e.1 (λ k m. leb-true _ _ (h k (omega arith))))
