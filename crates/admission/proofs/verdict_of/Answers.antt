use Rattle.std.proofs.Common.{◌≡◌, length, sym, ◌∙◌, arith, rules}
use Rattle.std.proofs.lemmas.Result.{err_from_is_err_and}
use Rattle.units.proofs.Laws.Folds.{long}
use Rattle.admission.proofs.Laws.Ranges.{count_tells}
use Rattle.admission.proofs.Laws.Verdict.{says_count, says_setting}
use Rattle.admission.proofs.Laws.Slices.{own_ceilings, as_many, found_fault, found_independent, found_overload}
use Rattle.admission.proofs.verdict_of.Goals as goal

pub returns-then-not-count_in_range : goal.returns-then-not-count_in_range
returns-then-not-count_in_range c = says_count _ (sym c.count_in_range.ensures ∙ c.if-not-count_in_range.true)

pub returns-then-not-setting_in_range : goal.returns-then-not-setting_in_range
returns-then-not-setting_in_range c =
    says_setting _ (sym c.count_in_range.ensures ∙ c.if-not-count_in_range.false) (sym c.setting_in_range.ensures ∙ c.if-not-setting_in_range.true)

pub returns-in_err-first_fault : goal.returns-in_err-first_fault
returns-in_err-first_fault c =
    let t = c.args.t in
    let count = sym c.count_in_range.ensures ∙ c.if-not-count_in_range.false in
    let long : length t.tasks ≡ 16 = search (rules, long) in
    let fits = count_tells t count in
    let p = err_from_is_err_and c.from_residual.result c.from_residual.ensures.1 in
    rw (p.1, p.2) (found_fault t (omega arith) count (sym c.setting_in_range.ensures ∙ c.if-not-setting_in_range.false) (sym c.in_err-first_fault.was ∙ c.first_fault.ensures))

pub returns-then-from-independent_sum : goal.returns-then-from-independent_sum
returns-then-from-independent_sum c =
    let t = c.args.t in
    let count = sym c.count_in_range.ensures ∙ c.if-not-count_in_range.false in
    let long : length t.tasks ≡ 16 = search (rules, long) in
    let fits = count_tells t count in
    found_independent t (omega arith) count (sym c.setting_in_range.ensures ∙ c.if-not-setting_in_range.false) (sym c.in_ok-first_fault.was ∙ c.first_fault.ensures)
    c.independent_sum.ensures (omega arith)

pub first_overload-requires : goal.first_overload-requires
first_overload-requires c =
    let t = c.args.t in
    let long : length t.tasks ≡ 16 = search (rules, long) in
    let fits = count_tells t (sym c.count_in_range.ensures ∙ c.if-not-count_in_range.false) in
    let many = as_many t (omega arith) in
    (omega arith, c.ceilings.ensures ∙ own_ceilings t (omega arith))

pub returns : goal.returns
returns c =
    let t = c.args.t in
    let count = sym c.count_in_range.ensures ∙ c.if-not-count_in_range.false in
    let long : length t.tasks ≡ 16 = search (rules, long) in
    let fits = count_tells t count in
    found_overload t (omega arith) count (sym c.setting_in_range.ensures ∙ c.if-not-setting_in_range.false) (sym c.in_ok-first_fault.was ∙ c.first_fault.ensures)
    c.independent_sum.ensures (omega arith) c.first_overload.ensures
