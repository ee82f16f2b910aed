use mathlib.Core.Path.{refl, sym}
use Rattle.units.proofs.Laws.Tests.{told, tests}
use Rattle.units.proofs.Laws.Folds.{long}
use Rattle.state.proofs.Laws.Answers.{refusal_some}
use Rattle.seen.proofs.Laws.Examined.{faulty, unfit}
use Rattle.machine.proofs.Laws.Calls.{report_9}
use Rattle.machine.proofs.Laws.Found.{found_below, found_number, found_late, found_closed}
use borrow.Author.Rules.{rules}
use Rattle.machine.proofs.report.Goals as goal

pub returns-in_err-verdict_of : goal.returns-in_err-verdict_of
returns-in_err-verdict_of c = search (rules, told, report_9, faulty)

pub returns-in_err-found : goal.returns-in_err-found
returns-in_err-found c =
    let bad = unfit _ _ c.examine.ensures c.in_err-found.ensures.ok_part in
    search (rules, told, report_9)

pub reported-requires : goal.reported-requires
reported-requires c = found_below _ _ c.in_ok-verdict_of.ensures c.examine.ensures c.in_ok-found.ensures.ok_part

pub returns-in_err-after : goal.returns-in_err-after
returns-in_err-after c =
    let refused = found_number _ _ c.in_ok-verdict_of.ensures c.examine.ensures c.in_ok-found.ensures.ok_part _ c.in_err-after.ensures c.runner_position-p.ensures (search tests) (search (rules, long)) (search rules) (refusal_some _) in
    search (rules, refused)

pub returns-then-late : goal.returns-then-late
returns-then-late c = sym (found_late _ _ c.in_ok-verdict_of.ensures c.examine.ensures c.in_ok-found.ensures.ok_part _ c.in_ok-after.ensures c.runner_position-p.ensures (search tests) (search (rules, long)) (search rules) refl c.late.ensures c.if-late.true)

pub returns : goal.returns
returns c = rw c.closed.ensures (sym (found_closed _ _ c.in_ok-verdict_of.ensures c.examine.ensures c.in_ok-found.ensures.ok_part _ c.in_ok-after.ensures c.runner_position-p.ensures (search tests) (search (rules, long)) (search rules) refl c.late.ensures c.if-late.false))
