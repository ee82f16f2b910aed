use borrow.Author.Rules.{rules}
use Rattle.units.proofs.Laws.Tests.{told}
use Rattle.seen.proofs.Laws.Examined.{faulty, unfit, fit}
use Rattle.machine.proofs.Laws.Calls.{choose_9, choose_11}
use Rattle.machine.proofs.Laws.Found.{found_choice}
use Rattle.machine.proofs.choose.Goals as goal

pub returns-in_err-verdict_of : goal.returns-in_err-verdict_of
returns-in_err-verdict_of c = search (rules, told, choose_9, faulty)

pub returns-in_err-found : goal.returns-in_err-found
returns-in_err-found c =
    let bad = unfit _ _ c.examine.ensures c.in_err-found.ensures.ok_part in
    search (rules, told, choose_9)

pub returns-then-mid_tick : goal.returns-then-mid_tick
returns-then-mid_tick c =
    let good = fit _ _ c.examine.ensures c.in_ok-found.ensures.ok_part c.in_ok-verdict_of.ensures in
    search (told, choose_11)

pub returns : goal.returns
returns c = found_choice _ _ c.in_ok-verdict_of.ensures c.examine.ensures c.in_ok-found.ensures.ok_part _ c.in_mid_tick.ensures c.mid_tick.ensures c.if-mid_tick.false
