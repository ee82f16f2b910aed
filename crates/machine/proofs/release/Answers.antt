use Rattle.std.proofs.Common.{ltb-false}
use mathlib.Core.Path.{sym, ◌∙◌}
use borrow.Author.Rules.{rules}
use Rattle.units.proofs.Laws.Tests.{told, tested, told_lt}
use Rattle.seen.proofs.Laws.Examined.{faulty, unfit, fit}
use Rattle.machine.proofs.Laws.Calls.{release_9, release_11, release_10}
use Rattle.machine.proofs.Laws.Found.{found_place, found_free}
use Rattle.machine.proofs.release.Goals as goal

pub returns-in_err-verdict_of : goal.returns-in_err-verdict_of
returns-in_err-verdict_of c = search (rules, told, release_9, faulty)

pub returns-in_err-ok_or : goal.returns-in_err-ok_or
returns-in_err-ok_or c =
    let bad = unfit _ _ c.examine.ensures c.in_err-ok_or.ensures.ok_part in
    search (rules, told, release_9)

pub returns-then-mid_tick : goal.returns-then-mid_tick
returns-then-mid_tick c =
    let good = fit _ _ c.examine.ensures c.in_ok-ok_or.ensures.ok_part c.in_ok-verdict_of.ensures in
    search (told, release_11)

pub returns-then-table-position : goal.returns-then-table-position
returns-then-table-position c =
    let good = fit _ _ c.examine.ensures c.in_ok-ok_or.ensures.ok_part c.in_ok-verdict_of.ensures in
    search (told, release_10)

pub job_at-job-requires : goal.job_at-job-requires
job_at-job-requires c = found_place _ c.in_ok-verdict_of.ensures c.if-table-position.false

pub task_at-task-requires : goal.task_at-task-requires
task_at-task-requires c = found_place _ c.in_ok-verdict_of.ensures c.if-table-position.false

pub returns : goal.returns
returns c =
    let good = fit _ _ c.examine.ensures c.in_ok-ok_or.ensures.ok_part c.in_ok-verdict_of.ensures in
    let between = tested c.mid_tick.ensures c.if-mid_tick.false in
    let free = ltb-false _ _ (told_lt 0 c.job_at-job.result.wait.0 c.lt.ensures c.if-lt.false) in
    let next = found_free _ _ _ good between c.if-table-position.false c.job_at-job.ensures free c.released-next.ensures c.task_at-task.ensures in
    c.bare.ensures ∙ rw c.with_job.ensures (sym next)
