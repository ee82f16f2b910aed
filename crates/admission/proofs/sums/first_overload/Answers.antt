use Rattle.std.proofs.Common.{arith}
use Rattle.admission.specs.Admission.{of_tasks}
use Rattle.admission.proofs.Laws.Blocking.{found_block}
use Rattle.admission.proofs.Laws.Sums.{summed_none, summed_above, summed_next, summed_end}
use Rattle.admission.proofs.sums.first_overload.Goals as goal

pub loop-i-init : goal.loop-i-init
loop-i-init c = summed_none _

pub returns-then-from-block : goal.returns-then-from-block
returns-then-from-block c =
    let t = of_tasks 0 c.args.round c.args.tasks.now in
    let l = c.loop-i in
    let block = found_block t l.i c.requires.1 c.block-longest.ensures in
    summed_above t l.invariant c.ticks_in_round-own.ensures.0 block c.ticks_in_round-block.ensures.0 (omega arith) (omega arith)

pub loop-i-preserved : goal.loop-i-preserved
loop-i-preserved c =
    let t = of_tasks 0 c.args.round c.args.tasks.now in
    let l = c.loop-i in
    let block = found_block t l.i c.requires.1 c.block-longest.ensures in
    summed_next t l.invariant c.ticks_in_round-own.ensures.0 block c.ticks_in_round-block.ensures.0 (omega arith) (omega arith) c.ticks_in_round-own.ensures.1

pub returns : goal.returns
returns c = summed_end _ c.loop-i.invariant (omega arith)
