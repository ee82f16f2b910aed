use Rattle.seen.proofs.Laws.Walk.{pass_none, pass_unfit, pass_in_use, pass_taken, pass_next, pass_past, pass_end}
use Rattle.checker.proofs.walks.walk.Goals as goal
use Rattle.checker.proofs.walks.walk.Goals.{then-k-table+else-not-fits+else-is_taken, else-k-table+else-not-unused}

pub loop-k-init : goal.loop-k-init
loop-k-init c = pass_none _ _

pub returns-then-not-fits : goal.returns-then-not-fits
returns-then-not-fits c = search pass_unfit

pub returns-then-is_taken : goal.returns-then-is_taken
returns-then-is_taken c = search pass_taken

pub returns-then-not-unused : goal.returns-then-not-unused
returns-then-not-unused c = search pass_in_use

pub loop-k-preserved : goal.loop-k-preserved
loop-k-preserved c = elim c.if-k-table.branch [ then-k-table+else-not-fits+else-is_taken w ↦ search pass_next | else-k-table+else-not-unused w ↦ search pass_past ]

pub returns : goal.returns
returns c = search pass_end
