use Rattle.admission.specs.Admission.{fault}
use Rattle.admission.proofs.Laws.Ranges.{divides_by}
use Rattle.units.proofs.Laws.Tests.{tests, told_lt}
use Rattle.admission.proofs.ranges.fault_of.Goals as goal

pub returns-then-not-in_range : goal.returns-then-not-in_range
unfolding fault
returns-then-not-in_range c = search tests

pub nonzero_rem-round : goal.nonzero_rem-round
nonzero_rem-round c = rw c.from.ensures (search divides_by)

pub returns-then-round-from-ne0 : goal.returns-then-round-from-ne0
unfolding fault
returns-then-round-from-ne0 c =
    let no = rw c.from.ensures at c.if-round-from-ne0.true in
    search tests

pub returns-then-lt : goal.returns-then-lt
unfolding fault
returns-then-lt c =
    let divides = rw c.from.ensures at c.if-round-from-ne0.false in
    let behind = told_lt c.args.task.deadline.0 c.args.previous.0 c.lt.ensures c.if-lt.true in
    search tests

pub returns : goal.returns
unfolding fault
returns c =
    let divides = rw c.from.ensures at c.if-round-from-ne0.false in
    let behind = told_lt c.args.task.deadline.0 c.args.previous.0 c.lt.ensures c.if-lt.false in
    search tests
