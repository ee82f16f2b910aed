use Rattle.seen.proofs.Laws.Walk.{Passing}
use Rattle.checker.proofs.walks.walk.Given as goal

abbrev pub invariant-loop-k : goal.invariant-loop-k
invariant-loop-k l = Passing l.table l.fn.state l.seen l.k
