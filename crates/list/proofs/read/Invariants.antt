use Rattle.std.proofs.Common.{◌≤◌, length}
use Rattle.list.proofs.read.Given as goal

abbrev pub invariant-loop-turn : goal.invariant-loop-turn
invariant-loop-turn g l = l.end ≤ length l.buffer
