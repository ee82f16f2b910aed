use Rattle.units.proofs.Laws.Tests.{tests}
use Rattle.seen.specs.Seen.{is_free}
use Rattle.checker.proofs.turns.is_free.Goals as goal

pub returns-then-found-eq0 : goal.returns-then-found-eq0
unfolding is_free
returns-then-found-eq0 c = search tests

pub returns-else-found-eq0 : goal.returns-else-found-eq0
unfolding is_free
returns-else-found-eq0 c = search tests
