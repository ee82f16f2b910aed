use Rattle.units.proofs.Laws.Tests.{tests}
use Rattle.seen.specs.Seen.{run_by}
use Rattle.chooser.proofs.runner.run_place.Goals as goal

pub returns-then-barred : goal.returns-then-barred
unfolding run_by
returns-then-barred c = search tests

pub returns : goal.returns
unfolding run_by
returns c = search tests
