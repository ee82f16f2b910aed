use Rattle.std.proofs.Common.{rules}
use Rattle.units.proofs.Laws.Folds.{long}
use Rattle.state.proofs.Laws.Stacks.{lent_in_use}
use Rattle.state.proofs.Stack.in_use.Goals as goal

pub returns : goal.returns
returns c = lent_in_use c.args.self.now (search (rules, long)) _ c.min-depth.ensures
