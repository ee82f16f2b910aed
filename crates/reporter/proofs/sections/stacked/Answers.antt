use Rattle.std.proofs.Common.{rules}
use Rattle.units.proofs.Laws.Folds.{long}
use Rattle.reporter.proofs.Laws.{stack_emptied}
use Rattle.reporter.proofs.sections.stacked.Goals as goal

pub returns : goal.returns
returns c = stack_emptied c.args.sections c.min.result c.args.depth (search (rules, long)) (rw c.from.ensures at c.min.ensures) (c.fill.ensures.after (λ y e. search rules))
