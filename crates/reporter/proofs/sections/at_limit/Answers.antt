use Rattle.std.proofs.Common.{rules, tests, ◌∙◌, eqb}
use Rattle.std.proofs.lemmas.Iterator.{YieldsList-from_slice}
use Rattle.std.proofs.lemmas.Iterator.Search.{any_from_yields_List}
use Rattle.table.specs.Table.{limit}
use Rattle.state.specs.Stack.{in_use}
use Rattle.state.proofs.Laws.Stacks.{any_in_use}
use Rattle.reporter.proofs.sections.at_limit.Goals as goal

pub returns : goal.returns
returns c =
    any_from_yields_List (λ x. eqb x.steps.0 (limit c.args.task x.resource)) _ _ _ c.any.ensures.ran (YieldsList-from_slice (in_use c.args.held) (search rules)) (λ x b q k. search (rules, tests))
    ∙ any_in_use c.args.held _
