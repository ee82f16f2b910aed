use Rattle.std.proofs.Common.{rules, tests, ◌∙◌}
use Rattle.std.proofs.lemmas.Iterator.{YieldsList-from_slice}
use Rattle.std.proofs.lemmas.Iterator.Search.{any_from_yields_List}
use Rattle.units.specs.Sets.{has}
use Rattle.state.specs.Stack.{in_use}
use Rattle.state.proofs.Laws.Stacks.{any_in_use}
use Rattle.checker.proofs.jobs.is_taken.Goals as goal

pub returns : goal.returns
returns c =
    any_from_yields_List (λ x. has c.args.set x.resource) _ _ _ c.any.ensures.ran (YieldsList-from_slice (in_use c.args.held.now) (search rules)) (λ x b q k. search (rules, tests))
    ∙ any_in_use c.args.held.now _
