use Rattle.std.proofs.Common.{rules, ◌∙◌, eqb}
use borrow.Author.Tests.{tests}
use Rattle.std.proofs.lemmas.Iterator.{YieldsList-from_slice}
use Rattle.std.proofs.lemmas.Iterator.Search.{any_from_yields_List}
use Rattle.state.specs.Stack.{in_use}
use Rattle.state.proofs.Laws.Stacks.{any_in_use}
use Rattle.state.proofs.Stack.holds.Goals as goal

pub returns : goal.returns
returns c =
    any_from_yields_List (λ x. eqb c.args.resource x.resource) _ _ _ c.any.ensures.ran (YieldsList-from_slice (in_use c.args.self.now) (search rules)) (λ x b q k. search (rules, tests))
    ∙ any_in_use c.args.self.now _
