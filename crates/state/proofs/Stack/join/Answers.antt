use Rattle.std.proofs.Common.{rules, ◌≡◌, ◌∙◌}
use Rattle.std.specs.List.{fold}
use Rattle.units.specs.Sets.{with}
use Rattle.state.specs.Stack.{in_use}
use Rattle.state.proofs.Laws.Stacks.{fold_in_use}
use Rattle.state.proofs.Stack.join.Goals as goal

pub returns : goal.returns
returns c =
    let gathered : c.fold.result ≡ fold (λ m x. with m x.resource) c.args.set (in_use c.args.self.now) = search rules in
    gathered ∙ fold_in_use c.args.self.now _ _
