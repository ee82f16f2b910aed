use Rattle.std.proofs.Common.{◌∙◌, ap, rules}
use Rattle.units.specs.Folds.{first, lowest}
use Rattle.units.specs.Sets.{has}
use Rattle.table.specs.Table.{ceiling}
use Rattle.table.proofs.Table.ceiling.Goals as goal

pub returns : goal.returns
unfolding ceiling first
returns c =
    let user = c.lowest-lowest.ensures ∙ ap (λ m. lowest (has m) 16) c.users.ensures in
    search rules
