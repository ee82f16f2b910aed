use Rattle.admission.proofs.Laws.Blocking.{by_resource}
use Rattle.admission.proofs.blocking.block.Goals as goal

pub returns : goal.returns
returns c = by_resource _ _ _ _ 8 c.longest_of.ensures c.longest_on_each.ensures
