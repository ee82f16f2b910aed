use Rattle.units.specs.Folds.{over, listed}
use Rattle.machine.proofs.parts.released.Goals as goal

pub returns : goal.returns
unfolding listed over
returns c = rw c.after.ensures
