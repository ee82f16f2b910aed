use mathlib.Core.Path.{refl}
use Rattle.units.specs.Folds.{over, listed}
use Rattle.reporter.proofs.endings.ended.Goals as goal

pub returns : goal.returns
unfolding listed over
returns c = refl
