use mathlib.Core.Path.{refl}
use native.Mathlib.Omega.{arith}
use Rattle.units.specs.Folds.{over}
use Rattle.lines.proofs.Laws.Following.{begins_none}
use Rattle.listing.specs.Listing.{page}
use Rattle.listing.proofs.Laws.Events.{followed}
use Rattle.listing.proofs.write_events.Goals as goal

pub loop-k-init : goal.loop-k-init
unfolding page over
loop-k-init c = (omega arith, refl, begins_none _)

pub loop-k-preserved : goal.loop-k-preserved
loop-k-preserved c = search followed
