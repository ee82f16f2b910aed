use Rattle.state.specs.Order.{place}
use Rattle.chooser.proofs.order.place.Goals as goal

pub returns : goal.returns
unfolding place
returns c = rw c.distance.ensures
