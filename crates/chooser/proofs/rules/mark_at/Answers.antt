use Prim.Native.Nat.{◌/◌}
use Rattle.units.proofs.Laws.Clock.{after_turns}
use Rattle.choice.specs.Choice.{mark_at}
use Rattle.chooser.proofs.rules.mark_at.Goals as goal

pub returns : goal.returns
unfolding mark_at
returns c = rw (c.position.ensures, c.ahead-deadline.ensures, after_turns c.args.now.0 (c.args.place / 256))
