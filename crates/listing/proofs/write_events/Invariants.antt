use Rattle.listing.proofs.Laws.Events.{Paged}
use Rattle.listing.proofs.write_events.Given as goal

abbrev pub invariant-loop-k : goal.invariant-loop-k
invariant-loop-k l = Paged l.initial.out l.file l.table l.initial.state l.k l.out l.at l.state
