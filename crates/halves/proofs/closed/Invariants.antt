use mathlib.Core.Path.{◌≡◌}
use Rattle.report.specs.Report.{waited}
use Rattle.units.proofs.Laws.Lists.{part}
use Rattle.halves.proofs.closed.Given as goal

abbrev pub invariant-loop-next : goal.invariant-loop-next
invariant-loop-next l = l.next-items ≡ part waited l.next-index l.initial.next-items
