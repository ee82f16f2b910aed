use mathlib.Core.Path.{◌≡◌}
use Rattle.state.specs.Stack.{section_at}
use Rattle.reporter.proofs.Laws.{first_placed}
use Rattle.report.specs.Report.{risen}
use Rattle.reporter.proofs.sections.held_on.Given as goal

abbrev pub invariant-loop-i : goal.invariant-loop-i
invariant-loop-i l = l.next ≡ record { depth = l.fn.held.depth; sections = first_placed (λ i. risen l.task l.speed (section_at l.fn.held i)) l.i }
