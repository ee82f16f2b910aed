use Rattle.std.proofs.Common.{ℕ}
use Rattle.units.proofs.Laws.Tests.{told_within}
use Rattle.admission.specs.Admission.{count_in_range}
use Rattle.admission.proofs.count_in_range.Goals as goal

pub returns : goal.returns
unfolding count_in_range
returns c = let n = c.new.ensures in told_within (λ (n : ℕ). n) 1 16 c.args.t.now.count c.contains.ensures.value n.start n.end n.exhausted
