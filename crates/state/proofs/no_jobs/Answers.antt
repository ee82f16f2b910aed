use Rattle.std.proofs.Common.{rules, arith, refl}
use Rattle.units.specs.Folds.{over, listed}
use Rattle.state.proofs.Laws.Fresh.{none_again}
use Rattle.state.proofs.no_jobs.Goals as goal

pub returns : goal.returns
unfolding listed over
returns c = none_again c.min.result (omega arith) refl (c.fill.ensures.after (λ y e. search rules))
