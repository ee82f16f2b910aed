use Rattle.state.proofs.Laws.Fresh.{at_passing, at_fault, fresh_found}
use Rattle.state.proofs.State.fresh.Goals as goal
use Rattle.state.proofs.State.fresh.Goals.{in-Ok, in-Err}

pub returns : goal.returns
returns c = fresh_found _ _ (elim c.match-verdict.branch [ in-Ok w ↦ at_passing c.args.table _ w.in-Ok.is w.now-is | in-Err w ↦ at_fault c.args.table _ w.in-Err.is w.now-is ]) c.no_jobs-jobs.ensures c.verdict_of-verdict.ensures
