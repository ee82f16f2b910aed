use Prim.Native.Nat.{ℕ, ◌<◌}
use mathlib.Core.Path.{◌≡◌, sym}
use borrow.Author.Tests.{ne_eqb}
use borrow.Author.Rules.{rules}
use Rattle.std.specs.Prelude.{Ok, Err}
use Rattle.table.specs.declared.Task.{Task}
use Rattle.state.specs.declared.Job.{Job}
use Rattle.state.specs.declared.Refusal.{Refusal}
use Rattle.state.specs.declared.Report.{Report}
use Rattle.state.specs.declared.Report.TheVariants.{Take}
use Rattle.state.specs.Answers.{refusal_number}
use Rattle.state.proofs.Laws.Answers.{refusal_some}
use Rattle.report.specs.declared.Outcome.{Outcome}
use Rattle.report.specs.Report.{objection, worked, settled}
use Rattle.report.proofs.Laws.Answers.{fair}
use Rattle.seen.specs.Seen.{told, reported}
use Rattle.reporter.proofs.reported.Goals as goal

-- with the number of the objection
module _ (task : Task) (j : Job) (held v : ℕ) (said : Report) where
  objects : (r : Refusal) → refusal_number r ≡ objection task j held said → told j (Err r) ≡ reported task j held v said
  unfolding reported
  objects r e = rw (← e, ne_eqb _ _ (refusal_some r))

  ends : (o : Outcome) (was : Job) → o ≡ settled task said was → was ≡ worked task v j → 0 ≡ objection task j held said → told j (Ok o) ≡ reported task j held v said
  unfolding reported
  ends o was g f n = rw (← n, ← f, ← g)

pub returns-in_err-objection : goal.returns-in_err-objection
returns-in_err-objection c = search (rules, objects)

pub returns : goal.returns
returns c = search (rules, ends)
