use mathlib.Core.Path.{◌≡◌, refl, ◌∙◌}
use borrow.Author.Tests.{ne_eqb}
use Rattle.std.specs.Prelude.{Ok, Err, Result}
use Rattle.state.specs.declared.State.{State}
use Rattle.state.specs.declared.Success.{Success}
use Rattle.state.specs.declared.Refusal.{Refusal}
use Rattle.state.specs.Answers.{told}
use Rattle.state.proofs.Laws.Answers.{refusal_some}
use Rattle.listing.specs.Listing.{ticked, step}
use Rattle.listing.proofs.steps.tick.Goals as goal

-- the state that a refused half was called on is not shown
ticked-same : (s h : State) (x : Result Success Refusal) → ticked s (told s x) ≡ ticked s (told h x)
ticked-same s h (Ok a) = refl
ticked-same s h (Err r) = rw (ne_eqb _ _ (refusal_some r))

pub returns-in-Ok : goal.returns-in-Ok
unfolding step
returns-in-Ok c = rw (← c.in-Ok.ensures, ← c.report.ensures) (c.ticked.ensures ∙ ticked-same _ _ _)

pub returns-in-Err : goal.returns-in-Err
unfolding step
returns-in-Err c = rw (← c.in-Err.ensures, ne_eqb _ _ (refusal_some c.in-Err.refusal)) c.ticked-in-Err.ensures
