use Rattle.listing.specs.Listing.{step}
use Rattle.listing.proofs.steps.step.Goals as goal

pub returns-in-Release : goal.returns-in-Release
unfolding step
returns-in-Release c = rw c.in-Release.is c.release.ensures
