-- Each claim by its own proof. Assumes nothing.
use mathlib.Core.Path.{refl}
use Rattle.promise.proofs.Promise.{promise}
use Rattle.ponds.proofs.Computed.{worked, first-tick, shown, broken, ruled_out}
use Rattle.firm.specs.Claims.{Claims}
use Rattle.firm.proofs.Single.{single}
use Rattle.firm.proofs.Machines.{same, meets, whole, ours}
use Rattle.firm.proofs.Refuted.{refuted}
use Rattle.firm.proofs.Silly.{none_keeps}
use Rattle.firm.proofs.Wrong.{wrong}
use Rattle.firm.proofs.Open.{determined}
use Rattle.firm.proofs.Listed.{as_listed}

pub claims : Claims
claims = record {
  promise = promise;
  single = single;
  same = same;
  meets = meets;
  whole = whole;
  ours = ours;
  refuted = refuted;
  silly = none_keeps;
  wrong = wrong;
  determined = determined;
  listed = as_listed;
  worked = worked;
  how_many_ponds = refl;
  first_tick = first-tick;
  shown = shown;
  broken = broken;
  ruled_out = ruled_out;
}
