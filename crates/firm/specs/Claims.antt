-- All that is claimed, at its full type: what is left out or made weaker elsewhere does not fit here.
use mathlib.Core.{Path.◌≡◌}
use Rattle.std.specs.Prelude.{length}
use Rattle.promise.specs.History.{Machine, written}
use Rattle.promise.specs.Promise.{Promise}
use Rattle.ponds.specs.Ponds.{ponds, Worked}
use Rattle.ponds.specs.Histories.{P5, RollOver, Pump}
use Rattle.ponds.specs.Document003.{Misses}
use Rattle.ponds.specs.FirstTick.{FirstTick}
use Rattle.ponds.specs.Broken.{Broken}
use Rattle.ponds.specs.RuledOut.{RuledOut}
use Rattle.firm.specs.Single.{Singleness}
use Rattle.firm.specs.Machines.{Contracts, Numbers, Choices, States, Meets}
use Rattle.firm.specs.Refuted.{Refuted}
use Rattle.firm.specs.Silly.{NoneKeeps}
use Rattle.firm.specs.Wrong.{Wrong}
use Rattle.firm.specs.Open.{Determined}
use Rattle.firm.specs.Listed.{Listed}

pub record Claims : Type 0 where
  -- the written rules keep the promise
  pub promise : Promise written
  -- each public function has one result only that its contract allows
  pub single : Singleness
  -- a machine that keeps the contracts of our calls is the written one
  pub same : (m : Machine) → Contracts m → m ≡ written
  -- and meets demands 2 and 3
  pub meets : (m : Machine) → Contracts m → Meets m
  -- the three parts of demand 2 are nothing less than the contracts
  pub whole : (m : Machine) → Numbers m → Choices m → States m → Contracts m
  -- the written rules keep the contracts
  pub ours : Contracts written
  -- document 01's wrong machines are refuted
  pub refuted : (m : Machine) → Refuted m
  -- silly machines do not keep the promise
  pub silly : NoneKeeps
  -- nor do the machines of wrong rules
  pub wrong : Wrong
  -- what the promise leaves open, and nothing else
  pub determined : Determined
  -- each state of a listing is a place of a history
  pub listed : Listed
  -- the ponds that were worked by hand come out as the paper says, and so many there are
  pub worked : Worked ponds
  pub how_many_ponds : length ponds ≡ 57
  -- what the calls do in a first tick on the table of the paper's listing
  pub first_tick : FirstTick
  -- what the promise speaks of does happen, and document 003's rule does not keep it
  pub shown : P5 × RollOver × Pump × Misses
  -- wrong rules break it, and are told by the ponds
  pub broken : Broken
  pub ruled_out : RuledOut
