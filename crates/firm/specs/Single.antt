-- One result: "For each input, every public function has one result only that its promise allows, refusals and returned state counted".
use Rattle.std.specs.Prelude.{◌≡◌}
use contract.Lifetimes.{Lfts}
use denote.Triple.Entry.{Args, Res}
use denote.Triple.Clauses.{Ended, Lasts, AtExit, at_exit}
use Rattle.units as Units
use Rattle.verdict as Verdict
use Rattle.table as Table
use Rattle.admission as Admission
use Rattle.state as State
use Rattle.chooser as Chooser
use Rattle.reporter as Reporter
use Rattle.checker as Checker
use Rattle.halves as Halves
use Rattle.machine as Machine
use Rattle.records as Records
use Rattle.lines as Lines
use Rattle.listing as Listing

-- A function's promise: what its contract says of the arguments, the result, and the parameters at exit.
abbrev pub Promised : Ended → Type 1
Promised T = (κs : Lfts T.signature.lifetimes) → Args T.signature κs → Res T.signature κs → AtExit T κs → Type 0

-- Two results that it allows of the same arguments are one, and so is what it leaves in the parameters: v and w are what is left behind the references, as in a lent slice.
-- That there is one is what the code is proved to give. The arguments of a lent slice include where it stands; no contract reads that.
abbrev pub Single : (T : Ended) → Promised T → Type 0
Single T P =
    (κs : Lfts T.signature.lifetimes) (a : Args T.signature κs) (r s : Res T.signature κs) (v w : Lasts T κs a)
    → P κs a r (at_exit T κs a v) → P κs a s (at_exit T κs a w) → (r ≡ s) × (at_exit T κs a v ≡ at_exit T κs a w)

-- The same of a function that lends what it answers: what is lent is one. Where it stands no contract says.
abbrev pub SingleLent : (T : Ended) {A : Type 0} → ((κs : Lfts T.signature.lifetimes) → Res T.signature κs → A) → Promised T → Type 0
SingleLent T lent P =
    (κs : Lfts T.signature.lifetimes) (a : Args T.signature κs) (r s : Res T.signature κs) (v w : Lasts T κs a)
    → P κs a r (at_exit T κs a v) → P κs a s (at_exit T κs a w) → (lent κs r ≡ lent κs s) × (at_exit T κs a v ≡ at_exit T κs a w)

-- Every public function; `Learnt` is its contract, as the prover reads it and as its callers are handed it.
pub record Singleness : Type 0 where
  pub given : Single Units.specs.contracts.Steps.given.ended Units.proofs.Steps.given.Reads.Learnt
  pub up : Single Units.specs.contracts.Steps.up.ended Units.proofs.Steps.up.Reads.Learnt
  pub ahead : Single Units.specs.contracts.Tick.ahead.ended Units.proofs.Tick.ahead.Reads.Learnt
  pub after : Single Units.specs.contracts.Tick.after.ended Units.proofs.Tick.after.Reads.Learnt
  pub distance : Single Units.specs.contracts.Tick.distance.ended Units.proofs.Tick.distance.Reads.Learnt
  pub has : Single Units.specs.contracts.sets.has.ended Units.proofs.sets.has.Reads.Learnt
  pub with : Single Units.specs.contracts.sets.with.ended Units.proofs.sets.with.Reads.Learnt
  pub how_many : Single Units.specs.contracts.sets.how_many.ended Units.proofs.sets.how_many.Reads.Learnt
  pub lowest : Single Units.specs.contracts.sets.lowest.ended Units.proofs.sets.lowest.Reads.Learnt
  pub limit : Single Table.specs.contracts.Task.limit.ended Table.proofs.Task.limit.Reads.Learnt
  pub ceilings : Single Table.specs.contracts.Table.ceilings.ended Table.proofs.Table.ceilings.Reads.Learnt
  pub verdict_of : Single Admission.specs.contracts.verdict_of.ended Admission.proofs.verdict_of.Reads.Learnt
  pub number : Single Verdict.specs.contracts.number.ended Verdict.proofs.number.Reads.Learnt
  pub position : Single Verdict.specs.contracts.position.ended Verdict.proofs.position.Reads.Learnt
  pub fresh : Single State.specs.contracts.State.fresh.ended State.proofs.State.fresh.Reads.Learnt
  pub refusal_number : Single State.specs.contracts.Refusal.number.ended State.proofs.Refusal.number.Reads.Learnt
  pub ending_number : Single State.specs.contracts.Ending.number.ended State.proofs.Ending.number.Reads.Learnt
  pub from_fault : Single State.specs.contracts.RefusalFromFault.from.ended State.proofs.RefusalFromFault.from.Reads.Learnt
  pub bare : Single State.specs.contracts.Success.bare.ended State.proofs.Success.bare.Reads.Learnt
  pub in_use : SingleLent State.specs.contracts.Stack.in_use.ended (λ κs r. r.now) State.proofs.Stack.in_use.Reads.Learnt
  pub any : Single State.specs.contracts.Stack.any.ended State.proofs.Stack.any.Reads.Learnt
  pub holds : Single State.specs.contracts.Stack.holds.ended State.proofs.Stack.holds.Reads.Learnt
  pub join : Single State.specs.contracts.Stack.join.ended State.proofs.Stack.join.Reads.Learnt
  pub seen_with : Single Chooser.specs.contracts.gather.seen_with.ended Chooser.proofs.gather.seen_with.Reads.Learnt
  pub place_position : Single Chooser.specs.contracts.runner.position.ended Chooser.proofs.runner.position.Reads.Learnt
  pub run_place : Single Chooser.specs.contracts.runner.run_place.ended Chooser.proofs.runner.run_place.Reads.Learnt
  pub rules : Single Chooser.specs.contracts.rules.rules.ended Chooser.proofs.rules.rules.Reads.Learnt
  pub inherited : Single Chooser.specs.contracts.speed.inherited.ended Chooser.proofs.speed.inherited.Reads.Learnt
  pub reported : Single Reporter.specs.contracts.reported.ended Reporter.proofs.reported.Reads.Learnt
  pub reported_idle : Single Reporter.specs.contracts.reported_idle.ended Reporter.proofs.reported_idle.Reads.Learnt
  pub runner_position : Single Halves.specs.contracts.runner_position.ended Halves.proofs.runner_position.Reads.Learnt
  pub in_mid_tick : Single Halves.specs.contracts.in_mid_tick.ended Halves.proofs.in_mid_tick.Reads.Learnt
  pub closed : Single Halves.specs.contracts.closed.ended Halves.proofs.closed.Reads.Learnt
  pub late : Single Halves.specs.contracts.late.ended Halves.proofs.late.Reads.Learnt
  pub examine : Single Checker.specs.contracts.examine.ended Checker.proofs.examine.Reads.Learnt
  pub release : Single Machine.specs.contracts.release.ended Machine.proofs.release.Reads.Learnt
  pub choose : Single Machine.specs.contracts.choose.ended Machine.proofs.choose.Reads.Learnt
  pub report : Single Machine.specs.contracts.report.ended Machine.proofs.report.Reads.Learnt
  pub first_event : Single Records.specs.contracts.first_event.ended Records.proofs.first_event.Reads.Learnt
  pub event_count : Single Records.specs.contracts.event_count.ended Records.proofs.event_count.Reads.Learnt
  pub well_formed : Single Records.specs.contracts.well_formed.ended Records.proofs.well_formed.Reads.Learnt
  pub table : Single Records.specs.contracts.table.ended Records.proofs.table.Reads.Learnt
  pub start : Single Records.specs.contracts.start.ended Records.proofs.start.Reads.Learnt
  pub event_at : Single Records.specs.contracts.event_at.ended Records.proofs.event_at.Reads.Learnt
  pub write : Single Lines.specs.contracts.Line.write.ended Lines.proofs.Line.write.Reads.Learnt
  pub list : Single Listing.specs.contracts.list.ended Listing.proofs.list.Reads.Learnt
