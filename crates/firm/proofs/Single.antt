-- Each contract gives the result, or what it tells, by an equation, and what it leaves in a lent slice by another. Assumes nothing.
use Prim.Native.Nat.{ℕ}
use mathlib.Core.Path.{refl, sym, ap, ◌∙◌}
use mathlib.Core.List.{List}
use denote.Ref.{at_last}
use Rattle.state.specs.State.{no_job}
use Rattle.state.proofs.Laws.Answers.{success-same, told-same}
use Rattle.seen.proofs.Laws.Told as AtReport
use Rattle.firm.specs.Single.{Singleness}

pub single : Singleness
single = record {
  given = λ κs a r s v w p q. (p ∙ sym q, refl);
  up = λ κs a r s v w p q. (p ∙ sym q, refl);
  ahead = λ κs a r s v w p q. (p ∙ sym q, refl);
  after = λ κs a r s v w p q. (p ∙ sym q, refl);
  distance = λ κs a r s v w p q. (p ∙ sym q, refl);
  has = λ κs a r s v w p q. (p ∙ sym q, refl);
  with = λ κs a r s v w p q. (p ∙ sym q, refl);
  how_many = λ κs a r s v w p q. (p ∙ sym q, refl);
  lowest = λ κs a r s v w p q. (p ∙ sym q, refl);
  limit = λ κs a r s v w p q. (p ∙ sym q, refl);
  ceilings = λ κs a r s v w p q. (p ∙ sym q, refl);
  verdict_of = λ κs a r s v w p q. (p ∙ sym q, refl);
  number = λ κs a r s v w p q. (p ∙ sym q, refl);
  position = λ κs a r s v w p q. (p ∙ sym q, refl);
  fresh = λ κs a r s v w p q. (p ∙ sym q, refl);
  refusal_number = λ κs a r s v w p q. (p ∙ sym q, refl);
  ending_number = λ κs a r s v w p q. (p ∙ sym q, refl);
  from_fault = λ κs a r s v w p q. (p ∙ sym q, refl);
  bare = λ κs a r s v w p q. (success-same a.0 r s (p ∙ sym q), refl);
  in_use = λ κs a r s v w p q. (p ∙ sym q, refl);
  any = λ κs a r s v w p q. (p ∙ sym q, refl);
  holds = λ κs a r s v w p q. (p ∙ sym q, refl);
  join = λ κs a r s v w p q. (p ∙ sym q, refl);
  seen_with = λ κs a r s v w p q. (p ∙ sym q, refl);
  place_position = λ κs a r s v w p q. (p ∙ sym q, refl);
  run_place = λ κs a r s v w p q. (p ∙ sym q, refl);
  rules = λ κs a r s v w p q. (p ∙ sym q, refl);
  inherited = λ κs a r s v w p q. (p ∙ sym q, refl);
  reported = λ κs a r s v w p q. (AtReport.told-same (a.1.0) r s (p ∙ sym q), refl);
  reported_idle = λ κs a r s v w p q. (AtReport.told-same no_job r s (p ∙ sym q), refl);
  runner_position = λ κs a r s v w p q. (p ∙ sym q, refl);
  in_mid_tick = λ κs a r s v w p q. (p ∙ sym q, refl);
  closed = λ κs a r s v w p q. (p ∙ sym q, refl);
  late = λ κs a r s v w p q. (p ∙ sym q, refl);
  examine = λ κs a r s v w p q. (p ∙ sym q, refl);
  release = λ κs a r s v w p q. (told-same (a.1.0) r s (p ∙ sym q), refl);
  choose = λ κs a r s v w p q. (told-same (a.1.0) r s (p ∙ sym q), refl);
  report = λ κs a r s v w p q. (told-same (a.1.0) r s (p ∙ sym q), refl);
  first_event = λ κs a r s v w p q. (p ∙ sym q, refl);
  event_count = λ κs a r s v w p q. (p ∙ sym q, refl);
  well_formed = λ κs a r s v w p q. (p ∙ sym q, refl);
  table = λ κs a r s v w p q. (p ∙ sym q, refl);
  start = λ κs a r s v w p q. (p ∙ sym q, refl);
  event_at = λ κs a r s v w p q. (p ∙ sym q, refl);
  write = λ κs a r s v w p q. (p.1 ∙ sym q.1, ap (λ (x : List ℕ). (a.0, (at_last a.1.0 x, tt))) (p.0 ∙ sym q.0));
  list = λ κs a r s v w p q. (p.0.1 ∙ sym q.0.1, ap (λ (x : List ℕ). (a.0, (at_last a.1.0 x, tt))) (p.0.0 ∙ sym q.0.0));
}
