-- Two machines that answer alike at a place, and after a choice there, keep the same at it. Assumes nothing.
use Rattle.std.specs.Prelude.{Some}
use Prim.Native.Nat.{ℕ, ◌<◌}
use mathlib.Core.Path.{◌≡◌, sym, ap, ◌∙◌, subst}
use mathlib.Core.Bool.{true, false}
use mathlib.Core.List.{List}
use mathlib.Core.Logic.{◌⊎◌, inl, inr}
use mathlib.Core.Option.{some}
use Rattle.table.specs.declared.Table.{Table}
use Rattle.table.specs.Table.{D, ceiling}
use Rattle.state.specs.{declared.State.State, Answers.Answer, declared.Mode.TheVariants.Independent, declared.Mode.TheVariants.Synchronization, declared.Report.TheVariants.CarryOn, Answers.bare}
use Rattle.promise.specs.History.{Machine, Call, release, choose, report, answered, Line, is_own, sections, IsOpen, has_started, latest, is_there, Ahead, standing, ending_by}
use Rattle.promise.specs.Promise.{Below, FirstBlocked, Kept}
use Rattle.promise.proofs.History.Tells.{line}

module _ {m n : Machine} {t : Table} {now : ℕ} {s : State} {h : List Line} (k : Kept m t now s h) (e : (call : Call) → answered n t s call ≡ answered m t s call)
    (f : answered n t (answered m t s choose).state (report CarryOn) ≡ answered m t (answered m t s choose).state (report CarryOn)) where
  pub kept_alike : Kept n t now s h
  kept_alike = record {
    in_time = k.in_time;
    within_limits = λ said j. subst (λ (a : Answer). is_own j (line (report said) a) ≡ true → Below t j h) (sym (e (report said))) (k.within_limits said j);
    one_job = λ j. subst (λ (a : Answer). a.number ≡ 0 → is_there t j h ≡ false) (sym (e (release j))) (k.one_job j);
    one_holder = k.one_holder;
    up_to_four = k.up_to_four;
    by_no_refusal = λ call. subst (λ (a : Answer). (a.number ≡ 9 → ⊥) × (a.number ≡ 16 → ⊥) × (a.number ≡ 15 → ⊥)) (sym (e call)) (k.by_no_refusal call);
    goes_on = goes_on k.goes_on;
    by_the_list = λ call. ap (λ (a : Answer). a.number) (e call) ∙ k.by_the_list call;
    refused_bare = λ call. subst (λ (a : Answer). (a.number ≡ 0 → ⊥) → a ≡ bare a.number s) (sym (e call)) (k.refused_bare call);
    released_bare = λ j. subst (λ (a : Answer). a ≡ bare a.number a.state) (sym (e (release j))) (k.released_bare j);
    as_chosen = λ said. subst (λ (a : Answer). a.number ≡ 0 → (c : Answer) × (standing h ≡ some c) × (a.runner ≡ c.runner) × (a.mode ≡ c.mode) × (a.speed ≡ c.speed)) (sym (e (report said))) (k.as_chosen said);
    at_a_speed = λ said j. rw (e (report said)) (k.at_a_speed said j);
    over_a_holder = λ said i j p x. rw (e (report said)) (k.over_a_holder said i j p x);
    in_order = λ i j. subst (λ (a : Answer). a.number ≡ 0 → a.runner ≡ Some i → is_there t j h ≡ true → Ahead t h j i
        → (has_started j (latest j h) ≡ false) × (has_started i (latest i h) ≡ true) × (a.mode ≡ Synchronization) × FirstBlocked t h) (sym (e choose)) (k.in_order i j);
    starts_free = λ i j p x. subst (λ (a : Answer). a.number ≡ 0 → a.runner ≡ Some i → has_started i (latest i h) ≡ false → (j ≡ i → ⊥) → is_there t j h ≡ true → IsOpen (sections j (latest j h)) p x → D t i < ceiling t x.resource) (sym (e choose)) (k.starts_free i j p x);
    until_a_take = λ none. subst (λ (a : Answer). a.number ≡ 0 → a.mode ≡ Independent) (sym (e choose)) (k.until_a_take none);
    idles_alone = rw (e choose) k.idles_alone;
    says_ending = λ call. subst (λ (a : Answer). a.ending ≡ ending_by t h (line call a) a.runner) (sym (e call)) (k.says_ending call);
    in_the_state = k.in_the_state;
    its_tick = k.its_tick;
    its_half = k.its_half;
    its_runner = k.its_runner;
  }
    where
      goes_on : ((answered m t s (report CarryOn)).number ≡ 0) ⊎ (((answered m t s choose).number ≡ 0) × ((answered m t (answered m t s choose).state (report CarryOn)).number ≡ 0))
          → ((answered n t s (report CarryOn)).number ≡ 0) ⊎ (((answered n t s choose).number ≡ 0) × ((answered n t (answered n t s choose).state (report CarryOn)).number ≡ 0))
      goes_on (inl z) = inl (ap (λ (a : Answer). a.number) (e (report CarryOn)) ∙ z)
      goes_on (inr z) =
          inr (ap (λ (a : Answer). a.number) (e choose) ∙ z.0, ap (λ (a : Answer). (answered n t a.state (report CarryOn)).number) (e choose) ∙ ap (λ (a : Answer). a.number) f ∙ z.1)
