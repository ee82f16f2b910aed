-- Any machine in its first tick on 01's own table: what the promise says of it there. Assumes nothing.
use Rattle.std.specs.Prelude.{Some, None}
use Prim.Native.Nat.{ℕ, zero, suc, ◌+◌, ◌≤◌, ◌<◌, min}
use mathlib.Core.Path.{◌≡◌, refl, sym, ap, ◌∙◌}
use mathlib.Core.Bool.{Bool, true, false, not, ◌&&◌, ◌||◌, false≢true}
use mathlib.Core.List.{List, [], ◌∷◌, map}
use mathlib.Core.Logic.{◌⊎◌, inl, inr}
use mathlib.Core.Option.{Option, none, some}
use native.Mathlib.Omega.{arith}
use lib.Dec.{eqb}
use borrow.Author.Tests.{eq-eqb, eqb-true}
use Rattle.units.specs.declared.Tick.{Tick}
use Rattle.units.specs.Amounts.{given}
use Rattle.units.specs.Clock.{after}
use Rattle.units.proofs.Laws.Folds.{both}
use Rattle.table.specs.declared.Table.{Table}
use Rattle.state.specs.{declared.State.State, Answers.Answer, State.Runner, declared.Report.Report, declared.Report.TheVariants.CarryOn, State.job_at}
use Rattle.promise.specs.History.{Machine, Call, release, choose, report, answered, Line, line_of, lines, start, is_report, is_at, is_own, steps_given, longer, after_call, sections, is_last, ends_at, ticks_closed, takes_on, latest, is_there, wait, standing, number_by, runner_by}
use Rattle.promise.specs.Promise.{Passed, Kept, Promise}
use Rattle.promise.proofs.History.Counts.{one-tick, not-worked, same-sections, has-worked, next-sections}
use Rattle.promise.proofs.History.List.{is-pending, carries_on, taken-holds, latest_new, latest_on, there_new, there_on, ends_own, standing_new}
use Rattle.ponds.specs.Tables.{two}

-- before any call
first-choice : (t : Table) → number_by t [] (standing []) choose ≡ 0
unfolding standing
first-choice t = refl

pub first-release : (k : ℕ) → k < 2 → number_by two [] (standing []) (release k) ≡ 0
unfolding standing wait
first-release zero l = refl
first-release (suc zero) l = refl
first-release (suc (suc k)) l = absurd (omega arith)

none_yet : (t : Table) (k : ℕ) → is_there t k [] ≡ false
unfolding is_there
none_yet t k = refl

no_choice_yet : standing [] ≡ none
unfolding standing
no_choice_yet = refl

-- a job ends at a tick of its own; of position 1, carrying on in its first, only with 8 steps
ends_tells : (t : Table) (k : ℕ) (l : Line) (h : List Line) → ends_at t k l h ≡ true → is_own k l ≡ true
unfolding ends_at
ends_tells t k l h e = (both (is_own k l) _ e).0

eight : (l c : Line) → l.call ≡ report CarryOn → c.call ≡ choose → is_own 1 l ≡ true → ends_at two 1 l (c ∷ []) ≡ true → 8 ≤ l.answer.speed
unfolding ends_at steps_given sections given
eight l c e f own ends = omega (arith, budget, steps, nothing_yet)
  where
    not_own : is_own 1 c ≡ false
    not_own = ap (λ (q : Call). (is_report q && eqb c.answer.number 0) && is_at 1 c.answer.runner) f

    nothing_yet : steps_given two 1 (c ∷ []) ≡ 0
    nothing_yet = not-worked c [] two 1 not_own

    steps : steps_given two 1 (l ∷ c ∷ []) ≡ min (steps_given two 1 (c ∷ []) + l.answer.speed) 8
    steps = has-worked l (c ∷ []) two 1 own

    holds_none : sections 1 (l ∷ c ∷ []) ≡ []
    holds_none =
        next-sections l (c ∷ []) two 1 own ∙ ap (λ (q : Call). after_call q (map (longer l.answer.speed) (sections 1 (c ∷ [])))) e
        ∙ ap (map (longer l.answer.speed)) (same-sections c [] two 1 not_own)

    not_last : is_last two 1 l.call (sections 1 (l ∷ c ∷ [])) ≡ false
    not_last = ap (λ (q : Call). is_last two 1 q (sections 1 (l ∷ c ∷ []))) e ∙ ap (is_last two 1 (report CarryOn)) holds_none

    budget : steps_given two 1 (l ∷ c ∷ []) ≡ 8
    budget = eqb-true _ _ (one_of (eqb (steps_given two 1 (l ∷ c ∷ [])) 8) _ not_last (both (is_own 1 l) _ ends).1)
      where
        one_of : (a b : Bool) → b ≡ false → (a || b) ≡ true → a ≡ true
        one_of true b f e = refl
        one_of false b f e = absurd (false≢true (sym f ∙ e))

pub own_is : (k : ℕ) (said : Report) (a : Answer) → a.number ≡ 0 → a.runner ≡ Some k → is_own k (record { call = report said; answer = a }) ≡ true
own_is k said a e f = ap (λ (n : ℕ). eqb n 0 && is_at k a.runner) e ∙ ap (is_at k) f ∙ eq-eqb k k refl

module _ (m : Machine) (passed : Passed m two) (keeps : Promise m) where
  -- at a fresh start
  pub at-start : Kept m two 0 (start m two 0) []
  unfolding lines
  at-start = keeps.kept two passed 0 (omega arith) []

  pub choice0 : (answered m two (start m two 0) choose).number ≡ 0
  choice0 = at-start.by_the_list choose ∙ first-choice two

  pub no_reports : ((t : Table) (s : State) (said : Report) → (m.report t s said).number ≡ 0 → ⊥) → ⊥
  no_reports never = go at-start.goes_on
    where
      go : ((answered m two (start m two 0) (report CarryOn)).number ≡ 0) ⊎ (((answered m two (start m two 0) choose).number ≡ 0) × ((answered m two (answered m two (start m two 0) choose).state (report CarryOn)).number ≡ 0)) → ⊥
      go (inl e) = never two (start m two 0) CarryOn e
      go (inr e) = never two (answered m two (start m two 0) choose).state CarryOn e.1

  -- a job of position j is taken on; then a choice, and a tick that carries on
  module _ (j : ℕ) (small : j < 2) where
    abbrev taken : Line
    taken = line_of m two (start m two 0) (release j)

    abbrev chooses : Line
    chooses = line_of m two taken.answer.state choose

    abbrev ticks : Line
    ticks = line_of m two chooses.answer.state (report CarryOn)

    taken_0 : taken.answer.number ≡ 0
    taken_0 = at-start.by_the_list (release j) ∙ first-release j small

    after-release : Kept m two 0 taken.answer.state (taken ∷ [])
    unfolding lines
    after-release = keeps.kept two passed 0 (omega arith) (release j ∷ [])

    is_new : takes_on j taken ≡ true
    is_new = taken-holds j (release j) taken.answer refl taken_0

    is-there : is_there two j (taken ∷ []) ≡ true
    is-there = there_new taken [] j two is_new

    chooses_0 : chooses.answer.number ≡ 0
    chooses_0 = after-release.by_the_list choose ∙ ap (λ (o : Option Answer). number_by two (taken ∷ []) o choose) (standing_new taken [] (eq-eqb _ _ taken_0) ∙ no_choice_yet)

    stands : standing (chooses ∷ taken ∷ []) ≡ some chooses.answer
    stands = standing_new chooses (taken ∷ []) (eq-eqb _ _ chooses_0)

    mid-tick : Kept m two 0 chooses.answer.state (chooses ∷ taken ∷ [])
    unfolding lines
    mid-tick = keeps.kept two passed 0 (omega arith) (choose ∷ release j ∷ [])

    ticks_0 : ticks.answer.number ≡ 0
    ticks_0 =
        mid-tick.by_the_list (report CarryOn) ∙ ap (λ (o : Option Answer). number_by two (chooses ∷ taken ∷ []) o (report CarryOn)) stands
        ∙ carries_on two (chooses ∷ taken ∷ []) chooses.answer.runner

    after-tick : Kept m two 0 ticks.answer.state (ticks ∷ chooses ∷ taken ∷ [])
    unfolding lines
    after-tick = keeps.kept two passed 0 (omega arith) (report CarryOn ∷ choose ∷ release j ∷ [])

    pub loses : ((t : Table) (s : State) (p : ℕ) → (m.release t s p).state ≡ s) → ⊥
    loses untouched =
        false≢true (sym (is-pending at-start j ∙ none_yet two j) ∙ ap (λ (s : State). (job_at s j).pending) (sym (untouched two (start m two 0) j)) ∙ is-pending after-release j ∙ is-there)

    -- no other job is there
    only : (p : ℕ) → is_there two p (chooses ∷ taken ∷ []) ≡ true → j ≡ p
    only p e = go (takes_on p taken) refl
      where
        was : is_there two p (taken ∷ []) ≡ true
        was = (both (is_there two p (taken ∷ [])) _ (sym (there_on chooses (taken ∷ []) p two refl) ∙ e)).0

        go : (b : Bool) → takes_on p taken ≡ b → j ≡ p
        go true f = eqb-true j p (both _ _ f).0
        go false f = absurd (false≢true (sym (there_on taken [] p two f ∙ ap (λ (b : Bool). b && not (ends_at two p taken (latest p []))) (none_yet two p)) ∙ was))

    -- so the choice names it
    pub runs : (r : Runner) → chooses.answer.runner ≡ r → r ≡ Some j
    runs None e = absurd (false≢true (sym ((after-release.idles_alone chooses_0 e).0 j) ∙ is-there))
    runs (Some p) e =
        let w = mid-tick.as_chosen CarryOn ticks_0 in
        let own = own_is p CarryOn ticks.answer ticks_0 (w.2 ∙ ap runner_by (sym w.1 ∙ stands) ∙ e) in
        ap Some (sym (only p (mid-tick.within_limits CarryOn p own).there))

    pub one_name : (k : ℕ) → ((t : Table) (s : State) (p : ℕ) → (m.choose t s).runner ≡ Some p → p ≡ k) → j ≡ k
    one_name k same = same two taken.answer.state j (runs chooses.answer.runner refl)

    pub nobody_runs : ((t : Table) (s : State) → (m.choose t s).runner ≡ None) → ⊥
    nobody_runs idle = false≢true (sym ((after-release.idles_alone chooses_0 (idle two taken.answer.state)).0 j) ∙ is-there)

    -- the tick of the start, after a tick has closed
    pub clock_stands : ((t : Table) (s : State) (said : Report) → (m.report t s said).state.tick ≡ s.tick) → ⊥
    unfolding after ticks_closed
    clock_stands still = omega (arith, ap (λ (x : Tick). x.0) (sym after-tick.its_tick ∙ still two chooses.answer.state CarryOn ∙ mid-tick.its_tick), closed-now, closed-before)
      where
        closed-before : ticks_closed (chooses ∷ taken ∷ []) ≡ 0
        closed-before = refl

        closed-now : ticks_closed (ticks ∷ chooses ∷ taken ∷ []) ≡ ticks_closed (chooses ∷ taken ∷ []) + 1
        closed-now = one-tick ticks (chooses ∷ taken ∷ []) (eq-eqb _ _ ticks_0)

    -- as long as it does not end at that tick, it is there after it
    pub goes_on : ends_at two j ticks (chooses ∷ []) ≡ false → (job_at ticks.answer.state j).pending ≡ true
    goes_on e =
        is-pending after-tick j ∙ there_on ticks (chooses ∷ taken ∷ []) j two refl
        ∙ ap (λ (b : Bool). b && not (ends_at two j ticks (latest j (chooses ∷ taken ∷ [])))) mid_there ∙ ap (λ (x : List Line). not (ends_at two j ticks x)) lately ∙ ap not e
      where
        lately : latest j (chooses ∷ taken ∷ []) ≡ chooses ∷ []
        lately = latest_on chooses (taken ∷ []) j refl ∙ ap (λ (x : List Line). chooses ∷ x) (latest_new taken [] j is_new)

        mid_there : is_there two j (chooses ∷ taken ∷ []) ≡ true
        mid_there =
            there_on chooses (taken ∷ []) j two refl ∙ ap (λ (b : Bool). b && not (ends_at two j chooses (latest j (taken ∷ [])))) is-there
            ∙ ap not (ends_own chooses (latest j (taken ∷ [])) j two refl)

  -- position 1 ends there only if the tick gave it its 8 steps, and the processor gives 2
  abbrev first : Line
  first = ticks 1 (omega arith)

  not-ended : (b : Bool) → ends_at two 1 first (chooses 1 (omega arith) ∷ []) ≡ b → ends_at two 1 first (chooses 1 (omega arith) ∷ []) ≡ false
  not-ended false e = e
  not-ended true e =
      let own = ends_tells two 1 first (chooses 1 (omega arith) ∷ []) e in
      absurd (omega (arith, eight first (chooses 1 (omega arith)) refl refl own e, ((mid-tick 1 (omega arith)).at_a_speed CarryOn 1 own).1))

  pub ends_nobody : ((t : Table) (s : State) (said : Report) (k : ℕ) → (m.report t s said).number ≡ 0 → (job_at (m.report t s said).state k).pending ≡ false) → ⊥
  ends_nobody ends =
      false≢true (sym (ends two (chooses 1 (omega arith)).answer.state CarryOn 1 (ticks_0 1 (omega arith))) ∙ goes_on 1 (omega arith) (not-ended (ends_at two 1 first (chooses 1 (omega arith) ∷ [])) refl))
