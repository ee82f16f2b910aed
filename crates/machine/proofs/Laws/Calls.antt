-- What each call answers, case by case, in the order of its numbers. Assumes nothing.
use Prim.Native.Nat.{ℕ, ◌≤◌, ◌<◌}
use mathlib.Core.Path.{◌≡◌, refl, sym, ap, ◌∙◌}
use mathlib.Core.Bool.{Bool, true, false, not, cond}
use mathlib.Core.Logic.{◌⊎◌, inl, inr}
use native.Mathlib.Decide.{dec_le, dec_lt}
use native.Mathlib.Omega.{arith}
use lib.ListN.{length}
use lib.Seq.{get_or-set_same, get_or-set_other}
use borrow.Author.Tests.{lt-ltb, le-ltb, lt-leb, le-leb}
use Rattle.table.specs.declared.Table.{Table}
use Rattle.table.specs.Table.{task_at}
use Rattle.admission.proofs.Laws.Admitted.{admitted}
use Rattle.state.specs.declared.State.{State}
use Rattle.state.specs.declared.Report.{Report}
use Rattle.state.specs.State.{no_job, job_at}
use Rattle.state.specs.Answers.{Answer, bare}
use Rattle.choice.specs.declared.Choice.{Choice}
use Rattle.choice.specs.Choice.{choice}
use Rattle.report.specs.Report as AtReport
use Rattle.report.proofs.Laws.Answers as ReportAnswers
use Rattle.report.proofs.Laws.Steps as ReportSteps
use Rattle.report.proofs.Laws.Steps.{Given, bare_gives}
use Rattle.consistency.specs.Consistency.{consistent}
use Rattle.consistency.proofs.Laws.Facts.{consistent_tells}
use Rattle.machine.specs.Machine.{mid_tick, released, released_at, release, chosen, choose, report}

-- a consistent state has a table of at most 16 tasks
pub few : (t : Table) (s : State) → consistent t s ≡ true → t.count ≤ 16
few t s h = (admitted t (consistent_tells t s h).passes).count.high

module _ (t : Table) (s : State) where
  pub release_9 : (p : ℕ) → consistent t s ≡ false → release t s p ≡ bare 9 s
  unfolding release
  release_9 p h = simp h

  pub choose_9 : consistent t s ≡ false → choose t s ≡ bare 9 s
  unfolding choose
  choose_9 h = simp h

  pub report_9 : (said : Report) → consistent t s ≡ false → report t s said ≡ bare 9 s
  unfolding report
  report_9 said h = simp h

  module _ (good : consistent t s ≡ true) where
    pub release_11 : (p : ℕ) → mid_tick s.half ≡ true → release t s p ≡ bare 11 s
    unfolding release
    release_11 p h = simp (good, h)

    pub choose_11 : mid_tick s.half ≡ true → choose t s ≡ bare 11 s
    unfolding choose
    choose_11 h = simp (good, h)

    pub report_11 : (said : Report) → mid_tick s.half ≡ false → report t s said ≡ bare 11 s
    unfolding report
    report_11 said h = simp (good, h)

    pub report-runs : (said : Report) → mid_tick s.half ≡ true → report t s said ≡ AtReport.report t s said
    unfolding report
    report-runs said h = simp (good, h)

    module _ (between : mid_tick s.half ≡ false) where
      pub choose-runs : choose t s ≡ chosen (choice t s)
      unfolding choose
      choose-runs = simp (good, between)

      pub choose_makes : (c : Choice) → c ≡ choice t s → chosen c ≡ choose t s
      choose_makes c e = ap chosen e ∙ sym choose-runs

      pub release_10 : (p : ℕ) → t.count ≤ p → release t s p ≡ bare 10 s
      unfolding release
      release_10 p l = simp (good, between, le-leb _ _ l)

      pub release_12 : (p : ℕ) → p < t.count → 0 < (job_at s p).wait.0 → release t s p ≡ bare 12 s
      unfolding release
      release_12 p l w = simp (good, between, lt-leb _ _ l, lt-ltb _ _ w)

      pub release-taken : (p : ℕ) → p < t.count → (job_at s p).wait.0 ≤ 0 → release t s p ≡ bare 0 (released_at t s p)
      unfolding release
      release-taken p l w = simp (good, between, lt-leb _ _ l, le-ltb _ _ w)

-- a release is taken, with every test passed, or refused
module _ (t : Table) (s : State) (p : ℕ) where
  pub record Taken : Type 0 where
    pub good : consistent t s ≡ true
    pub between : mid_tick s.half ≡ false
    pub there : p < t.count
    pub due : (job_at s p).wait.0 ≤ 0

  record Refused : Type 0 where
    number : ℕ
    some : 0 < number
    answer : release t s p ≡ bare number s

  decided : Taken ⊎ Refused
  decided = go (consistent t s) refl (mid_tick s.half) refl (dec_lt p t.count) (dec_le (job_at s p).wait.0 0)
    where
      go : (a : Bool) → consistent t s ≡ a → (b : Bool) → mid_tick s.half ≡ b → Dec (p < t.count) → Dec ((job_at s p).wait.0 ≤ 0) → Taken ⊎ Refused
      go false e b f l w = inr (record { number = 9; some = omega arith; answer = release_9 t s p e })
      go true e true f l w = inr (record { number = 11; some = omega arith; answer = release_11 t s e p f })
      go true e false f (no l) w = inr (record { number = 10; some = omega arith; answer = release_10 t s e f p (omega arith) })
      go true e false f (yes l) (no w) = inr (record { number = 12; some = omega arith; answer = release_12 t s e f p l (omega arith) })
      go true e false f (yes l) (yes w) = inl (record { good = e; between = f; there = l; due = w })

  pub taken-answer : Taken → release t s p ≡ bare 0 (released_at t s p)
  taken-answer h = release-taken t s h.good h.between p h.there h.due

  -- its number
  pub number_of : (n : ℕ) → release t s p ≡ bare n s → n ≡ (release t s p).number
  number_of n e = sym (ap (λ (a : Answer). a.number) e)

  pub number_0 : release t s p ≡ bare 0 (released_at t s p) → 0 ≡ (release t s p).number
  number_0 e = sym (ap (λ (a : Answer). a.number) e)

  pub taken : (release t s p).number ≡ 0 → Taken
  taken z = go decided
    where
      go : Taken ⊎ Refused → Taken
      go (inl h) = h
      go (inr h) = absurd (omega (arith, number_of h.number h.answer))

  pub release-refused : ((release t s p).number ≡ 0 → ⊥) → release t s p ≡ bare (release t s p).number s
  release-refused f = go decided
    where
      go : Taken ⊎ Refused → release t s p ≡ bare (release t s p).number s
      go (inl h) = absurd (f (sym (number_0 (taken-answer h))))
      go (inr h) = h.answer ∙ ap (λ (n : ℕ). bare n s) (number_of h.number h.answer)

-- what a release that is taken does to each job
module _ (t : Table) (s : State) (p : ℕ) where
  pub released_job : p < length s.jobs → job_at (released_at t s p) p ≡ released (task_at t p) s.tick.0
  released_job l = get_or-set_same s.jobs p (released (task_at t p) s.tick.0) no_job l

  pub released_others : (k : ℕ) → (k ≡ p → ⊥) → job_at (released_at t s p) k ≡ job_at s k
  released_others k h = get_or-set_other s.jobs p k (released (task_at t p) s.tick.0) no_job h

-- a call that is refused returns the state as it went in, and no job
module _ (t : Table) (s : State) where
  pub choose-refused : ((choose t s).number ≡ 0 → ⊥) → choose t s ≡ bare (choose t s).number s
  unfolding choose
  choose-refused h = go (consistent t s) (mid_tick s.half) h
    where
      all : Bool → Bool → Answer
      all a b = cond (not a) (bare 9 s) (cond b (bare 11 s) (chosen (choice t s)))

      go : (a b : Bool) → ((all a b).number ≡ 0 → ⊥) → all a b ≡ bare (all a b).number s
      go false b h = refl
      go true true h = refl
      go true false h = absurd (h refl)

  pub report-refused : (said : Report) → ((report t s said).number ≡ 0 → ⊥) → report t s said ≡ bare (report t s said).number s
  unfolding report
  report-refused said h = go (consistent t s) (mid_tick s.half) h
    where
      all : Bool → Bool → Answer
      all a b = cond (not a) (bare 9 s) (cond (not b) (bare 11 s) (AtReport.report t s said))

      go : (a b : Bool) → ((all a b).number ≡ 0 → ⊥) → all a b ≡ bare (all a b).number s
      go false b h = refl
      go true false h = refl
      go true true h = ReportAnswers.report-refused t s said h

  -- no job is given more steps than the speed of its tick gives
  pub report_gives : (said : Report) (k : ℕ) → Given s k (report t s said)
  unfolding report
  report_gives said k = go (consistent t s) (mid_tick s.half)
    where
      go : (a b : Bool) → Given s k (cond (not a) (bare 9 s) (cond (not b) (bare 11 s) (AtReport.report t s said)))
      go false b = bare_gives s k 9
      go true false = bare_gives s k 11
      go true true = ReportSteps.report_gives s k t said
