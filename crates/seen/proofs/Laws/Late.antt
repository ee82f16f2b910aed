-- Who is late, by who is due. Assumes nothing.
use Prim.Native.Nat.{ℕ, ◌^◌, ◌<◌}
use mathlib.Core.Path.{◌≡◌, refl, sym, ap, ap₂, ◌∙◌}
use mathlib.Core.Bool.{Bool, true, false, not, ◌&&◌}
use mathlib.Core.List.{List}
use native.Mathlib.Decide.{ℕ_discrete}
use native.Mathlib.Omega.{arith}
use lib.ListN.{length, get_or, set}
use lib.Seq.{get_or-set_same, get_or-set_other}
use lib.Dec.{eqb}
use borrow.Author.Tests.{eq-eqb, ne_eqb}
use Rattle.units.specs.Clock.{after, distance}
use Rattle.units.specs.Folds.{some}
use Rattle.units.proofs.Laws.Sets.{with_past}
use Rattle.state.specs.declared.Job.{Job}
use Rattle.state.specs.declared.State.{State}
use Rattle.state.specs.State.{no_job, job_at}
use Rattle.report.specs.Report.{closed, late}
use Rattle.report.proofs.Laws.Jobs.{closed_at}
use Rattle.seen.specs.Seen.{is_due, due, late_by}
use Rattle.seen.proofs.Laws.Others.{some_same, some-set, but_one}

-- a job stands at its deadline after the tick where it is due before it

stands : (now deadline : ℕ) → now < 2 ^ 32 → eqb (distance (after now 1) deadline) 0 ≡ eqb (distance now deadline) 1
unfolding after distance
stands now deadline h = go (ℕ_discrete (distance now deadline) 1)
  where
    go : Dec (distance now deadline ≡ 1) → eqb (distance (after now 1) deadline) 0 ≡ eqb (distance now deadline) 1
    go (yes e) = eq-eqb (distance (after now 1) deadline) 0 (omega arith) ∙ sym (eq-eqb _ 1 e)
    go (no e) = ne_eqb (distance (after now 1) deadline) 0 (λ z. e (omega arith)) ∙ sym (ne_eqb _ 1 e)

module _ (s : State) (small : s.tick.0 < 2 ^ 32) where
  abbrev now : ℕ
  now = s.tick.0

  late_is : (jobs : List Job) → late (closed s jobs) ≡ some (λ k. is_due now (get_or jobs k no_job)) 16
  unfolding late
  late_is jobs =
      some_same _ _ 16 (λ k l. rw (closed_at s jobs k) (ap (λ (b : Bool). (get_or jobs k no_job).pending && b) (stands now (get_or jobs k no_job).deadline.0 small)))

  -- nobody ran
  pub late-idle : (ended : Bool) → late (closed s s.jobs) ≡ late_by (due s) 16 ended
  unfolding due late_by
  late-idle ended = late_is s.jobs ∙ some-set _ 16 ∙ go ended
    where
      twice : (b : Bool) → b ≡ (b && b)
      twice true = refl
      twice false = refl

      go : (b : Bool) → not (eqb (due s) 0) ≡ late_by (due s) 16 b
      go false = refl
      go true = rw (← with_past 0 16 (omega arith) (omega arith)) (twice (not (eqb (due s) 0)))

  -- the job at p did, and is there no more, or as due as it was
  module _ (p : ℕ) (after : Job) (below : p < length s.jobs) (was : (job_at s p).pending ≡ true) (keeps : after.pending ≡ true → after.deadline.0 ≡ (job_at s p).deadline.0) where
    abbrev then : ℕ → Bool
    then k = is_due now (get_or (set s.jobs p after) k no_job)

    here : then p ≡ is_due now after
    here = ap (is_due now) (get_or-set_same s.jobs p after no_job below)

    elsewhere : (k : ℕ) → (k ≡ p → ⊥) → then k ≡ is_due now (job_at s k)
    elsewhere k h = ap (is_due now) (get_or-set_other s.jobs p k after no_job h)

    pub late-ran : late (closed s (set s.jobs p after)) ≡ late_by (due s) p (not after.pending)
    unfolding due late_by
    late-ran = late_is (set s.jobs p after) ∙ go after.pending refl
      where
        same : after.pending ≡ true → (k : ℕ) → Dec (k ≡ p) → then k ≡ is_due now (job_at s k)
        same e k (yes x) = rw x (here ∙ ap₂ ◌&&◌ (e ∙ sym was) (ap (λ (d : ℕ). eqb (distance now d) 1) (keeps e)))
        same e k (no x) = elsewhere k x

        go : (b : Bool) → after.pending ≡ b → some then 16 ≡ late_by (due s) p (not b)
        go true e = some_same _ _ 16 (λ k l. same e k (ℕ_discrete k p)) ∙ some-set _ 16
        go false e = but_one (λ k. is_due now (job_at s k)) then p (here ∙ ap (λ (b : Bool). b && eqb (distance now after.deadline.0) 1) e) elsewhere
