-- A consistent state, as plain facts: what the crates above use in place of the test. Assumes nothing.
use Rattle.std.specs.Prelude.{Some, None}
use Prim.Native.Nat.{ℕ, ◌≤◌, ◌<◌, zero-le}
use mathlib.Core.Path.{◌≡◌, refl, sym, ap, ◌∙◌}
use mathlib.Core.Bool.{Bool, true, false, false≢true}
use native.Mathlib.Omega.{arith}
use borrow.Author.Tests.{eq-eqb, eqb-true}
use Rattle.units.specs.declared.Tick.{Tick}
use Rattle.units.specs.Clock.{distance}
use Rattle.units.proofs.Laws.Folds.{both, all_tells, all-holds}
use Rattle.units.proofs.Laws.Tests.{tests, parts}
use Rattle.verdict.specs.Verdict.{answer}
use Rattle.table.specs.declared.Task.{Task}
use Rattle.table.specs.declared.Table.{Table}
use Rattle.table.specs.Table.{task_at}
use Rattle.admission.specs.Admission.{verdict}
use Rattle.admission.proofs.Laws.Admitted.{admitted}
use Rattle.state.specs.declared.Job.{Job}
use Rattle.state.specs.declared.State.{State}
use Rattle.state.specs.declared.Place.{Place}
use Rattle.state.specs.declared.Half.{Half}
use Rattle.state.specs.declared.Half.TheVariants.{First, Second}
use Rattle.state.specs.State.{job_at, no_job, empty, passes, Mark, Runner}
use Rattle.state.specs.Order.{holds_any}
use Rattle.state.proofs.Laws.Fresh.{empty_job}
use Rattle.state.proofs.Laws.Stacks.{on_any}
use Rattle.choice.specs.Choice.{turn}
use Rattle.consistency.specs.Consistency.{position_fits, mark_fits, same_runner, same_mark, has_begun, unchanged, half_fits, consistent}
use Rattle.consistency.proofs.Laws.Jobs.{JobFits, Unused, nothing-fits, nothing-held}
use Rattle.consistency.proofs.Laws.Held.{Once}
use Rattle.consistency.proofs.Laws.Places.{used_tells, past_tells, place-holds, places_tells, places_hold}

-- ---- the facts

pub record MarkFits (count now : ℕ) (m : Place) : Type 0 where
  pub position : m.position < count
  pub ahead : distance now m.deadline.0 ≤ 65535

-- the choice, made again, changes nothing
pub record Unchanged (t : Table) (s : State) : Type 0 where
  pub runner : (turn t s).runner ≡ s.runner
  pub mark : (turn t s).mark ≡ s.mark
  pub begun : (p : ℕ) → s.runner ≡ Some p → (job_at s p).started ≡ true

pub record Consistent (t : Table) (s : State) : Type 0 where
  pub passes : (answer (verdict t)).0 ≡ 0
  pub jobs : (k : ℕ) → k < t.count → JobFits (task_at t k) s.tick.0 (job_at s k)
  pub past : (k : ℕ) → t.count ≤ k → k < 16 → Unused (job_at s k)
  pub once : Once s 16
  pub mark : (m : Place) → s.mark ≡ Some m → MarkFits t.count s.tick.0 m
  pub first : s.half ≡ First → s.runner ≡ None
  pub second : s.half ≡ Second → Unchanged t s

-- ---- the mark

mark_tells : (count now : ℕ) (k : Mark) → mark_fits count now k ≡ true → (m : Place) → k ≡ Some m → MarkFits count now m
mark_tells count now k h m e = let w = sym (ap (mark_fits count now) e) ∙ h in search parts

pub mark_holds : (count now : ℕ) (k : Mark) → ((m : Place) → k ≡ Some m → MarkFits count now m) → mark_fits count now k ≡ true
mark_holds count now None f = refl
mark_holds count now (Some m) f = let w = f m refl in search tests

-- ---- the middle of a tick

pub same-runner_tells : (a b : Runner) → same_runner a b ≡ true → a ≡ b
same-runner_tells None None h = refl
same-runner_tells None (Some q) h = absurd (false≢true h)
same-runner_tells (Some p) None h = absurd (false≢true h)
same-runner_tells (Some p) (Some q) h = ap Some (eqb-true p q h)

same-runner : (a : Runner) → same_runner a a ≡ true
same-runner None = refl
same-runner (Some p) = eq-eqb p p refl

abbrev at : ℕ → ℕ → Mark
at d p = Some (record { deadline = record { 0 = d }; position = p })

pub same_mark_tells : (a b : Mark) → same_mark a b ≡ true → a ≡ b
same_mark_tells None None h = refl
same_mark_tells None (Some m) h = absurd (false≢true h)
same_mark_tells (Some l) None h = absurd (false≢true h)
same_mark_tells (Some l) (Some m) h =
    let w = both _ _ h in
    ap (λ (d : ℕ). at d l.position) (eqb-true _ _ w.0) ∙ ap (λ (p : ℕ). at m.deadline.0 p) (eqb-true _ _ w.1)

same-mark : (a : Mark) → same_mark a a ≡ true
same-mark None = refl
same-mark (Some m) = simp (eq-eqb m.deadline.0 m.deadline.0 refl, eq-eqb m.position m.position refl)

begun-holds : (s : State) (r : Runner) → ((p : ℕ) → r ≡ Some p → (job_at s p).started ≡ true) → has_begun s r ≡ true
begun-holds s None f = refl
begun-holds s (Some p) f = f p refl

module _ (t : Table) (s : State) where
  unchanged_tells : unchanged s (turn t s) ≡ true → Unchanged t s
  unfolding unchanged
  unchanged_tells h =
      let r = both (same_runner (turn t s).runner s.runner) _ h in
      let m = both (same_mark (turn t s).mark s.mark) _ r.1 in
      let e = same-runner_tells _ _ r.0 in
      record {
        runner = e;
        mark = same_mark_tells _ _ m.0;
        begun = λ p q. sym (ap (has_begun s) (e ∙ q)) ∙ m.1;
      }

  unchanged-holds : Unchanged t s → unchanged s (turn t s) ≡ true
  unfolding unchanged
  unchanged-holds h =
      simp (
        ap (λ (r : Runner). same_runner r s.runner) h.runner ∙ same-runner s.runner,
        ap (λ (m : Mark). same_mark m s.mark) h.mark ∙ same-mark s.mark,
        begun-holds s (turn t s).runner (λ p e. h.begun p (sym h.runner ∙ e)),
      )

  half_tells : half_fits t s s.half ≡ true → (s.half ≡ First → s.runner ≡ None) × (s.half ≡ Second → Unchanged t s)
  half_tells h = (
    λ e. sym (same-runner_tells None s.runner (sym (ap (half_fits t s) e) ∙ h)),
    λ e. unchanged_tells (sym (ap (half_fits t s) e) ∙ h),
  )

  half-holds : (h : Half) → (h ≡ First → s.runner ≡ None) → (h ≡ Second → Unchanged t s) → half_fits t s h ≡ true
  half-holds First f g = ap (same_runner None) (f refl)
  half-holds Second f g = unchanged-holds (g refl)

  -- ---- both ways

  pub consistent_tells : consistent t s ≡ true → Consistent t s
  unfolding consistent passes
  consistent_tells h =
      let p = both _ _ h in
      let j = both _ _ p.1 in
      let m = both _ _ j.1 in
      let e = eqb-true (answer (verdict t)).0 0 p.0 in
      let w = places_tells t s j.0 in
      let z = half_tells m.1 in
      record {
        passes = e;
        jobs = λ k l. used_tells t s k (all_tells _ 16 w.0 k (omega (arith, (admitted t e).count))) l;
        past = λ k l b. past_tells t s k (all_tells _ 16 w.0 k b) l;
        once = w.1;
        mark = mark_tells t.count s.tick.0 s.mark m.0;
        first = z.0;
        second = z.1;
      }

  pub consistent-holds : Consistent t s → consistent t s ≡ true
  unfolding consistent passes
  consistent-holds h =
      let places = all-holds (position_fits t s) 16 (λ k b. place-holds t s k (h.jobs k) (λ l. h.past k l b)) in
      simp (
        eq-eqb _ _ h.passes,
        places_hold t s places h.once,
        mark_holds t.count s.tick.0 s.mark h.mark,
        half-holds s.half h.first h.second,
      )

-- ---- a fresh start

pub no_job_unused : Unused no_job
no_job_unused = record { pending = refl; wait = refl; stack = nothing-fits; absent = record { started = refl; used = refl; held = refl; deadline = refl } }

no_job_fits : (task : Task) (now : ℕ) → JobFits task now no_job
no_job_fits task now = record {
  wait = zero-le;
  unstarted = λ e. record { used = refl; held = refl };
  stack = nothing-fits;
  held = nothing-held task;
  pending = λ e. absurd (false≢true e);
  absent = λ e. record { started = refl; used = refl; held = refl; deadline = refl };
}

abbrev is_first : Half → Bool
is_first First = true
is_first Second = false

abbrev is_absent : Mark → Bool
is_absent None = true
is_absent (Some m) = false

pub fresh-consistent : (t : Table) (now : Tick) → (answer (verdict t)).0 ≡ 0 → consistent t (empty now) ≡ true
unfolding empty
fresh-consistent t now h = consistent-holds t (empty now) (record {
  passes = h;
  jobs = λ k l. rw (empty_job now k) (no_job_fits (task_at t k) now.0);
  past = λ k l b. rw (empty_job now k) no_job_unused;
  once = λ i j r l m p. absurd (false≢true (sym (ap (λ (j : Job). holds_any j.held) (empty_job now i)) ∙ on_any _ (job_at (empty now) i).held p));
  mark = λ m e. absurd (false≢true (sym (ap is_absent e)));
  first = λ e. refl;
  second = λ e. absurd (false≢true (sym (ap is_first e)));
})
