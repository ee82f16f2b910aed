-- A fresh start. Assumes nothing.
use Rattle.std.specs.Prelude.{None, Ok, Err}
use Prim.Native.Nat.{ℕ, ◌+◌, ◌-◌, ◌<◌, ◌≤◌}
use mathlib.Core.Path.{◌≡◌, refl, sym, ◌∙◌}
use mathlib.Core.Bool.{cond}
use mathlib.Core.List.{List, ◌++◌}
use native.Mathlib.Decide.{dec_lt}
use native.Mathlib.Omega.{arith}
use lib.ListN.{length, take, drop, replicate, get_or-eq_default}
use Rattle.std.proofs.lemmas.List.{length-take, length-replicate, drop-replicate, replicate-append-replicate}
use lib.Dec.{eqb}
use borrow.Author.Tests.{eq-eqb, ne_eqb}
use Rattle.units.specs.declared.Tick.{Tick}
use Rattle.units.specs.Clock.{tick}
use Rattle.units.specs.Folds.{over, listed}
use Rattle.units.proofs.Laws.Folds.{listed_at, listed-length}
use Rattle.units.proofs.Laws.Tests.{cond_yes, cond_no}
use Rattle.verdict.specs.declared.Fault.{Fault}
use Rattle.verdict.specs.Verdict.{Verdict, answer}
use Rattle.verdict.proofs.Laws.{fault_counts}
use Rattle.table.specs.declared.Table.{Table}
use Rattle.table.proofs.Laws.Alike.{Alike}
use Rattle.admission.specs.Admission.{verdict}
use Rattle.admission.proofs.Laws.Alike.{verdict-same}
use Rattle.state.specs.declared.Half.TheVariants.{First}
use Rattle.state.specs.declared.Job.{Job}
use Rattle.state.specs.declared.State.{State}
use Rattle.state.specs.State.{no_job, job_at, empty, passes, fresh}

-- a state of 16 jobs has none past them
pub no_more : (s : State) (k : ℕ) → length s.jobs ≡ 16 → (k < 16 → ⊥) → job_at s k ≡ no_job
no_more s k e h = get_or-eq_default s.jobs no_job (omega (arith, h))

-- sixteen places without a job, the first of them emptied again
pub none_again : (n : ℕ) {l m : List Job} → n ≤ 16 → m ≡ replicate 16 no_job → l ≡ replicate (length (take n m)) no_job → l ++ drop n m ≡ listed (λ k. no_job) 16
unfolding listed over
none_again n b e f =
    let first : length (take n (replicate 16 no_job)) ≡ n = omega (arith, length-take n (replicate 16 no_job), length-replicate 16 no_job) in
    let whole : n + (16 - n) ≡ 16 = omega (arith, b) in
    rw (f, e, first, drop-replicate n 16 no_job, replicate-append-replicate n (16 - n) no_job, whole) refl

-- "no jobs, no waits, no mark"
module _ (now : Tick) where
  pub empty-is : empty now ≡ record { tick = now; jobs = listed (λ k. no_job) 16; mark = None; half = First; runner = None }
  unfolding empty
  empty-is = refl

  pub empty-long : length (empty now).jobs ≡ 16
  unfolding empty
  empty-long = listed-length no_job (λ k. no_job) 16

  pub empty_job : (k : ℕ) → job_at (empty now) k ≡ no_job
  unfolding empty
  empty_job k = go (dec_lt k 16)
    where
      go : Dec (k < 16) → job_at (empty now) k ≡ no_job
      go (yes l) = listed_at no_job (λ k. no_job) 16 k l
      go (no l) = no_more (empty now) k empty-long l

-- the tick that is taken, where n is the verdict's number
module _ (now : Tick) {n : ℕ} {x : Tick} where
  pub tick_asked : n ≡ 0 → x ≡ now → x ≡ cond (eqb n 0) now (tick 0)
  tick_asked h e = e ∙ sym (cond_yes _ _ (eq-eqb _ _ h))

  pub tick-zero : (n ≡ 0 → ⊥) → x ≡ tick 0 → x ≡ cond (eqb n 0) now (tick 0)
  tick-zero h e = e ∙ sym (cond_no _ _ (ne_eqb _ _ h))

module _ (t : Table) (now : Tick) where
  pub fresh-is : fresh t now ≡ record { verdict = verdict t; state = empty (cond (eqb (answer (verdict t)).0 0) now (tick 0)) }
  unfolding fresh passes
  fresh-is = refl

  pub fresh-passed : (answer (verdict t)).0 ≡ 0 → fresh t now ≡ record { verdict = verdict t; state = empty now }
  unfolding fresh passes
  fresh-passed h = simp (eq-eqb _ _ h)

  pub fresh-refused : ((answer (verdict t)).0 ≡ 0 → ⊥) → fresh t now ≡ record { verdict = verdict t; state = empty (tick 0) }
  unfolding fresh passes
  fresh-refused h = simp (ne_eqb _ _ h)

  -- the tick, by the verdict v that was found
  pub at_passing : {v : Verdict} {u : Unit {0}} {x : Tick} → v ≡ Ok u → x ≡ now → x ≡ cond (eqb (answer v).0 0) now (tick 0)
  at_passing e f = rw (e, f)

  pub at_fault : {v : Verdict} {f : Fault} {x : Tick} → v ≡ Err f → x ≡ tick 0 → x ≡ cond (eqb (answer v).0 0) now (tick 0)
  at_fault {f = f} e g = rw (e, g) (simp (ne_eqb _ _ (fault_counts f)))

  -- l is the jobs and x the tick
  pub fresh_found : {v : Verdict} {l : List Job} {x : Tick} → x ≡ cond (eqb (answer v).0 0) now (tick 0) → l ≡ listed (λ k. no_job) 16 → v ≡ verdict t
      → record { verdict = v; state = record { tick = x; jobs = l; mark = None; half = First; runner = None } } ≡ fresh t now
  unfolding fresh passes empty
  fresh_found h j e = rw (h, j, e)

-- "Entries past the task count are not read"
pub fresh-same : {t u : Table} → Alike t u → (now : Tick) → fresh t now ≡ fresh u now
unfolding fresh passes
fresh-same a now = rw (verdict-same a)
