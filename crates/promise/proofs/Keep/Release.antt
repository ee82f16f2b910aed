-- A release keeps the invariant. Assumes nothing.
use Prim.Native.Nat.{ℕ, ◌≤◌, ◌<◌}
use mathlib.Core.Path.{◌≡◌, refl}
use mathlib.Core.Bool.{Bool, true, false}
use native.Mathlib.Decide.{dec_le, dec_lt}
use native.Mathlib.Omega.{arith}
use Rattle.table.specs.declared.Table.{Table}
use Rattle.state.specs.declared.Half.{Half}
use Rattle.state.specs.declared.Half.TheVariants.{First, Second}
use Rattle.state.specs.declared.State.{State}
use Rattle.state.specs.State.{job_at}
use Rattle.state.specs.Answers.{bare}
use Rattle.machine.specs.Machine.{released_at}
use Rattle.machine.proofs.Laws.Calls as Calls
use Rattle.promise.specs.History.{written, release, answered}
use Rattle.promise.specs.Promise.{Passed}
use Rattle.promise.proofs.Core.Release as CoreRelease
use Rattle.promise.proofs.Edge.View.{Stands}
use Rattle.promise.proofs.Edge.Invariant.{passes, task-fits, Good, sees, rests}
use Rattle.promise.proofs.Edge.Release.{released_stands, released_as}
use Rattle.promise.proofs.Keep.Made.{takes-on, Next, refuses, steady, middle, between}

module _ {t : Table} {passed : Passed written t} {s : State} (good : Good passed s) where
  module _ (h : s.half ≡ First) (p : ℕ) (l : p < t.count) (w : (job_at s p).wait.0 ≤ 0) where
    next-release : Next good (release p) (bare 0 (released_at t s p))
    next-release = record {
      kept =
          rests passed (released_at t s p) stands h (good.first h).0
          (CoreRelease.release (task-fits passed) (sees passed good.stands) (sees passed stands)
          (released_as (passes passed) good.stands p l w) (record { midway = good.mid; nearer = (good.first h).1 }));
      made = takes-on p refl l (not_there (job_at s p).pending refl) refl;
    }
      where
        stands : Stands t (released_at t s p)
        stands = released_stands (passes passed) good.stands p l w

        not_there : (b : Bool) → (job_at s p).pending ≡ b → (job_at s p).pending ≡ false
        not_there false e = e
        not_there true e = absurd (omega (arith, good.mid.numbers.distance_some p e, good.mid.numbers.wait-is p e))

  pub keep_release : (p : ℕ) → Next good (release p) (answered written t s (release p))
  keep_release p = go s.half refl (dec_lt p t.count) (dec_le (job_at s p).wait.0 0)
    where
      go : (h : Half) → s.half ≡ h → Dec (p < t.count) → Dec ((job_at s p).wait.0 ≤ 0) → Next good (release p) (answered written t s (release p))
      go Second h d e = refuses good (release p) _ 11 (omega arith) (Calls.release_11 t s (steady good) p (middle good h))
      go First h (no l) e = refuses good (release p) _ 10 (omega arith) (Calls.release_10 t s (steady good) (between good h) p (omega arith))
      go First h (yes l) (no w) = refuses good (release p) _ 12 (omega arith) (Calls.release_12 t s (steady good) (between good h) p l (omega arith))
      go First h (yes l) (yes w) = rw (Calls.release-taken t s (steady good) (between good h) p l w) (next-release h p l w)
