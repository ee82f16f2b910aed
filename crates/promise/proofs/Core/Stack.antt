-- What the stack of started jobs tells: who blocks, and that nobody holds what the runner may take. Assumes nothing.
use mathlib.Core.Path.{◌≡◌, refl, ◌∙◌, ap, subst}
use mathlib.Core.Bool.{true}
use mathlib.Core.Logic.{◌⊎◌, inl, inr, ◌≢◌}
use Prim.Native.Nat.{ℕ, zero, suc, ◌≤◌, ◌<◌}
use native.Mathlib.Omega.{arith}
use Rattle.promise.proofs.Core.Tasks.{Tasks}
use Rattle.promise.proofs.Core.Demand.{clash}
use Rattle.promise.proofs.Core.View.{View, Lawful, Shorter, Clear, Midway}
use Rattle.promise.proofs.Core.Choice.{Blocked, Chosen, runner-first}

module _ {tasks : Tasks} {v u : View} (l : Lawful tasks v) {r top steps : ℕ} (chosen : Chosen tasks v u r top steps) where
  -- a blocked top is before the runner, and its D is shorter
  pub ahead : Blocked tasks v r top → v.before top r
  ahead w = at (chosen.top-first r chosen.pending)
    where
      at : (r ≡ top) ⊎ v.before top r → v.before top r
      at (inl e) = clash w.started (ap v.started e ∙ w.fresh)
      at (inr o) = o

  pub shorter : Shorter tasks v → Blocked tasks v r top → tasks.D top < tasks.D r
  shorter n w = n top r chosen.top-pending w.fresh w.started (ahead w)

  -- the runner is who blocks
  pub who_blocks : Shorter tasks v → Clear tasks v → (w : Blocked tasks v r top) → w.holder ≡ r
  who_blocks n k w = at (w.first w.holder started)
    where
      started : v.started w.holder ≡ true
      started = l.holds-started w.holder (l.left-holds w.holder (tasks.D top) w.holder-left)

      at : (w.holder ≡ r) ⊎ v.before r w.holder → w.holder ≡ r
      at (inl e) = e
      at (inr o) =
          absurd
          (omega (
            arith,
            w.holder-left,
            l.left-level w.holder (tasks.D top) (tasks.D r) (omega (arith, shorter n w)) (k r w.holder w.started started o),
          ))

  pub runner_blocks : Shorter tasks v → Clear tasks v → (w : Blocked tasks v r top) → 1 ≤ v.left r (tasks.D top)
  runner_blocks n k w = subst (λ x. 1 ≤ v.left x (tasks.D top)) (who_blocks n k w) w.holder-left

-- number 15: in mid-tick no other job holds what the runner may take
pub no_15 : {tasks : Tasks} {v : View} → Lawful tasks v → {r top steps : ℕ} → Chosen tasks v v r top steps → Midway tasks v →
    (g x : ℕ) → v.pending g ≡ true → g ≢ r → x ≤ tasks.D r → v.left g x ≡ 0
no_15 {tasks} {v} l {r} chosen mid g x p d b = at (v.left g x) refl
  where
    at : (y : ℕ) → v.left g x ≡ y → v.left g x ≡ 0
    at zero e = e
    at (suc y) e = by (runner-first l chosen g started p)
      where
        started : v.started g ≡ true
        started = l.holds-started g (l.left-holds g x (omega arith))

        by : (g ≡ r) ⊎ v.before r g → v.left g x ≡ 0
        by (inl z) = absurd (d z)
        by (inr o) = l.left-level g x (tasks.D r) b (mid.clear r g chosen.started started o)
