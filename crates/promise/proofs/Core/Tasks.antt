-- What the proof knows of a table that passes: functions of the position, and facts. Assumes nothing.
use Prim.Native.Nat.{ℕ, ◌+◌, ◌*◌, ◌/◌, ◌≤◌, ◌<◌}
use Rattle.units.specs.Amounts.{up}
use Rattle.units.specs.Folds.{sum}

-- count, deadline lengths, periods, budgets, the steps that a tick at I and at S gives, the blocking terms
pub record Tasks : Type 0 where
  pub count : ℕ
  pub D : ℕ → ℕ
  pub T : ℕ → ℕ
  pub C : ℕ → ℕ
  pub I : ℕ → ℕ
  pub S : ℕ → ℕ
  pub B : ℕ → ℕ

pub record Fits (tasks : Tasks) : Type 0 where
  pub D-some : (k : ℕ) → k < tasks.count → 1 ≤ tasks.D k
  pub D_T : (k : ℕ) → k < tasks.count → tasks.D k ≤ tasks.T k
  pub D_rises : (j k : ℕ) → j ≤ k → k < tasks.count → tasks.D j ≤ tasks.D k
  pub C-some : (k : ℕ) → k < tasks.count → 1 ≤ tasks.C k
  pub I-some : (k : ℕ) → k < tasks.count → 1 ≤ tasks.I k
  pub I-S : (k : ℕ) → k < tasks.count → tasks.I k ≤ tasks.S k
  -- at I, all jobs whose deadlines come within h have room in h
  pub independent : (h : ℕ) → sum (λ k. up (tasks.C k) (tasks.I k) * (h / tasks.D k)) tasks.count ≤ h
  -- at S, so have they and the longest section that keeps the last of them waiting
  pub synchronization : (h p : ℕ) → p < tasks.count → tasks.D p ≤ h → ((j : ℕ) → p < j → j < tasks.count → h < tasks.D j)
      → up (tasks.B p) (tasks.S p) + sum (λ k. up (tasks.C k) (tasks.S k) * (h / tasks.D k)) tasks.count ≤ h
