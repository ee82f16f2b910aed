-- A state as functions of the position, what the tasks can still ask for, and the invariant. Assumes nothing.
use mathlib.Core.Path.{◌≡◌}
use mathlib.Core.Bool.{Bool, true, false}
use mathlib.Core.Logic.{◌⊎◌}
use Prim.Native.Nat.{ℕ, ◌+◌, ◌-◌, ◌≤◌, ◌<◌}
use Rattle.units.specs.Folds.{sum}
use Rattle.units.specs.Amounts.{up}
use Rattle.promise.proofs.Core.Tasks.{Tasks}
use Rattle.promise.proofs.Core.Demand.{asked, coming}

-- Of each position: whether a job is pending, started, holds something; how far its deadline is, its steps used, its wait; and the steps left
-- to the limit of what it holds, as seen from a level: 0 where that can't keep a task of this D waiting. Of the mark: whether it stands, and how far. The order of the jobs.
pub record View : Type 1 where
  pub pending : ℕ → Bool
  pub started : ℕ → Bool
  pub holds : ℕ → Bool
  pub distance : ℕ → ℕ
  pub used : ℕ → ℕ
  pub wait : ℕ → ℕ
  pub left : ℕ → ℕ → ℕ
  pub mark : Bool
  pub mark_distance : ℕ
  pub before : ℕ → ℕ → Type 0

-- What holds of the view of any state that stands, late or not.
pub record Lawful (tasks : Tasks) (v : View) : Type 0 where
  pub inside : (k : ℕ) → v.pending k ≡ true → k < tasks.count
  pub started-pending : (k : ℕ) → v.started k ≡ true → v.pending k ≡ true
  pub holds-started : (k : ℕ) → v.holds k ≡ true → v.started k ≡ true
  pub left-holds : (k x : ℕ) → 1 ≤ v.left k x → v.holds k ≡ true
  pub left-level : (k x y : ℕ) → x ≤ y → v.left k y ≡ 0 → v.left k x ≡ 0
  pub left-limit : (k level : ℕ) → v.pending k ≡ true → level < tasks.count → tasks.D level < tasks.D k → v.left k (tasks.D level) ≤ tasks.B level
  pub near : (j k : ℕ) → v.pending j ≡ true → v.pending k ≡ true → v.before j k → v.distance j ≤ v.distance k
  pub either : (j k : ℕ) → v.pending j ≡ true → v.pending k ≡ true → (j ≡ k) ⊎ (v.before j k ⊎ v.before k j)
  pub once : (j k : ℕ) → v.pending j ≡ true → v.pending k ≡ true → v.before j k → v.before k j → ⊥

-- The numbers of the pending jobs fit the table: nobody is late.
pub record Numbers (tasks : Tasks) (v : View) : Type 0 where
  pub distance_some : (k : ℕ) → v.pending k ≡ true → 1 ≤ v.distance k
  pub distance-D : (k : ℕ) → v.pending k ≡ true → v.distance k ≤ tasks.D k
  pub used-C : (k : ℕ) → v.pending k ≡ true → v.used k < tasks.C k
  pub wait-is : (k : ℕ) → v.pending k ≡ true → v.wait k ≡ v.distance k + (tasks.T k - tasks.D k)

-- how long no deadline of a next job of k can come, a D left out
unfoldable pub early : Tasks → View → ℕ → ℕ
early tasks v k = v.wait k - (tasks.T k - tasks.D k)

-- the ticks at its speed w k that task k can still ask for by h, its pending job's and those of the jobs that can still be released; and those of all tasks
unfoldable pub asks_for : Tasks → View → (ℕ → ℕ) → ℕ → ℕ → ℕ
asks_for tasks v w k h = asked (v.pending k) (v.distance k) h (up (tasks.C k - v.used k) (w k)) + coming (up (tasks.C k) (w k)) (early tasks v k) (tasks.D k) h

unfoldable pub demand : Tasks → View → (ℕ → ℕ) → ℕ → ℕ
demand tasks v w h = sum (λ k. asks_for tasks v w k h) tasks.count

-- Started jobs are a stack: a job that is not started, ahead of one that is, has a shorter D;
abbrev pub Shorter : Tasks → View → Type 0
Shorter tasks v = (j f : ℕ) → v.pending j ≡ true → v.started j ≡ false → v.started f ≡ true → v.before j f → tasks.D j < tasks.D f

-- no started job behind another holds what that one's level may need;
abbrev pub Clear : Tasks → View → Type 0
Clear tasks v = (f g : ℕ) → v.started f ≡ true → v.started g ≡ true → v.before f g → v.left g (tasks.D f) ≡ 0

-- and between ticks a started job has had a tick, so that its deadline is nearer than its D.
abbrev pub Nearer : Tasks → View → Type 0
Nearer tasks v = (f : ℕ) → v.started f ≡ true → v.distance f < tasks.D f

-- There is room within every h. Either no job is due within h;
abbrev pub NoneDue : View → ℕ → Type 0
NoneDue v h = (j : ℕ) → v.pending j ≡ true → h < v.distance j

-- or nobody beyond h holds anything, and all that is asked for by h fits in h at I;
pub record AtI (tasks : Tasks) (v : View) (h : ℕ) : Type 0 where
  pub free : (b : ℕ) → v.holds b ≡ true → v.distance b ≤ h
  pub room : demand tasks v tasks.I h ≤ h

-- (a job beyond h holds something, or the mark stands beyond h)
abbrev pub Beyond : View → ℕ → Type 0
Beyond v h = ((b : ℕ) × (v.holds b ≡ true) × (h < v.distance b)) ⊎ ((v.mark ≡ true) × (h < v.mark_distance))

-- or it fits at S with a block on top: the block is what a started job beyond h can still keep the lowest level waiting that is, or can come, within h.
pub record AtS (tasks : Tasks) (v : View) (h : ℕ) : Type 0 where
  pub level : ℕ
  pub blocking : ℕ
  pub level_in : level < tasks.count
  pub room : blocking + demand tasks v tasks.S h ≤ h
  pub come : (j : ℕ) → j < tasks.count → tasks.D j ≤ h → tasks.D j ≤ tasks.D level
  pub here : (j : ℕ) → v.pending j ≡ true → v.distance j ≤ h → tasks.D j ≤ tasks.D level
  pub above : (b : ℕ) → v.started b ≡ true → h < v.distance b → tasks.D level < tasks.D b
  pub within : (b : ℕ) → v.started b ≡ true → h < v.distance b → up (v.left b (tasks.D level)) (tasks.S level) ≤ blocking
  pub beyond : Beyond v h

pub data Room (tasks : Tasks) (v : View) (h : ℕ) : Type 0 where
  none_due : NoneDue v h → Room tasks v h
  at-I : AtI tasks v h → Room tasks v h
  at-S : AtS tasks v h → Room tasks v h

-- The invariant, in mid-tick
pub record Midway (tasks : Tasks) (v : View) : Type 0 where
  pub numbers : Numbers tasks v
  pub shorter : Shorter tasks v
  pub clear : Clear tasks v
  pub room : (h : ℕ) → Room tasks v h

-- and between ticks.
pub record Between (tasks : Tasks) (v : View) : Type 0 where
  pub midway : Midway tasks v
  pub nearer : Nearer tasks v

-- with no job pending it holds
pub fresh : (tasks : Tasks) (v : View) → Lawful tasks v → ((k : ℕ) → v.pending k ≡ true → ⊥) → Between tasks v
fresh tasks v l none =
    record {
      midway =
          record {
            numbers =
                record {
                  distance_some = λ k p. absurd (none k p);
                  distance-D = λ k p. absurd (none k p);
                  used-C = λ k p. absurd (none k p);
                  wait-is = λ k p. absurd (none k p);
                };
            shorter = λ j f p. absurd (none j p);
            clear = λ f g p. absurd (none f (l.started-pending f p));
            room = λ h. none_due (λ k p. absurd (none k p));
          };
      nearer = λ f p. absurd (none f (l.started-pending f p));
    }

-- the entries of k are the same in both
pub record Same (v u : View) (k : ℕ) : Type 0 where
  pub pending : u.pending k ≡ v.pending k
  pub started : u.started k ≡ v.started k
  pub holds : u.holds k ≡ v.holds k
  pub distance : u.distance k ≡ v.distance k
  pub used : u.used k ≡ v.used k
  pub wait : u.wait k ≡ v.wait k
  pub left : (x : ℕ) → u.left k x ≡ v.left k x
