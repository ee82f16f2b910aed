-- "Entries past the task count are not read": with two tables that differ there alone every call gets the same answer, whatever the state. Assumes nothing.
use Prim.Native.Nat.{ℕ}
use mathlib.Core.Path.{◌≡◌, refl, ap}
use mathlib.Core.Bool.{Bool, true, false, not, cond}
use lib.Dec.{leb}
use borrow.Author.Tests.{leb-false, not-false}
use Rattle.table.specs.declared.Table.{Table}
use Rattle.table.proofs.Laws.Alike.{Alike}
use Rattle.state.specs.declared.State.{State}
use Rattle.state.specs.declared.Report.{Report}
use Rattle.state.specs.Answers.{Answer, bare}
use Rattle.choice.proofs.Laws.Alike.{Inside, choice-same}
use Rattle.report.proofs.Laws.Alike as AtReport
use Rattle.consistency.specs.Consistency.{consistent}
use Rattle.consistency.proofs.Laws.Alike.{consistent-inside, consistent-same}
use Rattle.machine.specs.Machine.{mid_tick, release, choose, report}

-- a number is given alike, and the answer past it is the same
past : (s : State) (n : ℕ) (b c : Bool) {x y : Answer} → b ≡ c → (b ≡ false → x ≡ y) → cond b (bare n s) x ≡ cond c (bare n s) y
past s n true c e h = rw (← e)
past s n false c e h = rw (← e) (h refl)

module _ {t u : Table} (a : Alike t u) (s : State) where
  past_9 : {x y : Answer} → (Inside t s → x ≡ y) → cond (not (consistent t s)) (bare 9 s) x ≡ cond (not (consistent u s)) (bare 9 s) y
  past_9 h = past s 9 _ _ (ap not (consistent-same a s)) (λ e. h (consistent-inside t s (not-false _ e)))

  pub release-same : (p : ℕ) → release t s p ≡ release u s p
  unfolding release
  release-same p =
      past_9 (λ inside.
      past s 11 (mid_tick s.half) _ refl (λ first.
      past s 10 (leb t.count p) (leb u.count p) (rw a.count) (λ l. rw (a.tasks p (leb-false _ _ l)))))

  pub choose-same : choose t s ≡ choose u s
  unfolding choose
  choose-same = past_9 (λ inside. rw (choice-same a s inside))

  pub report-same : (said : Report) → report t s said ≡ report u s said
  unfolding report
  report-same said = past_9 (λ inside. rw (AtReport.report-same a s said inside))
