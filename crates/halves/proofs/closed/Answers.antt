use Prim.Native.Nat.{ℕ, ◌+◌, ◌-◌, ◌≤◌}
use native.Mathlib.Omega.{arith}
use mathlib.Core.Path.{◌≡◌, sym, ap, ◌∙◌}
use mathlib.Core.List.{List, map}
use native.Mathlib.Nat.{le_trans, le_of_eq}
use lib.ListN.{length, get_or, set, length-set}
use lib.Seq.{set_out}
use Rattle.units.proofs.Laws.Folds.{long}
use Rattle.state.specs.declared.Job.{Job}
use Rattle.state.proofs.Laws.Past.{past_job}
use Rattle.report.specs.Report.{waited}
use Rattle.units.proofs.Laws.Lists.{part, part_more, part_all}
use borrow.Author.Rules.{rules}
use Rattle.halves.proofs.closed.Goals as goal
use Rattle.halves.proofs.closed.Goals.{then-position-lt-TASKS, else-position-lt-TASKS}

again : (l : List Job) (k : ℕ) {next : List Job} {j : Job} → j ≡ waited (get_or next k past_job) → next ≡ part waited k l → set next k j ≡ part waited (k + 1) l
again l k h before = rw (h, before) (part_more waited k l past_job)

-- the jobs before the loop, and after it
module _ (l : List Job) (h : length l ≡ 16) (p : ℕ) (j : Job) where
  unwritten : 16 ≤ p → l ≡ set l p j
  unwritten b = sym (set_out l p j (le_trans (le_of_eq h) b))

  whole : (m : List Job) (k : ℕ) → m ≡ set l p j → 16 ≤ k → part waited k m ≡ map waited (set l p j)
  whole m k e b = ap (part waited k) e ∙ part_all waited k _ (le_trans (le_of_eq (length-set l p j ∙ h)) b)

pub loop-next-preserved : goal.loop-next-preserved
loop-next-preserved c =
    let falls : c.saturating_sub.result ≡ (get_or c.loop-next.next-items c.loop-next.next-index past_job).wait.0 - 1 = omega arith in
    again c.if-position-lt-TASKS.jobs c.loop-next.next-index (rw falls) c.loop-next.invariant

pub returns : goal.returns
returns c =
    let a = c.args in
    let h : length a.state.jobs ≡ 16 = search (rules, long) in
    let e : c.if-position-lt-TASKS.jobs ≡ set a.state.jobs a.position a.job = elim c.if-position-lt-TASKS.branch [ then-position-lt-TASKS w ↦ w.jobs-is | else-position-lt-TASKS w ↦ w.jobs-is ∙ unwritten a.state.jobs h a.position a.job w.if-position-lt-TASKS.false ] in
    rw (c.after.ensures, c.loop-next.invariant ∙ whole a.state.jobs h a.position a.job _ _ e (omega (arith, h, ap length e, length-set a.state.jobs a.position a.job, c.loop-next-test.false)))
