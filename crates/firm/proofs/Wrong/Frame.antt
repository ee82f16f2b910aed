-- The frames of the wrong rules keep the promise with 01's own: they answer as the written machine wherever the state is consistent, and in a history it always is. Assumes nothing.
use Prim.Native.Nat.{ℕ, ◌^◌, ◌<◌}
use mathlib.Core.Path.{◌≡◌, refl, sym, ap, ◌∙◌, subst}
use mathlib.Core.Bool.{Bool, true, false, not, cond}
use lib.Dec.{eqb}
use mathlib.Core.List.{List, [], ◌∷◌}
use borrow.Author.Tests.{eq-eqb, ne_eqb}
use Rattle.units.specs.declared.Tick.{Tick}
use Rattle.units.specs.Clock.{tick}
use Rattle.verdict.specs.Verdict.{answer}
use Rattle.table.specs.declared.Table.{Table}
use Rattle.admission.specs.Admission.{verdict}
use Rattle.state.specs.{declared.State.State, declared.Start.Start, Answers.Answer, declared.Report.TheVariants.CarryOn, State.empty, Answers.bare}
use Rattle.state.proofs.Laws.Fresh.{fresh-is}
use Rattle.choice.specs.Choice.{choice}
use Rattle.report.specs.Report as AtReport
use Rattle.consistency.specs.Consistency.{mark_fits, consistent}
use Rattle.consistency.proofs.Laws.Facts.{consistent_tells, mark_holds}
use Rattle.machine.specs.Machine as Rules
use Rattle.promise.specs.History.{Machine, written, Call, release, choose, report, answered, Line, line_of, current, lines, state_after, start}
use Rattle.promise.specs.Promise.{number_of, Passed, Kept, Promise}
use Rattle.promise.proofs.Promise.{promise}
use Rattle.promise.proofs.Alike.{kept_alike}
use Rattle.promise.proofs.Keep.Made.{steady}
use Rattle.promise.proofs.Keep.Each.{keep}
use Rattle.promise.proofs.History.Start.{at_good}
use Rattle.ponds.specs.Variants.{ours, by, unless9}
use Rattle.ponds.specs.Broken.{if_mark_fits, mark_tested}

-- a machine with the written verdict and start that answers so, and does not run a table that does not pass
module _ (n : Machine) (same-verdict : (t : Table) → number_of n t ≡ number_of written t) (starts : (t : Table) (now : Tick) → n.fresh t now ≡ record { verdict = n.verdict t; state = empty (cond (eqb (number_of n t) 0) now (tick 0)) })
    (not-run : (t : Table) → (number_of n t ≡ 0 → ⊥) → (s : State) (call : Call) → answered n t s call ≡ bare 9 s)
    (as_written : (t : Table) (s : State) → consistent t s ≡ true → (call : Call) → answered n t s call ≡ answered written t s call) where
  module _ (t : Table) (passed : Passed written t) (now : ℕ) (small : now < 2 ^ 32) where
    abbrev at : List Call → State
    at calls = state_after written t (start written t now) calls

    same : (calls : List Call) (call : Call) → answered n t (at calls) call ≡ answered written t (at calls) call
    same calls call = as_written t (at calls) (steady (at_good passed now small calls)) call

    same_lines : (calls : List Call) → lines n t (start written t now) calls ≡ lines written t (start written t now) calls
    unfolding lines
    same_lines [] = refl
    same_lines (call ∷ before) =
        ap (λ (h : List Line). line_of n t (current (start written t now) h) call ∷ h) (same_lines before)
        ∙ ap (λ (a : Answer). record { call = call; answer = a } ∷ lines written t (start written t now) before) (same before call)

    same_start : start written t now ≡ start n t now
    same_start =
        ap (λ (x : Start). x.state) (fresh-is t (tick now)) ∙ ap (λ (k : ℕ). empty (cond (eqb k 0) (tick now) (tick 0))) (sym (same-verdict t))
        ∙ sym (ap (λ (x : Start). x.state) (starts t (tick now)))

    kept : (calls : List Call) → Kept n t now (state_after n t (start n t now) calls) (lines n t (start n t now) calls)
    kept calls =
        subst (λ (x : State). Kept n t now (state_after n t x calls) (lines n t x calls)) same_start
        (subst (λ (h : List Line). Kept n t now (current (start written t now) h) h) (sym (same_lines calls))
        (kept_alike (promise.kept t passed now small calls) (same calls)
        (as_written t (answered written t (at calls) choose).state (steady (keep (at_good passed now small calls) choose).kept) (report CarryOn))))

  keeps : Promise n
  keeps = record {
    fresh_start = starts;
    not_run = not-run;
    kept = λ t passed now small calls. kept t (record { verdict = sym (same-verdict t) ∙ passed.verdict; limits = passed.limits }) now small calls;
  }

-- ---- the frame: of the test of consistency that the table passes

-- a consistent state is asked as by the rules
module _ (t : Table) (s : State) (e : consistent t s ≡ true) where
  tested : (a : Answer) → unless9 ours t s a ≡ cond (not (consistent t s)) (bare 9 s) a
  tested a =
      ap (λ (b : Bool). cond b a (bare 9 s)) (eq-eqb (answer (verdict t)).0 0 (consistent_tells t s e).passes)
      ∙ sym (ap (λ (b : Bool). cond (not b) (bare 9 s) a) e)

  same_answer : (call : Call) → answered (by ours) t s call ≡ answered written t s call
  unfolding Rules.release Rules.choose Rules.report choice AtReport.report
  same_answer (release k) = tested _
  same_answer choose = tested _
  same_answer (report said) = tested _

unrun : (t : Table) → ((answer (verdict t)).0 ≡ 0 → ⊥) → (s : State) (call : Call) → answered (by ours) t s call ≡ bare 9 s
unrun t bad s call = go call
  where
    none : (a : Answer) → unless9 ours t s a ≡ bare 9 s
    none a = ap (λ (b : Bool). cond b a (bare 9 s)) (ne_eqb (answer (verdict t)).0 0 bad)

    go : (call : Call) → answered (by ours) t s call ≡ bare 9 s
    go (release k) = none _
    go choose = none _
    go (report said) = none _

pub frame_keeps : Promise (by ours)
frame_keeps = keeps (by ours) (λ t. refl) (λ t now. refl) unrun same_answer

-- ---- and with the test of the mark

marked-answer : (t : Table) (s : State) (call : Call) → answered (mark_tested (by ours)) t s call ≡ if_mark_fits t s (answered (by ours) t s call)
marked-answer t s (release k) = refl
marked-answer t s choose = refl
marked-answer t s (report said) = refl

marked_unrun : (t : Table) → ((answer (verdict t)).0 ≡ 0 → ⊥) → (s : State) (call : Call) → answered (mark_tested (by ours)) t s call ≡ bare 9 s
marked_unrun t bad s call = marked-answer t s call ∙ ap (if_mark_fits t s) (unrun t bad s call) ∙ go (mark_fits t.count s.tick.0 s.mark)
  where
    go : (b : Bool) → cond b (bare 9 s) (bare 9 s) ≡ bare 9 s
    go true = refl
    go false = refl

marked-same : (t : Table) (s : State) → consistent t s ≡ true → (call : Call) → answered (mark_tested (by ours)) t s call ≡ answered written t s call
marked-same t s e call =
    marked-answer t s call ∙ ap (λ (b : Bool). cond b (answered (by ours) t s call) (bare 9 s)) (mark_holds t.count s.tick.0 s.mark (consistent_tells t s e).mark) ∙ same_answer t s e call

pub mark_frame_keeps : Promise (mark_tested (by ours))
mark_frame_keeps = keeps (mark_tested (by ours)) (λ t. refl) (λ t now. refl) marked_unrun marked-same
