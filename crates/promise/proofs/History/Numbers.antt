-- The number of each call, by the whole list, and what a refusal and a release answer. Assumes nothing.
use Rattle.std.specs.Prelude.{Some, None}
use Prim.Native.Nat.{ℕ, zero, suc, ◌≤◌, ◌<◌}
use mathlib.Core.Path.{◌≡◌, refl, sym, ap, ap₂, ◌∙◌}
use mathlib.Core.Bool.{Bool, true, false, cond, ◌||◌, false≢true}
use mathlib.Core.List.{List}
use mathlib.Core.Logic.{◌⊎◌, inl, inr}
use mathlib.Core.Option.{Option, none, some}
use native.Mathlib.Decide.{dec_le, dec_lt}
use native.Mathlib.Omega.{arith}
use lib.ListN.{length}
use lib.Dec.{eqb, ltb, leb}
use borrow.Author.Tests.{eq-eqb, ne_eqb, eqb-false, le-leb, lt-leb, lt-ltb}
use Rattle.units.specs.Sets.{has}
use Rattle.units.proofs.Laws.Tests.{cond_yes}
use Rattle.table.specs.declared.Table.{Table}
use Rattle.table.specs.Table.{task_at, limit}
use Rattle.state.specs.declared.Section.{Section}
use Rattle.state.specs.declared.Stack.{Stack}
use Rattle.state.specs.declared.Half.TheVariants.{First, Second}
use Rattle.state.specs.declared.Report.{Report}
use Rattle.state.specs.declared.Report.TheVariants.{CarryOn, Done, Take, Give}
use Rattle.state.specs.declared.State.{State}
use Rattle.state.specs.State.{job_at, Runner}
use Rattle.state.specs.Answers.{Answer, bare}
use Rattle.state.specs.Stack.{section_at}
use Rattle.state.specs.Order.{holds, held_resources}
use Rattle.choice.specs.Choice.{turn}
use Rattle.report.specs.Report as Report
use Rattle.report.proofs.Laws.Answers.{idle-objects, can-take}
use Rattle.consistency.proofs.Laws.Jobs.{StackFits}
use Rattle.machine.proofs.Laws.Calls as Calls
use Rattle.promise.specs.History.{written, Call, release, choose, report, answered, Line, is_report, is_choice, wait, standing, is_held, objection, of_report, number_by}
use Rattle.promise.specs.Promise.{Passed}
use Rattle.promise.proofs.Edge.Invariant.{Good}
use Rattle.promise.proofs.Keep.Made.{Made, refused, takes-on, chooses, idles, runs, steady, middle}
use Rattle.promise.proofs.Keep.Made as Made
use Rattle.promise.proofs.Keep.Idle.{idle_goes_on}
use Rattle.promise.proofs.Keep.Each.{keep}
use Rattle.promise.proofs.Keep.Run.{none_holds, run_number}
use Rattle.promise.proofs.Keep.Run as Run
use Rattle.promise.proofs.History.Listed.{Stage, between, midway, Listed}
use Rattle.promise.proofs.History.Opened.{down, opened}
use Rattle.promise.proofs.History.Places.{opened_length, held-is}
use Rattle.promise.proofs.History.Holds.{tells, stack-fits}

abbrev carries : Report → Bool
carries CarryOn = true
carries Done = false
carries (Take r) = false
carries Give = false

module _ {t : Table} {passed : Passed written t} {s : State} (good : Good passed s) {h : List Line} (listed : Listed t s h) where
  abbrev reply : Call → Answer
  reply call = answered written t s call

  module _ (m : s.half ≡ Second) where
    -- of a report at an idle tick
    idle-number : (turn t s).runner ≡ None → (said : Report) → (reply (report said)).number ≡ of_report t h None said
    idle-number r said = go said (idle-objects t s r said)
      where
        objects : (said : Report) → Report.report t s said ≡ bare 14 s → (reply (report said)).number ≡ 14
        objects said e = ap (λ (a : Answer). a.number) (Calls.report-runs t s (steady good) said (middle good m) ∙ e)

        go : (said : Report) → (said ≡ CarryOn) ⊎ (Report.report t s said ≡ bare 14 s) → (reply (report said)).number ≡ of_report t h None said
        go CarryOn e = idle_goes_on good m r
        go Done (inr e) = objects Done e
        go (Take q) (inr e) = objects (Take q) e
        go Give (inr e) = objects Give e
        go Done (inl e) = absurd (false≢true (ap carries e))
        go (Take q) (inl e) = absurd (false≢true (ap carries e))
        go Give (inl e) = absurd (false≢true (ap carries e))

    -- of the report of a job
    module _ (p : ℕ) (r : (turn t s).runner ≡ Some p) where
      abbrev held : ℕ
      held = held_resources s

      abbrev own : Stack
      own = (job_at s p).held

      fits : StackFits own
      fits = stack-fits good listed p

      -- a take: one that is held already, or a fifth; else by its limit, and nobody else holds it
      take-objection : (q : ℕ) → Report.objection (task_at t p) (job_at s p) held (Take q) ≡ objection (task_at t p) (opened own) (Take q)
      take-objection q = ap (λ (b : Bool). cond b 14 (cond (eqb (limit (task_at t p) q) 0) 13 (cond (has held q) 15 0))) same ∙ go _ (sym same) _ refl _ refl
        where
          same : (holds q own || leb 4 own.depth) ≡ (is_held q (opened own) || leb 4 (length (opened own)))
          same = ap₂ (λ (b : Bool) (n : ℕ). b || leb 4 n) (held-is own fits q) (sym (opened_length own))

          some-limit : (n : ℕ) → (n ≡ 0 → ⊥) → 0 < n
          some-limit n f = omega (arith, f)

          of : Bool → Bool → ℕ → ℕ
          of b c n = cond b 14 (cond c 13 n)

          go : (b : Bool) → b ≡ (holds q own || leb 4 own.depth) → (c : Bool) → eqb (limit (task_at t p) q) 0 ≡ c → (d : Bool) → has held q ≡ d → of b c (cond d 15 0) ≡ of b c 0
          go true e c f d g = refl
          go false e true f d g = refl
          go false e false f false g = refl
          go false e false f true g = absurd (none_holds good m p r q (can-take (job_at s p) q (sym e)) (some-limit (limit (task_at t p) q) (eqb-false _ _ f)) g)

      give-objection : (n : ℕ) → cond (ltb 0 n) 0 14 ≡ objection (task_at t p) (down (section_at own) n) Give
      unfolding down
      give-objection zero = refl
      give-objection (suc n) = cond_yes _ _ (lt-ltb 0 (suc n) (omega arith))

      same-objection : (said : Report) → Report.objection (task_at t p) (job_at s p) held said ≡ objection (task_at t p) (opened own) said
      same-objection CarryOn = refl
      same-objection Done = refl
      same-objection Give = give-objection own.depth
      same-objection (Take q) = take-objection q

      job_number : (said : Report) → (reply (report said)).number ≡ of_report t h (Some p) said
      job_number said =
          run_number good m p r said ∙ same-objection said ∙ ap (λ (l : List Section). objection (task_at t p) l said) (tells good listed p (Run.there good m p r)).held

    report-number : (said : Report) → (reply (report said)).number ≡ of_report t h (turn t s).runner said
    report-number said = go (turn t s).runner refl
      where
        go : (q : Runner) → (turn t s).runner ≡ q → (reply (report said)).number ≡ of_report t h q said
        go None r = idle-number r said
        go (Some p) r = job_number p r said

  release-number : s.half ≡ First → (k : ℕ) → (reply (release k)).number ≡ cond (leb t.count k) 10 (cond (eqb (wait t k h) 0) 0 12)
  release-number f k = go (dec_lt k t.count) (dec_le (job_at s k).wait.0 0)
    where
      number : {a : Answer} → reply (release k) ≡ a → (reply (release k)).number ≡ a.number
      number e = ap (λ (a : Answer). a.number) e

      go : Dec (k < t.count) → Dec ((job_at s k).wait.0 ≤ 0) → (reply (release k)).number ≡ cond (leb t.count k) 10 (cond (eqb (wait t k h) 0) 0 12)
      go (no l) w = number (Calls.release_10 t s (steady good) (Made.between good f) k (omega arith)) ∙ sym (ap (λ (b : Bool). cond b 10 (cond (eqb (wait t k h) 0) 0 12)) (le-leb t.count k (omega arith)))
      go (yes l) (no w) =
          number (Calls.release_12 t s (steady good) (Made.between good f) k l (omega arith))
          ∙ sym (ap (λ (b : Bool). cond b 10 (cond (eqb (wait t k h) 0) 0 12)) (lt-leb t.count k l) ∙ ap (λ (b : Bool). cond b 0 12) (ne_eqb (wait t k h) 0 (λ z. omega (arith, w, listed.waits k))))
      go (yes l) (yes w) =
          number (Calls.release-taken t s (steady good) (Made.between good f) k l w)
          ∙ sym (ap (λ (b : Bool). cond b 10 (cond (eqb (wait t k h) 0) 0 12)) (lt-leb t.count k l) ∙ ap (λ (b : Bool). cond b 0 12) (eq-eqb (wait t k h) 0 (omega (arith, w, listed.waits k))))

  pub number_is : (call : Call) → (reply call).number ≡ number_by t h (standing h) call
  number_is call = go call listed.stage
    where
      number : (call : Call) {a : Answer} → reply call ≡ a → (reply call).number ≡ a.number
      number call e = ap (λ (a : Answer). a.number) e

      go : (call : Call) → Stage t s h → (reply call).number ≡ number_by t h (standing h) call
      go call (between f n) = first call ∙ ap (λ (o : Option Answer). number_by t h o call) (sym n)
        where
          first : (call : Call) → (reply call).number ≡ number_by t h none call
          first (release k) = release-number f k
          first choose = number choose (Calls.choose-runs t s (steady good) (Made.between good f))
          first (report said) = number (report said) (Calls.report_11 t s (steady good) said (Made.between good f))
      go call (midway c f n w) = second call ∙ ap (λ (o : Option Answer). number_by t h o call) (sym n)
        where
          second : (call : Call) → (reply call).number ≡ number_by t h (some c) call
          second (release k) = number (release k) (Calls.release_11 t s (steady good) k (middle good f))
          second choose = number choose (Calls.choose_11 t s (steady good) (middle good f))
          second (report said) = report-number f said ∙ ap (λ (r : Runner). of_report t h r said) w.0

  -- ---- refusals and releases

  pub refused-bare : (call : Call) → ((reply call).number ≡ 0 → ⊥) → reply call ≡ bare (reply call).number s
  refused-bare call refusal = go (keep good call).made
    where
      taken : {b : Answer} → reply call ≡ b → b.number ≡ 0 → reply call ≡ bare (reply call).number s
      taken e z = absurd (refusal (ap (λ (b : Answer). b.number) e ∙ z))

      go : Made t s call (reply call) → reply call ≡ bare (reply call).number s
      go (refused n l e) = e ∙ ap (λ (n : ℕ). bare n s) (sym (ap (λ (b : Answer). b.number) e))
      go (takes-on p c l f e) = taken e refl
      go (chooses c e) = taken e refl
      go (idles c m r f e) = taken e refl
      go (runs p q c m r l f g e) = taken e refl

  pub released-bare : (k : ℕ) → reply (release k) ≡ bare (reply (release k)).number (reply (release k)).state
  released-bare k = go (keep good (release k)).made
    where
      is-bare : {n : ℕ} {x : State} → reply (release k) ≡ bare n x → reply (release k) ≡ bare (reply (release k)).number (reply (release k)).state
      is-bare e = e ∙ sym (ap (λ (b : Answer). bare b.number b.state) e)

      go : Made t s (release k) (reply (release k)) → reply (release k) ≡ bare (reply (release k)).number (reply (release k)).state
      go (refused n l e) = is-bare e
      go (takes-on p c l f e) = is-bare e
      go (chooses c e) = absurd (false≢true (ap is_choice c))
      go (idles c m r f e) = absurd (false≢true (ap is_report c))
      go (runs p q c m r l f g e) = absurd (false≢true (ap is_report c))
