-- As long as no job has taken a resource nobody holds one, no mark stands, and every choice is independent. Assumes nothing.
use Rattle.std.specs.Prelude.{None}
use Prim.Native.Nat.{ℕ, ◌^◌, ◌<◌, ◌≤◌}
use mathlib.Core.Path.{◌≡◌, refl, sym, ap, ◌∙◌}
use mathlib.Core.Bool.{Bool, true, false, cond, not, ◌&&◌, false≢true}
use mathlib.Core.List.{List, [], ◌∷◌, map}
use native.Mathlib.Decide.{dec_lt}
use native.Mathlib.Omega.{arith}
use lib.Dec.{eqb}
use Rattle.units.proofs.Laws.Folds.{both}
use Rattle.table.specs.declared.Table.{Table}
use Rattle.table.specs.Table.{task_at, D, ceilings}
use Rattle.state.specs.declared.State.{State}
use Rattle.state.specs.Answers.{Answer}
use Rattle.state.specs.declared.Job.{Job}
use Rattle.state.specs.declared.Report.TheVariants.{CarryOn, Done, Take, Give}
use Rattle.state.specs.declared.Section.{Section}
use Rattle.state.specs.declared.Mode.TheVariants.{Independent}
use Rattle.state.specs.State.{job_at}
use Rattle.state.specs.Order.{position_of, no_place, is_holder, holds_any, last_holder}
use Rattle.state.proofs.Laws.Order.{last_found}
use Rattle.state.proofs.Laws.Fresh.{empty-is}
use Rattle.choice.specs.declared.Turn.{Turn}
use Rattle.choice.specs.Choice.{top, turn, runner, blocked, alone}
use Rattle.choice.proofs.Laws.Choice as Law
use Rattle.choice.proofs.Laws.Bars.{bars-held}
use Rattle.choice.proofs.Laws.Ready.{blocked_tells}
use Rattle.choice.proofs.Laws.Runner.{runner_free, turn-runs}
use Rattle.choice.proofs.Laws.Rules as Rules
use Rattle.units.specs.Clock.{tick}
use Rattle.promise.specs.History.{written, pending_by, absent_by, succeeds, is_take, none_taken, Line, lines, Call, release, choose, report, answered, is_own, is_tick, is_at, is_report, is_choice, sections, stack_of, latest, takes_on, is_there, after_call, longer}
use Rattle.promise.specs.Promise.{Passed}
use Rattle.promise.proofs.Keep.Made.{Made, refused, takes-on, chooses, idles, runs}
use Rattle.promise.proofs.History.Listed.{as_listed}
use Rattle.promise.proofs.History.Holds.{state-is}
use Rattle.promise.proofs.History.Start.{at, history, at_good, made, start_is}

nothing-held : (call : Call) (n : Bool) → not (is_take call && n) ≡ true → (v : ℕ) → n ≡ true → after_call call (map (longer v) []) ≡ []
nothing-held (release k) n e v f = refl
nothing-held choose n e v f = refl
nothing-held (report CarryOn) n e v f = refl
nothing-held (report Done) n e v f = refl
nothing-held (report (Take r)) n e v f = absurd (false≢true (sym (ap not f) ∙ e))
nothing-held (report Give) n e v f = refl

no_sections : (k : ℕ) (h : List Line) → none_taken h ≡ true → sections k h ≡ []
unfolding sections none_taken
no_sections k [] e = refl
no_sections k (l ∷ h) e = go (no_sections k h (both (not (is_take l.call && succeeds l)) (none_taken h) e).1) (is_own k l) refl
  where
    go : sections k h ≡ [] → (b : Bool) → is_own k l ≡ b → cond b (after_call l.call (map (longer l.answer.speed) (sections k h))) (sections k h) ≡ []
    go n false f = n
    go n true f =
        ap (λ (x : List Section). after_call l.call (map (longer l.answer.speed) x)) n
        ∙ nothing-held l.call (succeeds l) (both (not (is_take l.call && succeeds l)) (none_taken h) e).0 l.answer.speed (both (is_report l.call) (succeeds l) (both (is_tick l) (is_at k l.answer.runner) f).0).1

none_since : (k : ℕ) (h : List Line) → none_taken h ≡ true → none_taken (latest k h) ≡ true
unfolding latest none_taken
none_since k [] e = refl
none_since k (l ∷ h) e = go (none_since k h (both (not (is_take l.call && succeeds l)) (none_taken h) e).1) (takes_on k l)
  where
    go : none_taken (latest k h) ≡ true → (b : Bool) → none_taken (cond b [] (l ∷ latest k h)) ≡ true
    go n true = refl
    go n false = rw ((both (not (is_take l.call && succeeds l)) (none_taken h) e).0, n) refl

module _ {t : Table} (passed : Passed written t) (now : ℕ) (small : now < 2 ^ 32) where
  holds_none : (calls : List Call) → none_taken (history passed now small calls) ≡ true → (k : ℕ) → holds_any (job_at (at passed now small calls) k).held ≡ false
  holds_none calls e k =
      ap (λ (j : Job). holds_any j.held) (state-is (at_good passed now small calls) (as_listed passed now small calls) k) ∙ go (is_there t k h)
    where
      h : List Line
      h = history passed now small calls

      go : (b : Bool) → holds_any (cond b (pending_by t (at passed now small calls).tick.0 k h) (absent_by t k h)).held ≡ false
      go false = refl
      go true = ap (λ (l : List Section). holds_any (stack_of l)) (no_sections k (latest k h) (none_since k h e))

  -- with nobody holding anything and no mark, the runner is top, by rule 5
  module _ (calls : List Call) (e : none_taken (history passed now small calls) ≡ true) (absent : (at passed now small calls).mark ≡ None) where
    abbrev s : State
    s = at passed now small calls

    free : (b : Bool) → blocked t s (position_of (top s)) ≡ b → blocked t s (position_of (top s)) ≡ false
    free false f = f
    free true f = let w = (blocked_tells t s (position_of (top s)) f).1 in absurd (false≢true (sym (holds_none calls e w.0) ∙ bars-held (ceilings t) (D t (position_of (top s))) (job_at s w.0).held w.1.1))

    is-top : runner t s ≡ top s
    is-top = runner_free t s (free (blocked t s (position_of (top s))) refl)

    no_holder : Dec (0 < last_holder s (runner t s)) → last_holder s (runner t s) ≤ 0
    no_holder (no l) = omega arith
    no_holder (yes l) =
        let w = last_found s (runner t s) l in
        let x = (both (is_holder (job_at s w.0)) _ w.2).0 in
        absurd (false≢true (sym (holds_none calls e w.0) ∙ (both (holds_any (job_at s w.0).held) _ x).0))

    by_rule_5 : top s < no_place → turn t s ≡ alone (runner t s) (task_at t (position_of (runner t s)))
    by_rule_5 l = turn-runs t s l ∙ Rules.rule_5 t s (runner t s) is-top (no_holder (dec_lt 0 (last_holder s (runner t s)))) absent

    turn-unmarked : Dec (top s < no_place) → (turn t s).mark ≡ None
    turn-unmarked (yes l) = ap (λ (u : Turn). u.mark) (by_rule_5 l)
    turn-unmarked (no l) = ap (λ (u : Turn). u.mark) (Law.idle-turn t s (omega arith))

  unmarked : (calls : List Call) → none_taken (history passed now small calls) ≡ true → (at passed now small calls).mark ≡ None
  unfolding lines none_taken
  unmarked [] e = ap (λ (s : State). s.mark) (start_is passed now small ∙ empty-is (tick now))
  unmarked (call ∷ before) e =
      let f : none_taken (history passed now small before) ≡ true = (both (not (is_take call && eqb (answered written t (at passed now small before) call).number 0)) _ e).1 in
      go f (unmarked before f) (made passed now small before call)
    where
      s : State
      s = at passed now small before

      go : none_taken (history passed now small before) ≡ true → s.mark ≡ None → Made t s call (answered written t s call) → (answered written t s call).state.mark ≡ None
      go f m (refused n l e) = ap (λ (a : Answer). a.state.mark) e ∙ m
      go f m (takes-on p c l g e) = ap (λ (a : Answer). a.state.mark) e ∙ m
      go f m (chooses c e) = ap (λ (a : Answer). a.state.mark) e ∙ ap (λ (x : State). x.mark) (Law.choice-is t s) ∙ turn-unmarked before f m (dec_lt (top s) no_place)
      go f m (idles c h r g e) = ap (λ (a : Answer). a.state.mark) e ∙ m
      go f m (runs p said c h r l g x e) = ap (λ (a : Answer). a.state.mark) e ∙ m

  pub quiet : (calls : List Call) → none_taken (history passed now small calls) ≡ true → let a = answered written t (at passed now small calls) choose in a.number ≡ 0 → a.mode ≡ Independent
  quiet calls e zero = go (made passed now small calls choose)
    where
      s : State
      s = at passed now small calls

      a : Answer
      a = answered written t s choose

      go : Made t s choose a → a.mode ≡ Independent
      go (refused n l f) = absurd (omega (arith, l, zero, ap (λ (b : Answer). b.number) f))
      go (takes-on p c l g f) = absurd (false≢true (sym (ap is_choice c)))
      go (idles c h r g f) = absurd (false≢true (ap is_report c))
      go (runs p q c h r l g x f) = absurd (false≢true (ap is_report c))
      go (chooses c f) = ap (λ (b : Answer). b.mode) f ∙ ap (λ (u : Turn). u.mode) (Law.choice-turn t s) ∙ by (dec_lt (top s) no_place)
        where
          by : Dec (top s < no_place) → (turn t s).mode ≡ Independent
          by (no l) = ap (λ (u : Turn). u.mode) (Law.idle-turn t s (omega arith))
          by (yes l) = ap (λ (u : Turn). u.mode) (by_rule_5 calls e (unmarked calls e) l)
