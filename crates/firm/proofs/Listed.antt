-- Each state of a listing is a place of a history, and its lines show few numbers. Assumes nothing.
use Rattle.std.specs.Prelude.{Some, None}
use Prim.Native.Nat.{ℕ, zero, suc, ◌+◌, ◌^◌, ◌<◌}
use mathlib.Core.Path.{◌≡◌, refl, sym, ap, ◌∙◌, subst}
use mathlib.Core.Bool.{Bool, true, false, cond, ◌||◌, false≢true}
use mathlib.Core.List.{List, [], ◌∷◌}
use mathlib.Core.Logic.{◌⊎◌, inl, inr}
use mathlib.Core.Option.{Option, none}
use lib.ListN.{length}
use lib.Dec.{eqb, leb}
use borrow.Author.Tests.{eq-eqb}
use Rattle.units.specs.Folds.{over}
use Rattle.table.specs.{declared.Task.Task, declared.Table.Table, Table.task_at, Table.limit}
use Rattle.state.specs.{declared.State.State, Answers.Answer, declared.Section.Section, State.Runner, declared.Report.Report, declared.Report.TheVariants.CarryOn, declared.Report.TheVariants.Done, declared.Report.TheVariants.Take, declared.Report.TheVariants.Give}
use Rattle.records.specs.declared.Event.{Event}
use Rattle.records.specs.{Records.first_event, Contents.event}
use Rattle.lines.specs.declared.Line.TheVariants as Line
use Rattle.listing.specs.declared.Step.{Step}
use Rattle.listing.specs.Listing.{step, ticked, more, page}
use Rattle.promise.specs.History.{written, Line as Told, line_of, lines, Call, release, choose, report, answered, start, state_after, sections, is_held, latest, wait, standing, objection, of_report, number_by}
use Rattle.promise.specs.Promise.{Passed}
use Rattle.promise.proofs.Promise.{promise}
use Rattle.promise.proofs.History.List.{standing_new}
use Rattle.firm.specs.Listed.{Place, Shows, Listed}

module _ (t : Table) (passed : Passed written t) (now : ℕ) (small : now < 2 ^ 32) where
  abbrev at : List Call → State
  at calls = state_after written t (start written t now) calls

  abbrev told : List Call → List Told
  told calls = lines written t (start written t now) calls

  zero_number : (calls : List Call) → standing (told calls) ≡ none → (answered written t (at calls) choose).number ≡ 0
  zero_number calls e = (promise.kept t passed now small calls).by_the_list choose ∙ ap (λ (o : Option Answer). number_by t (told calls) o choose) e

  on : (calls : List Call) → standing (told calls) ≡ none → (e : Event) → Place t now (step t (at calls) e).state
  unfolding step lines standing
  on calls none-stands (Event.Release p) = record { calls = release p ∷ calls; is = refl; between = go (eqb (answered written t (at calls) (release p)).number 0) }
    where
      go : (b : Bool) → cond b (standing (told calls)) (standing (told calls)) ≡ none
      go true = none-stands
      go false = none-stands
  on calls none-stands (Event.Tick said) = first (eqb c.number 0) (eq-eqb c.number 0 (zero_number calls none-stands))
    where
      c : Answer
      c = answered written t (at calls) choose

      r : Answer
      r = answered written t c.state (report said)

      ran : Step
      ran = record { line = Line.Run (at calls).tick r.runner r.mode r.speed r.ending; state = r.state }

      undone : Step
      undone = record { line = Line.Refused (at calls).tick r.number; state = at calls }

      second : (b : Bool) → eqb r.number 0 ≡ b → Place t now (cond b ran undone).state
      second true e = record { calls = report said ∷ choose ∷ calls; is = refl; between = ap (λ (b : Bool). cond b none (standing (told (choose ∷ calls)))) e }
      second false e = record { calls = calls; is = refl; between = none-stands }

      first : (b : Bool) → b ≡ true → Place t now (ticked (at calls) (cond b r c)).state
      first true f = second (eqb r.number 0) refl
      first false f = absurd (false≢true f)

  -- what a line of it shows
  either : (b : Bool) (n : ℕ) → (n ≡ cond b 10 0) ⊎ (n ≡ cond b 10 12) → (n ≡ 0) ⊎ ((n ≡ 10) ⊎ (n ≡ 12))
  either true n (inl e) = inr (inl e)
  either false n (inl e) = inl e
  either true n (inr e) = inr (inl e)
  either false n (inr e) = inr (inr e)

  of_release : (b c : Bool) (n : ℕ) → n ≡ cond b 10 (cond c 0 12) → (n ≡ 0) ⊎ ((n ≡ 10) ⊎ (n ≡ 12))
  of_release b true n e = either b n (inl e)
  of_release b false n e = either b n (inr e)

  abbrev Few : ℕ → Type 0
  Few n = (n ≡ 0) ⊎ ((n ≡ 13) ⊎ (n ≡ 14))

  few_take : (b : Bool) → Few (cond b 13 0)
  few_take true = inr (inl refl)
  few_take false = inl refl

  few_held : (a b : Bool) → Few (cond a 14 (cond b 13 0))
  few_held true b = inr (inr refl)
  few_held false b = few_take b

  few_of : (task : Task) (l : List Section) (said : Report) → Few (objection task l said)
  few_of task l CarryOn = inl refl
  few_of task l Done = inl refl
  few_of task l (Take r) = few_held (is_held r l || leb 4 (length l)) (eqb (limit task r) 0)
  few_of task [] Give = inr (inr refl)
  few_of task (x ∷ l) Give = inl refl

  few_by : (h : List Told) (r : Runner) (said : Report) → Few (of_report t h r said)
  few_by h None CarryOn = inl refl
  few_by h None Done = inr (inr refl)
  few_by h None (Take r) = inr (inr refl)
  few_by h None Give = inr (inr refl)
  few_by h (Some k) said = few_of (task_at t k) (sections k (latest k h)) said

  shows : (calls : List Call) → standing (told calls) ≡ none → (e : Event) → Shows (step t (at calls) e).line
  unfolding step lines
  shows calls none-stands (Event.Release p) =
      of_release (leb t.count p) (eqb (wait t p (told calls)) 0) (answered written t (at calls) (release p)).number
      ((promise.kept t passed now small calls).by_the_list (release p) ∙ ap (λ (o : Option Answer). number_by t (told calls) o (release p)) none-stands)
  shows calls none-stands (Event.Tick said) = first (eqb c.number 0) (eq-eqb c.number 0 (zero_number calls none-stands))
    where
      c : Answer
      c = answered written t (at calls) choose

      r : Answer
      r = answered written t c.state (report said)

      number : Few r.number
      number =
          subst Few
          (sym ((promise.kept t passed now small (choose ∷ calls)).by_the_list (report said)
          ∙ ap (λ (o : Option Answer). number_by t (told (choose ∷ calls)) o (report said)) (standing_new (line_of written t (at calls) choose) (told calls) (eq-eqb _ _ (zero_number calls none-stands)))))
          (few_by (told (choose ∷ calls)) c.runner said)

      ran : Step
      ran = record { line = Line.Run (at calls).tick r.runner r.mode r.speed r.ending; state = r.state }

      undone : Step
      undone = record { line = Line.Refused (at calls).tick r.number; state = at calls }

      second : (b : Bool) → eqb r.number 0 ≡ b → Few r.number → Shows (cond b ran undone).line
      second true e few = tt
      second false e (inl z) = absurd (false≢true (sym e ∙ eq-eqb _ _ z))
      second false e (inr z) = z

      first : (b : Bool) → b ≡ true → Shows (ticked (at calls) (cond b r c)).line
      first true f = second (eqb r.number 0) refl number
      first false f = absurd (false≢true f)

  module _ (file : List ℕ) where
    covered : (n : ℕ) → Place t now (page file t (start written t now) n).state
    unfolding page more over lines standing
    covered zero = record { calls = []; is = refl; between = refl }
    covered (suc n) =
        let w = covered n in
        subst (λ (s : State). Place t now (step t s (event file (first_event file + n))).state) (sym w.is) (on w.calls w.between (event file (first_event file + n)))

    numbers : (n : ℕ) (e : Event) → Shows (step t (page file t (start written t now) n).state e).line
    numbers n e = let w = covered n in subst (λ (s : State). Shows (step t s e).line) (sym w.is) (shows w.calls w.between e)

pub as_listed : Listed
as_listed = record { covered = λ file t passed now small. covered t passed now small file; numbers = λ file t passed now small. numbers t passed now small file }
