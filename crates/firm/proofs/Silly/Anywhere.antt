-- Any machine at any place of a history: a job that is done, and the steps that a report leaves. Assumes nothing.
use Rattle.std.specs.Prelude.{Some, None}
use Prim.Native.Nat.{ℕ, ◌+◌, ◌^◌, ◌≤◌, ◌<◌}
use mathlib.Core.Path.{◌≡◌, refl, sym, ap, ◌∙◌}
use mathlib.Core.Bool.{Bool, true, false, not, ◌&&◌, ◌||◌, or-true, cond, false≢true}
use mathlib.Core.List.{List, ◌∷◌}
use native.Mathlib.Omega.{arith}
use lib.Dec.{eqb}
use Rattle.units.specs.Amounts.{given}
use Rattle.units.proofs.Laws.Folds.{both, listed_at}
use Rattle.table.specs.declared.Table.{Table}
use Rattle.table.specs.Table.{C}
use Rattle.state.specs.{declared.Section.Section, declared.State.State, Answers.Answer, State.Runner, declared.Report.Report, declared.Report.TheVariants.Done, Stack.no_section, State.job_at}
use Rattle.state.specs.declared.Job.{Job}
use Rattle.promise.specs.History.{Machine, Call, report, Line, line_of, lines, state_after, start, is_at, is_tick, is_own, steps_given, sections, is_last, ends_at, is_release, latest, is_there, ending_by, pending_by, absent_by, job_by}
use Rattle.promise.specs.Promise.{Passed, Kept, Promise}
use Rattle.promise.proofs.History.Counts.{not-worked, has-worked, same-sections, next-sections}
use Rattle.promise.proofs.History.List.{is-pending, latest_on, there_on}
use Rattle.firm.specs.Refuted.{allowed, in_section}
use Rattle.firm.proofs.Silly.First.{own_is}
use Rattle.firm.proofs.Silly.Sections.{steps_at, on_stack, after-le}

-- what is done has ended
done-ends : (t : Table) (k : ℕ) (l : Line) (h : List Line) → l.call ≡ report Done → is_own k l ≡ true → ends_at t k l h ≡ true
unfolding ends_at
done-ends t k l h c own =
    ap (λ (b : Bool). b && (eqb (steps_given t k (l ∷ h)) (C t k) || is_last t k l.call (sections k (l ∷ h)))) own
    ∙ ap (λ (q : Call). eqb (steps_given t k (l ∷ h)) (C t k) || is_last t k q (sections k (l ∷ h))) c
    ∙ or-true (eqb (steps_given t k (l ∷ h)) (C t k))

done_gone : (t : Table) (k : ℕ) (l : Line) (h : List Line) → l.call ≡ report Done → is_own k l ≡ true → is_there t k h ≡ true → is_there t k (l ∷ h) ≡ false
unfolding is_there
done_gone t k l h c own there =
    ap (λ (q : Call). (is_release k q && eqb l.answer.number 0) || (is_there t k h && not (ends_at t k l (latest k h)))) c
    ∙ ap (λ (b : Bool). b && not (ends_at t k l (latest k h))) there ∙ ap not (done-ends t k l (latest k h) c own)

-- the steps that the state is to hold
used-by : (t : Table) (now k : ℕ) (h : List Line) → (job_by t now k h).used.0 ≡ cond (is_there t k h) (steps_given t k (latest k h)) 0
used-by t now k h = go (is_there t k h)
  where
    go : (b : Bool) → (cond b (pending_by t now k h) (absent_by t k h)).used.0 ≡ cond b (steps_given t k (latest k h)) 0
    go true = refl
    go false = refl

-- one line more gives the job no more than it is allowed
allowed_own : (k v : ℕ) (r : Runner) → is_at k r ≡ true → allowed k r v ≡ given v
allowed_own k v None e = absurd (false≢true e)
allowed_own k v (Some p) e = ap (λ (b : Bool). cond b (given v) 0) e

given-le : (t : Table) (k : ℕ) (l : Line) (h : List Line) → steps_given t k (l ∷ h) ≤ steps_given t k h + allowed k l.answer.runner l.answer.speed
given-le t k l h = go (is_own k l) refl
  where
    go : (b : Bool) → is_own k l ≡ b → steps_given t k (l ∷ h) ≤ steps_given t k h + allowed k l.answer.runner l.answer.speed
    go true e = omega (arith, has-worked l h t k e, allowed_own k l.answer.speed l.answer.runner (both (is_tick l) _ e).1)
    go false e = omega (arith, not-worked l h t k e)

-- each section likewise
module _ (i : ℕ) (b : i < 4) where
  section_by : (t : Table) (now k : ℕ) (h : List Line) → in_section (job_by t now k h).held i ≡ cond (is_there t k h) (steps_at (sections k (latest k h)) i) 0
  section_by t now k h = go (is_there t k h)
    where
      go : (b : Bool) → in_section (cond b (pending_by t now k h) (absent_by t k h)).held i ≡ cond b (steps_at (sections k (latest k h)) i) 0
      go true = on_stack (sections k (latest k h)) i b
      go false = ap (λ (x : Section). x.steps.0) (listed_at no_section (λ (i : ℕ). no_section) 4 i b)

section_le : (i : ℕ) (t : Table) (k : ℕ) (l : Line) (h : List Line) → steps_at (sections k (l ∷ h)) i ≤ steps_at (sections k h) i + allowed k l.answer.runner l.answer.speed
section_le i t k l h = go (is_own k l) refl
  where
    go : (b : Bool) → is_own k l ≡ b → steps_at (sections k (l ∷ h)) i ≤ steps_at (sections k h) i + allowed k l.answer.runner l.answer.speed
    go true e =
        omega (arith, ap (λ (x : List Section). steps_at x i) (next-sections l h t k e), after-le l.answer.speed l.call (sections k h) i, allowed_own k l.answer.speed l.answer.runner (both (is_tick l) _ e).1)
    go false e = omega (arith, ap (λ (x : List Section). steps_at x i) (same-sections l h t k e))

module _ (m : Machine) where
  -- a job that is done
  module _ (t : Table) (passed : Passed m t) (now : ℕ) (small : now < 2 ^ 32) (calls : List Call) (k : ℕ) where
    abbrev s : State
    s = state_after m t (start m t now) calls

    abbrev h : List Line
    h = lines m t (start m t now) calls

    abbrev a : Answer
    a = m.report t s Done

    module _ (zero : a.number ≡ 0) (runs : a.runner ≡ Some k) (keeps : Promise m) where
      own : is_own k (line_of m t s (report Done)) ≡ true
      own = own_is k Done a zero runs

      is-there : is_there t k h ≡ true
      is-there = ((keeps.kept t passed now small calls).within_limits Done k own).there

      after : Kept m t now a.state (line_of m t s (report Done) ∷ h)
      unfolding lines
      after = keeps.kept t passed now small (report Done ∷ calls)

      pub is_gone : (job_at a.state k).pending ≡ false
      is_gone = is-pending after k ∙ done_gone t k (line_of m t s (report Done)) h refl own is-there

      pub is_said : a.ending ≡ 1
      is_said =
          (keeps.kept t passed now small calls).says_ending (report Done) ∙ ap (ending_by t h (line_of m t s (report Done))) runs
          ∙ ap (λ (b : Bool). cond b 1 0) (done-ends t k (line_of m t s (report Done)) (latest k h) refl own)

  -- a report leaves no job with steps that no tick gave it: whatever is read off a job, if the lines tell it and one line more adds no more to it than is allowed
  module _ (t : Table) (passed : Passed m t) (now : ℕ) (small : now < 2 ^ 32) (calls : List Call) (said : Report) (k : ℕ) (keeps : Promise m)
      (read : Job → ℕ) (told : List Line → ℕ) (read_by_lem : (now : ℕ) (h : List Line) → read (job_by t now k h) ≡ cond (is_there t k h) (told (latest k h)) 0)
      (grows : (l : Line) (h : List Line) → told (l ∷ h) ≤ told h + allowed k l.answer.runner l.answer.speed) where
    abbrev was : State
    was = state_after m t (start m t now) calls

    abbrev before : List Line
    before = lines m t (start m t now) calls

    abbrev l : Line
    l = line_of m t was (report said)

    read_before : is_there t k before ≡ true → read (job_at was k) ≡ told (latest k before)
    read_before e = ap read ((keeps.kept t passed now small calls).in_the_state k) ∙ read_by_lem was.tick.0 before ∙ ap (λ (b : Bool). cond b (told (latest k before)) 0) e

    read_after : (b : Bool) → is_there t k (l ∷ before) ≡ b → read (job_at l.answer.state k) ≡ cond b (told (l ∷ latest k before)) 0
    unfolding lines
    read_after b e =
        ap read ((keeps.kept t passed now small (report said ∷ calls)).in_the_state k) ∙ read_by_lem l.answer.state.tick.0 (l ∷ before)
        ∙ ap (λ (b : Bool). cond b (told (latest k (l ∷ before))) 0) e ∙ ap (λ (x : List Line). cond b (told x) 0) (latest_on l before k refl)

    none_more : read (job_at was k) + allowed k l.answer.runner l.answer.speed < read (job_at l.answer.state k) → ⊥
    none_more more = go (is_there t k (l ∷ before)) refl
      where
        go : (b : Bool) → is_there t k (l ∷ before) ≡ b → ⊥
        go false e = omega (arith, more, read_after false e)
        go true e =
            let there = (both (is_there t k before) (not (ends_at t k l (latest k before))) (sym (there_on l before k t refl) ∙ e)).0 in
            omega (arith, more, read_after true e, read_before there, grows l (latest k before))

  module _ (t : Table) (passed : Passed m t) (now : ℕ) (small : now < 2 ^ 32) (calls : List Call) (said : Report) (k : ℕ) (keeps : Promise m) where
    pub none_added : let s = state_after m t (start m t now) calls in let a = m.report t s said in (job_at s k).used.0 + allowed k a.runner a.speed < (job_at a.state k).used.0 → ⊥
    none_added = none_more t passed now small calls said k keeps (λ j. j.used.0) (steps_given t k) (λ now h. used-by t now k h) (given-le t k)

    pub none_longer : (i : ℕ) → i < 4 → let s = state_after m t (start m t now) calls in let a = m.report t s said in in_section (job_at s k).held i + allowed k a.runner a.speed < in_section (job_at a.state k).held i → ⊥
    none_longer i b = none_more t passed now small calls said k keeps (λ j. in_section j.held i) (λ h. steps_at (sections k h) i) (λ now h. section_by i b t now k h) (section_le i t k)
