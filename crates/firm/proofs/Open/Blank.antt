-- What is read off the lines is read off their calls, numbers, runners, modes and speeds: with the states and the endings left blank it is the same. Assumes nothing.
use Rattle.std.specs.Prelude.{Some, None}
use Prim.Native.Nat.{ℕ, ◌+◌, ◌-◌, min}
use mathlib.Core.Path.{◌≡◌, refl, ap, ◌∙◌}
use mathlib.Core.Bool.{Bool, true, false, cond, ◌&&◌, ◌||◌, not}
use mathlib.Core.List.{List, [], ◌∷◌, map}
use mathlib.Core.Option.{Option, none, some}
use lib.Dec.{eqb, leb}
use Rattle.units.specs.Amounts.{given, ticks, steps}
use Rattle.units.specs.Clock.{tick, after}
use Rattle.table.specs.declared.Table.{Table}
use Rattle.table.specs.Table.{C, D, task_at}
use Rattle.state.specs.Answers.{Answer}
use Rattle.state.specs.declared.Section.{Section}
use Rattle.state.specs.Stack.{nothing}
use Rattle.state.specs.declared.Report.{Report}
use Rattle.state.specs.declared.Report.TheVariants.{CarryOn, Done, Take, Give}
use Rattle.state.specs.State.{empty, Runner}
use Rattle.promise.specs.History.{Line, Call, release, choose, report, is_tick, is_own, is_start, takes_on, opens, longer, after_call, is_last, ticks_closed, steps_given, sections, has_started, ends_at, latest, is_there, ticks_left, wait, standing, of_report, objection, number_by, how_ended, ending_by, job_by, stack_of, half_by, runner_by}

abbrev pub blank : Answer → Answer
blank a = record { number = a.number; state = empty (tick 0); runner = a.runner; mode = a.mode; speed = a.speed; ending = 0 }

abbrev pub blank_line : Line → Line
blank_line l = record { call = l.call; answer = blank l.answer }

unfoldable pub blanks : List Line → List Line
blanks [] = []
blanks (l ∷ h) = blank_line l ∷ blanks h

pub blank_ticks : (h : List Line) → ticks_closed (blanks h) ≡ ticks_closed h
unfolding ticks_closed blanks
blank_ticks [] = refl
blank_ticks (l ∷ h) = ap (λ (n : ℕ). cond (is_tick l) (n + 1) n) (blank_ticks h)

pub blank_steps : (t : Table) (k : ℕ) (h : List Line) → steps_given t k (blanks h) ≡ steps_given t k h
unfolding steps_given blanks
blank_steps t k [] = refl
blank_steps t k (l ∷ h) = ap (λ (n : ℕ). cond (is_own k l) (min (n + given l.answer.speed) (C t k)) n) (blank_steps t k h)

pub blank_sections : (k : ℕ) (h : List Line) → sections k (blanks h) ≡ sections k h
unfolding sections blanks
blank_sections k [] = refl
blank_sections k (l ∷ h) = ap (λ (x : List Section). cond (is_own k l) (after_call l.call (map (longer l.answer.speed) x)) x) (blank_sections k h)

pub blank_started : (k : ℕ) (h : List Line) → has_started k (blanks h) ≡ has_started k h
unfolding has_started blanks
blank_started k [] = refl
blank_started k (l ∷ h) = ap (λ (b : Bool). is_start k l || b) (blank_started k h)

pub blank_ends : (t : Table) (k : ℕ) (l : Line) (h : List Line) → ends_at t k (blank_line l) (blanks h) ≡ ends_at t k l h
unfolding ends_at blanks
blank_ends t k l h =
    ap (λ (n : ℕ). is_own k l && (eqb n (C t k) || is_last t k l.call (sections k (blanks (l ∷ h))))) (blank_steps t k (l ∷ h))
    ∙ ap (λ (x : List Section). is_own k l && (eqb (steps_given t k (l ∷ h)) (C t k) || is_last t k l.call x)) (blank_sections k (l ∷ h))

push : (b : Bool) (l : Line) (h : List Line) → cond b [] (blank_line l ∷ blanks h) ≡ blanks (cond b [] (l ∷ h))
unfolding blanks
push false l h = refl
push true l h = refl

pub blank_latest : (k : ℕ) (h : List Line) → latest k (blanks h) ≡ blanks (latest k h)
unfolding latest blanks
blank_latest k [] = refl
blank_latest k (l ∷ h) = ap (λ (g : List Line). cond (takes_on k l) [] (blank_line l ∷ g)) (blank_latest k h) ∙ push (takes_on k l) l (latest k h)

pub blank_there : (t : Table) (k : ℕ) (h : List Line) → is_there t k (blanks h) ≡ is_there t k h
unfolding is_there blanks
blank_there t k [] = refl
blank_there t k (l ∷ h) =
    ap (λ (b : Bool). takes_on k l || (b && not (ends_at t k (blank_line l) (latest k (blanks h))))) (blank_there t k h)
    ∙ ap (λ (b : Bool). takes_on k l || (is_there t k h && not b)) (ap (ends_at t k (blank_line l)) (blank_latest k h) ∙ blank_ends t k l (latest k h))

pub blank_wait : (t : Table) (k : ℕ) (h : List Line) → wait t k (blanks h) ≡ wait t k h
unfolding wait blanks
blank_wait t k [] = refl
blank_wait t k (l ∷ h) = ap (λ (n : ℕ). cond (takes_on k l) (task_at t k).period.0 (cond (is_tick l) (n - 1) n)) (blank_wait t k h)

abbrev pub blank_choice : Option Answer → Option Answer
blank_choice none = none
blank_choice (some c) = some (blank c)

blank_opens : (b : Bool) (call : Call) (a : Answer) (o : Option Answer) → cond b (opens call (blank a) (blank_choice o)) (blank_choice o) ≡ blank_choice (cond b (opens call a o) o)
blank_opens false call a o = refl
blank_opens true (release k) a o = refl
blank_opens true choose a o = refl
blank_opens true (report said) a o = refl

pub blank_standing : (h : List Line) → standing (blanks h) ≡ blank_choice (standing h)
unfolding standing blanks
blank_standing [] = refl
blank_standing (l ∷ h) =
    ap (λ (o : Option Answer). cond (eqb l.answer.number 0) (opens l.call (blank l.answer) o) o) (blank_standing h)
    ∙ blank_opens (eqb l.answer.number 0) l.call l.answer (standing h)

pub blank_since : (k : ℕ) (h : List Line) → sections k (latest k (blanks h)) ≡ sections k (latest k h)
blank_since k h = ap (sections k) (blank_latest k h) ∙ blank_sections k (latest k h)

of-report : (t : Table) (h : List Line) (r : Runner) (said : Report) → of_report t (blanks h) r said ≡ of_report t h r said
of-report t h None CarryOn = refl
of-report t h None Done = refl
of-report t h None (Take r) = refl
of-report t h None Give = refl
of-report t h (Some k) said = ap (λ (x : List Section). objection (task_at t k) x said) (blank_since k h)

number_of : (t : Table) (h : List Line) (o : Option Answer) (call : Call) → number_by t (blanks h) (blank_choice o) call ≡ number_by t h o call
number_of t h none (release k) = ap (λ (n : ℕ). cond (leb t.count k) 10 (cond (eqb n 0) 0 12)) (blank_wait t k h)
number_of t h none choose = refl
number_of t h none (report said) = refl
number_of t h (some c) (release k) = refl
number_of t h (some c) choose = refl
number_of t h (some c) (report said) = of-report t h c.runner said

pub blank_number : (t : Table) (h : List Line) (call : Call) → number_by t (blanks h) (standing (blanks h)) call ≡ number_by t h (standing h) call
blank_number t h call = ap (λ (o : Option Answer). number_by t (blanks h) o call) (blank_standing h) ∙ number_of t h (standing h) call

pub blank_ending : (t : Table) (h : List Line) (l : Line) (r : Runner) → ending_by t (blanks h) (blank_line l) r ≡ ending_by t h l r
blank_ending t h l None = refl
blank_ending t h l (Some k) = ap (λ (b : Bool). cond b (how_ended l.call) 0) (ap (ends_at t k (blank_line l)) (blank_latest k h) ∙ blank_ends t k l (latest k h))

pub blank_closed : (k : ℕ) (h : List Line) → ticks_closed (latest k (blanks h)) ≡ ticks_closed (latest k h)
blank_closed k h = ap ticks_closed (blank_latest k h) ∙ blank_ticks (latest k h)

pub blank_left : (t : Table) (k : ℕ) (h : List Line) → ticks_left t k (blanks h) ≡ ticks_left t k h
blank_left t k h = ap (λ (n : ℕ). D t k - n) (blank_closed k h)

pub blank_used : (t : Table) (k : ℕ) (h : List Line) → steps_given t k (latest k (blanks h)) ≡ steps_given t k (latest k h)
blank_used t k h = ap (steps_given t k) (blank_latest k h) ∙ blank_steps t k (latest k h)

pub blank_job : (t : Table) (now k : ℕ) (h : List Line) → job_by t now k (blanks h) ≡ job_by t now k h
blank_job t now k h = λ i. cond (blank_there t k h i)
    (record { pending = true; started = (ap (has_started k) (blank_latest k h) ∙ blank_started k (latest k h)) i; deadline = tick (after now (D t k - blank_closed k h i)); used = steps (blank_used t k h i); held = stack_of (blank_since k h i); wait = ticks (blank_wait t k h i) })
    (record { pending = false; started = false; deadline = tick 0; used = steps 0; held = nothing; wait = ticks (blank_wait t k h i) })

half_of : (o : Option Answer) → half_by (blank_choice o) ≡ half_by o
half_of none = refl
half_of (some c) = refl

runner_of : (o : Option Answer) → runner_by (blank_choice o) ≡ runner_by o
runner_of none = refl
runner_of (some c) = refl

pub blank_half : (h : List Line) → half_by (standing (blanks h)) ≡ half_by (standing h)
blank_half h = ap half_by (blank_standing h) ∙ half_of (standing h)

pub blank_runner : (h : List Line) → runner_by (standing (blanks h)) ≡ runner_by (standing h)
blank_runner h = ap runner_by (blank_standing h) ∙ runner_of (standing h)
