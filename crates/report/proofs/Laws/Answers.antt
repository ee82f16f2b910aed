-- What a report answers, case by case. Assumes nothing.
use Rattle.std.specs.Prelude.{Some, None}
use Prim.Native.Nat.{ℕ, ◌≤◌, ◌<◌}
use mathlib.Core.Path.{◌≡◌, refl, sym, ap, ◌∙◌}
use mathlib.Core.List.{List}
use mathlib.Core.Bool.{Bool, true, false, cond, ◌&&◌, ◌||◌, false≢true}
use mathlib.Core.Logic.{◌⊎◌, inl, inr}
use native.Mathlib.Omega.{arith}
use lib.ListN.{set}
use lib.Dec.{leb, eqb}
use borrow.Author.Tests.{eq-eqb, ne_eqb, eqb-true, eqb-false, leb-false}
use Rattle.units.specs.Clock.{distance}
use Rattle.units.specs.Folds.{some}
use Rattle.units.specs.Sets.{has}
use Rattle.units.proofs.Laws.Folds.{both, some_tells, some_holds}
use Rattle.units.proofs.Laws.Sets.{has-set}
use Rattle.table.specs.declared.Task.{Task}
use Rattle.table.specs.declared.Table.{Table}
use Rattle.table.specs.Table.{task_at, limit}
use Rattle.state.specs.declared.Job.{Job}
use Rattle.state.specs.declared.State.{State}
use Rattle.state.specs.declared.Report.{Report}
use Rattle.state.specs.declared.Report.TheVariants.{CarryOn, Done, Take, Give}
use Rattle.state.specs.declared.Ending.{Ending}
use Rattle.state.specs.declared.Ending.TheVariants as Ends
use Rattle.state.specs.State.{job_at, Runner}
use Rattle.state.specs.Order.{holds, holds_any, held_resources}
use Rattle.state.specs.Answers.{Answer, ending_number, bare}
use Rattle.choice.specs.declared.Turn.{Turn}
use Rattle.choice.specs.Choice.{turn}
use Rattle.report.specs.declared.Outcome.{Outcome}
use Rattle.report.specs.Report.{worked, settled, objection, closed, late, finished, report_run, report_idle, report_as, report}

-- ---- the objections: 14, 13, 15

-- it can be taken: this job does not hold it, and it would be no fifth
pub record Open (j : Job) (r : ℕ) : Type 0 where
  pub free : holds r j.held ≡ false
  pub room : j.held.depth < 4

none : (a b : Bool) → (a || b) ≡ false → (a ≡ false) × (b ≡ false)
none true b h = absurd (false≢true (sym h))
none false b h = (refl, h)

-- what is known of a report that no objection meets
pub record Fair (task : Task) (j : Job) (held : ℕ) (said : Report) : Type 0 where
  pub takes : (r : ℕ) → said ≡ Take r → Open j r × (0 < limit task r) × (has held r ≡ false)

abbrev wants : Report → Bool
wants CarryOn = false
wants Done = false
wants (Take r) = true
wants Give = false

abbrev wanted : Report → ℕ
wanted CarryOn = 0
wanted Done = 0
wanted (Take r) = r
wanted Give = 0

pub can-take : (j : Job) (r : ℕ) → (holds r j.held || leb 4 j.held.depth) ≡ false → Open j r
can-take j r e = let w = none _ _ e in record { free = w.0; room = leb-false 4 j.held.depth w.1 }

-- a report that one meets
pub data Objection (task : Task) (j : Job) (held n : ℕ) : Type 0 where
  holding : n ≡ 14 → Objection task j held n
  never : n ≡ 13 → Objection task j held n
  taken : (r : ℕ) → Open j r → 0 < limit task r → has held r ≡ true → n ≡ 15 → Objection task j held n

pub objection-is : (task : Task) (j : Job) (held : ℕ) (said : Report)
    → ((objection task j held said ≡ 0) × Fair task j held said) ⊎ Objection task j held (objection task j held said)
objection-is task j held said = go said
  where
    some-limit : (r : ℕ) → eqb (limit task r) 0 ≡ false → 0 < limit task r
    some-limit r f = pos (limit task r) (eqb-false (limit task r) 0 f)
      where
        pos : (n : ℕ) → (n ≡ 0 → ⊥) → 0 < n
        pos n h = omega (arith, h)

    of : Bool → Bool → ℕ
    of l b = cond l 13 (cond b 15 0)

    got : Bool → ℕ → ℕ
    got b n = cond b 14 n

    given : Bool → ℕ
    given b = cond b 0 14

    more : (r : ℕ) → Open j r → (l : Bool) → eqb (limit task r) 0 ≡ l → (b : Bool) → has held r ≡ b
        → ((of l b ≡ 0) × Fair task j held (Take r)) ⊎ Objection task j held (of l b)
    more r e true f b g = inr (never refl)
    more r e false f true g = inr (taken r e (some-limit r f) g refl)
    more r e false f false g = inl (refl, record { takes = λ q d. rw (← ap wanted d) (e, some-limit r f, g) })

    free : (said : Report) → wants said ≡ false → Fair task j held said
    free said h = record { takes = λ r e. absurd (false≢true (sym h ∙ ap wants e)) }

    give : (b : Bool) → holds_any j.held ≡ b → ((given b ≡ 0) × Fair task j held Give) ⊎ Objection task j held (given b)
    give true e = inl (refl, free Give refl)
    give false e = inr (holding refl)

    take : (r : ℕ) (b : Bool) → (holds r j.held || leb 4 j.held.depth) ≡ b
        → ((got b (of (eqb (limit task r) 0) (has held r)) ≡ 0) × Fair task j held (Take r)) ⊎ Objection task j held (got b (of (eqb (limit task r) 0) (has held r)))
    take r true e = inr (holding refl)
    take r false e = more r (can-take j r e) (eqb (limit task r) 0) refl (has held r) refl

    go : (said : Report) → ((objection task j held said ≡ 0) × Fair task j held said) ⊎ Objection task j held (objection task j held said)
    go CarryOn = inl (refl, free CarryOn refl)
    go Done = inl (refl, free Done refl)
    go Give = give (holds_any j.held) refl
    go (Take r) = take r (holds r j.held || leb 4 j.held.depth) refl

pub fair : (task : Task) (j : Job) (held : ℕ) (said : Report) → objection task j held said ≡ 0 → Fair task j held said
fair task j held said e = go (objection-is task j held said)
  where
    met : Objection task j held (objection task j held said) → ⊥
    met (holding f) = omega (arith, e, f)
    met (never f) = omega (arith, e, f)
    met (taken r x y z f) = omega (arith, e, f)

    go : ((objection task j held said ≡ 0) × Fair task j held said) ⊎ Objection task j held (objection task j held said) → Fair task j held said
    go (inl w) = w.1
    go (inr o) = absurd (met o)

-- none meets a job that carries on
pub carrying : (task : Task) (j : Job) (held : ℕ) → (objection task j held CarryOn ≡ 0) × Fair task j held CarryOn
carrying task j held = (refl, record { takes = λ r e. absurd (false≢true (ap wants e)) })

-- a resource that is in the set of those held is held by a job; one that is not, by none
pub held_by : (s : State) (r : ℕ) → r < 16 → has (held_resources s) r ≡ true → (k : ℕ) × (k < 16) × (holds r (job_at s k).held ≡ true)
unfolding held_resources
held_by s r l h = some_tells (λ k. holds r (job_at s k).held) 16 (sym (has-set _ 16 r l) ∙ h)

pub held-by-none : (s : State) (r : ℕ) → r < 16 → has (held_resources s) r ≡ false → (k : ℕ) → k < 16 → holds r (job_at s k).held ≡ true → ⊥
unfolding held_resources
held-by-none s r l h k b e = false≢true (sym h ∙ has-set _ 16 r l ∙ some_holds (λ k. holds r (job_at s k).held) 16 k b e)

-- ---- 16

pub in-time : (s : State) → ((k : ℕ) → k < 16 → (job_at s k).pending ≡ true → 1 ≤ distance s.tick.0 (job_at s k).deadline.0) → late s ≡ false
unfolding late
in-time s h = go (some stands 16) refl
  where
    stands : ℕ → Bool
    stands k = (job_at s k).pending && eqb (distance s.tick.0 (job_at s k).deadline.0) 0

    go : (b : Bool) → some stands 16 ≡ b → some stands 16 ≡ false
    go false e = e
    go true e =
        let w = some_tells stands 16 e in
        let p = both (job_at s w.0).pending _ w.2 in
        let z : distance s.tick.0 (job_at s w.0).deadline.0 ≡ 0 = eqb-true _ _ p.1 in
        absurd (omega (arith, h w.0 w.1 p.0))

-- ---- the answers

-- the runner's job after its tick, and its ending
abbrev pub outcome : Table → State → Turn → ℕ → Report → Outcome
outcome t s u p said = settled (task_at t p) said (worked (task_at t p) u.speed (job_at s p))

-- of a report that is taken
abbrev pub taken-answer : State → List Job → Turn → Ending → Answer
taken-answer s jobs u ending = record { number = 0; state = closed s jobs; runner = u.runner; mode = u.mode; speed = u.speed; ending = ending_number ending }

module _ (t : Table) (s : State) where
  -- the report of a turn, by who runs in it
  pub report-as : (said : Report) {u : Turn} {r : Runner} → u ≡ turn t s → u.runner ≡ r → report t s said ≡ report_as t s u r said
  unfolding report
  report-as said {u} e h = ap (λ (v : Turn). report_as t s v v.runner said) (sym e) ∙ ap (λ (r : Runner). report_as t s u r said) h

  closes : (jobs : List Job) (u : Turn) (ending : Ending) → late (closed s jobs) ≡ false → finished s jobs u ending ≡ taken-answer s jobs u ending
  unfolding finished
  closes jobs u ending h = rw h

  -- nobody runs
  module _ (idles : (turn t s).runner ≡ None) where
    pub idle-closes : late (closed s s.jobs) ≡ false → report t s CarryOn ≡ taken-answer s s.jobs (turn t s) Ends.GoesOn
    idle-closes h = report-as CarryOn refl idles ∙ closes s.jobs (turn t s) Ends.GoesOn h

    pub idle-objects : (said : Report) → (said ≡ CarryOn) ⊎ (report t s said ≡ bare 14 s)
    idle-objects CarryOn = inl refl
    idle-objects Done = inr (report-as Done refl idles)
    idle-objects (Take r) = inr (report-as (Take r) refl idles)
    idle-objects Give = inr (report-as Give refl idles)

  -- the job at p does
  module _ (p : ℕ) (runs : (turn t s).runner ≡ Some p) (said : Report) where
    abbrev number : ℕ
    number = objection (task_at t p) (job_at s p) (held_resources s) said

    abbrev after : Outcome
    after = outcome t s (turn t s) p said

    pub run-objects : (number ≡ 0 → ⊥) → report t s said ≡ bare number s
    unfolding report_run
    run-objects h = report-as said refl runs ∙ (simp (ne_eqb number 0 h))

    pub run-closes : number ≡ 0 → late (closed s (set s.jobs p after.job)) ≡ false
        → report t s said ≡ taken-answer s (set s.jobs p after.job) (turn t s) after.ending
    unfolding report_run
    run-closes h l = report-as said refl runs ∙ (simp (eq-eqb number 0 h)) ∙ closes (set s.jobs p after.job) (turn t s) after.ending l

-- ---- a refusal hands back the state as it went in

abbrev Refuses : State → Answer → Type 0
Refuses s a = (a.number ≡ 0 → ⊥) → a ≡ bare a.number s

module _ (s : State) (u : Turn) where
  finished-refuses : (jobs : List Job) (ending : Ending) → Refuses s (finished s jobs u ending)
  unfolding finished
  finished-refuses jobs ending = go (late (closed s jobs))
    where
      go : (b : Bool) → Refuses s (cond b (bare 16 s) (taken-answer s jobs u ending))
      go true h = refl
      go false h = absurd (h refl)

  idle-refuses : (said : Report) → Refuses s (report_idle s u said)
  idle-refuses CarryOn = finished-refuses s.jobs Ends.GoesOn
  idle-refuses Done = λ h. refl
  idle-refuses (Take r) = λ h. refl
  idle-refuses Give = λ h. refl

  run-refuses : (t : Table) (said : Report) (p : ℕ) → Refuses s (report_run t s u p said)
  unfolding report_run
  run-refuses t said p = go (eqb (objection (task_at t p) (job_at s p) (held_resources s) said) 0)
    where
      go : (b : Bool) → Refuses s (cond b (finished s (set s.jobs p (outcome t s u p said).job) u (outcome t s u p said).ending) (bare (objection (task_at t p) (job_at s p) (held_resources s) said) s))
      go true = finished-refuses _ (outcome t s u p said).ending
      go false = λ h. refl

  as-refuses : (t : Table) (said : Report) (r : Runner) → Refuses s (report_as t s u r said)
  as-refuses t said None = idle-refuses said
  as-refuses t said (Some p) = run-refuses t said p

pub report-refused : (t : Table) (s : State) (said : Report) → ((report t s said).number ≡ 0 → ⊥) → report t s said ≡ bare (report t s said).number s
unfolding report
report-refused t s said = as-refuses s (turn t s) t said (turn t s).runner
