-- In a history every stack has its four places. Assumes nothing.
use Prim.Native.Nat.{ℕ, ◌<◌}
use mathlib.Core.Path.{◌≡◌, refl, ap, ◌∙◌}
use mathlib.Core.List.{List}
use native.Mathlib.Decide.{dec_lt, ℕ_discrete}
use native.Mathlib.Omega.{arith}
use lib.ListN.{length, get_or, set}
use Rattle.units.proofs.Laws.Folds.{listed-length}
use Rattle.table.specs.declared.Table.{Table}
use Rattle.table.specs.declared.Task.{Task}
use Rattle.table.specs.Table.{task_at}
use Rattle.state.specs.Answers.{Answer}
use Rattle.state.specs.declared.Job.{Job}
use Rattle.state.specs.declared.Report.{Report}
use Rattle.state.specs.declared.Report.TheVariants.{CarryOn, Done, Take, Give}
use Rattle.state.specs.declared.State.{State}
use Rattle.state.specs.Stack.{no_section}
use Rattle.state.specs.State.{no_job, job_at}
use Rattle.state.specs.Order.{no_place}
use Rattle.choice.specs.Choice.{top, turn, choice}
use Rattle.choice.proofs.Laws.Choice as Law
use Rattle.report.specs.declared.Outcome.{Outcome}
use Rattle.report.specs.Report.{worked, closed}
use Rattle.report.proofs.Laws.Jobs.{handed, Fate, done, spent, stopped, goes, settled_is, closed_at, closed-set-same, closed-set-other}
use Rattle.report.proofs.Laws.Answers.{outcome}
use Rattle.machine.specs.Machine.{released_at}
use Rattle.machine.proofs.Laws.Calls.{released_job, released_others}
use Rattle.promise.specs.History.{written, Call}
use Rattle.promise.specs.Promise.{Passed}
use Rattle.promise.proofs.Edge.Choice as Chosen
use Rattle.promise.proofs.Edge.Invariant.{passes, Good}
use Rattle.promise.proofs.Edge.View.{below_16}
use Rattle.promise.proofs.Keep.Made.{Made, refused, takes-on, chooses, idles, runs}

abbrev pub places : Job → ℕ
places j = length j.held.sections

-- what stands where nothing is held
pub no_places : places no_job ≡ 4
no_places = listed-length no_section (λ i. no_section) 4

module _ (task : Task) (said : Report) (v : ℕ) (j : Job) where
  fate_places : (o : Outcome) → Fate task said (worked task v j) o → places o.job ≡ 4
  fate_places o (done x e) = ap (λ (o : Outcome). places o.job) e ∙ no_places
  fate_places o (spent x e) = ap (λ (o : Outcome). places o.job) e ∙ no_places
  fate_places o (stopped x e) = ap (λ (o : Outcome). places o.job) e ∙ no_places
  fate_places o (goes d x y e) = ap (λ (o : Outcome). places o.job) e ∙ go said
    where
      go : (said : Report) → length (handed said (worked task v j).held).sections ≡ 4
      go CarryOn = listed-length no_section _ 4
      go Done = listed-length no_section _ 4
      go (Take r) = listed-length no_section _ 4
      go Give = listed-length no_section _ 4

module _ {t : Table} {passed : Passed written t} {s : State} (good : Good passed s) (k : ℕ) (whole : places (job_at s k) ≡ 4) where
  chosen_places : Dec (top s < no_place) → places (job_at (choice t s).state k) ≡ places (job_at s k)
  chosen_places (yes l) = ap (λ (x : State). places (job_at x k)) (Law.choice-is t s) ∙ Chosen.kept good l places (λ j. refl) k
  chosen_places (no l) = ap (λ (jobs : List Job). places (get_or jobs k no_job)) (Law.idle-jobs t s (omega arith))

  pub whole-next : (call : Call) (a : Answer) → Made t s call a → places (job_at a.state k) ≡ 4
  whole-next call a (refused n l e) = ap (λ (b : Answer). places (job_at b.state k)) e ∙ whole
  whole-next call a (takes-on q c l f e) = ap (λ (b : Answer). places (job_at b.state k)) e ∙ go (ℕ_discrete k q)
    where
      go : Dec (k ≡ q) → places (job_at (released_at t s q) k) ≡ 4
      go (yes z) = ap (λ (i : ℕ). places (job_at (released_at t s q) i)) z ∙ ap places (released_job t s q (omega (arith, l, (passes passed).count.high, good.stands.long))) ∙ no_places
      go (no z) = ap places (released_others t s q k z) ∙ whole
  whole-next call a (chooses c e) = ap (λ (b : Answer). places (job_at b.state k)) e ∙ chosen_places (dec_lt (top s) no_place) ∙ whole
  whole-next call a (idles c h r f e) = ap (λ (b : Answer). places (job_at b.state k)) e ∙ ap places (closed_at s s.jobs k) ∙ whole
  whole-next call a (runs q said c h r l f g e) = ap (λ (b : Answer). places (job_at b.state k)) e ∙ go (ℕ_discrete k q)
    where
      job : Job
      job = (outcome t s (turn t s) q said).job

      go : Dec (k ≡ q) → places (job_at (closed s (set s.jobs q job)) k) ≡ 4
      go (yes z) =
          ap (λ (i : ℕ). places (job_at (closed s (set s.jobs q job)) i)) z
          ∙ ap places (closed-set-same s q job (omega (arith, below_16 (passes passed) good.stands q f, good.stands.long)))
          ∙ fate_places (task_at t q) said (turn t s).speed (job_at s q) (outcome t s (turn t s) q said) (settled_is (task_at t q) said _)
      go (no z) = ap places (closed-set-other s q job k z) ∙ whole
