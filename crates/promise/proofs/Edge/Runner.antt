-- What a report makes of the runner's job: from the report's laws. Assumes nothing.
use Prim.Native.Nat.{ℕ, ◌+◌, ◌-◌, ◌≤◌, ◌<◌}
use mathlib.Core.Path.{◌≡◌, refl, sym, ap, ◌∙◌}
use mathlib.Core.Bool.{true, false, false≢true}
use mathlib.Core.Logic.{◌⊎◌, inl, inr}
use native.Mathlib.Decide.{dec_lt}
use native.Mathlib.Omega.{arith}
use Rattle.units.specs.Amounts.{given}
use Rattle.units.specs.Sets.{has}
use Rattle.table.specs.declared.Task.{Task}
use Rattle.table.specs.declared.Table.{Table}
use Rattle.table.specs.Table.{limit, ceilings}
use Rattle.state.specs.declared.Job.{Job}
use Rattle.state.specs.declared.Section.{Section}
use Rattle.state.specs.declared.Stack.{Stack}
use Rattle.state.specs.Stack.{section_at}
use Rattle.state.specs.declared.Report.{Report}
use Rattle.state.specs.Stack.{nothing}
use Rattle.state.specs.Order.{holds}
use Rattle.state.proofs.Laws.Stacks.{On, on_free, on_any, holds_tells, holds_at}
use Rattle.choice.specs.Choice.{section_bars}
use Rattle.report.specs.declared.Outcome.{Outcome}
use Rattle.report.specs.Report.{worked, ended, holding, at_limit}
use Rattle.report.proofs.Laws.Answers.{Fair}
use Rattle.report.proofs.Laws.Sections as Sections
use Rattle.report.proofs.Laws.Jobs.{worked-used, handed, Fate, done, spent, stopped, goes}
use Rattle.consistency.proofs.Laws.Jobs.{SectionFits, nothing-fits, nothing-held}
use Rattle.promise.proofs.Edge.View.{rest, left, JobStands, Outermost, outermost, left_of, left_unbarred, left-bars}

-- the job j, after a tick at speed v, is n; Free are the resources that no job holds
pub record After (t : Table) (task : Task) (v : ℕ) (j n : Job) (Free : ℕ → Type 0) : Type 0 where
  pub stands : JobStands task n
  pub wait : n.wait.0 ≡ j.wait.0
  pub used : n.pending ≡ true → n.used.0 ≡ j.used.0 + given v
  pub less : n.pending ≡ true → n.used.0 < task.budget.0
  pub started : n.pending ≡ true → n.started ≡ true
  pub deadline : n.pending ≡ true → n.deadline.0 ≡ j.deadline.0
  pub left : n.pending ≡ true → (x : ℕ) → 1 ≤ left t task x j.held → left t task x n.held ≤ left t task x j.held - given v
  pub holds : (r : ℕ) → holds r n.held ≡ true → (holds r j.held ≡ true) ⊎ Free r

-- ---- the job afterwards

module _ (t : Table) (task : Task) (v : ℕ) (j : Job) (said : Report) (held : ℕ) (fair : Fair task j held said)
    (stands : JobStands task j) (begun : j.started ≡ true) (Free : ℕ → Type 0) (free : (r : ℕ) → 0 < limit task r → has held r ≡ false → Free r) where
  -- the job, with the steps of its tick
  abbrev on : Job
  on = worked task v j

  gone : (n : Job) → n ≡ ended on → After t task v j n Free
  gone n e = rw e record {
    stands = record {
      wait = stands.wait;
      unstarted = λ h. record { used = refl; held = refl };
      stack = nothing-fits;
      held = nothing-held task;
      absent = λ h. record { started = refl; used = refl; held = refl; deadline = refl };
    };
    wait = refl;
    used = λ h. absurd (false≢true h);
    less = λ h. absurd (false≢true h);
    started = λ h. absurd (false≢true h);
    deadline = λ h. absurd (false≢true h);
    left = λ h. absurd (false≢true h);
    holds = λ r h. absurd (false≢true (on_any _ nothing h));
  }

  -- what it holds where it goes on
  module _ (below-limits : at_limit task (handed said on.held) ≡ false) where
    abbrev held_then : Stack
    held_then = handed said on.held

    abbrev then : ℕ → Section
    then = section_at held_then

    abbrev was : ℕ → Section
    was = section_at j.held

    from-there : (i : ℕ) → On held_then i → Sections.From task v j.held said i (then i)
    from-there i l = Sections.from task v j.held said i l

    -- a section that was there already stands at its place, with the steps of the tick
    stayed : (i : ℕ) → On held_then i → i < j.held.depth → (then i ≡ Sections.section (was i).resource ((was i).steps.0 + given v)) × ((was i).steps.0 + given v < limit task (was i).resource)
    stayed i l b = go (from-there i l)
      where
        go : Sections.From task v j.held said i (then i) → (then i ≡ Sections.section (was i).resource ((was i).steps.0 + given v)) × ((was i).steps.0 + given v < limit task (was i).resource)
        go (Sections.newer r c q e) = absurd (omega arith)
        go (Sections.older m e) =
            let w = Sections.rises task v (was i) (λ f. Sections.below task held_then below-limits i l (ap (λ (x : Section). x.steps.0) e ∙ f ∙ ap (λ (x : Section). limit task x.resource) (sym e))) in
            (e ∙ w.0, w.1)

    same_resource : (i : ℕ) → On held_then i → i < j.held.depth → (then i).resource ≡ (was i).resource
    same_resource i l b = ap (λ (x : Section). x.resource) (stayed i l b).0

    then_fits : (i : ℕ) → On held_then i → SectionFits task (then i)
    then_fits i l = go (from-there i l)
      where
        go : Sections.From task v j.held said i (then i) → SectionFits task (then i)
        go (Sections.older m e) = let w = stayed i l m.1 in rw w.0 record { taken = (stands.held.section i m).taken; steps = w.1 }
        go (Sections.newer r c q e) = let w = fair.takes r c in rw e record { taken = w.1; steps = w.1 }

    then_once : (i m : ℕ) → On held_then i → m < i → (then m).resource ≡ (then i).resource → ⊥
    then_once i m l b q = go (from-there i l)
      where
        on_m : On held_then m
        on_m = (omega (arith, l), omega (arith, l))

        go : Sections.From task v j.held said i (then i) → ⊥
        go (Sections.older o e) = stands.held.once i m o b (sym (same_resource m on_m (omega (arith, o))) ∙ q ∙ same_resource i l o.1)
        go (Sections.newer r c d e) =
            let at-m : On j.held m = (omega (arith, l), omega arith) in
            false≢true
            (sym (fair.takes r c).0.free ∙ holds_at r j.held m at-m (sym (ap (λ (x : Section). x.resource) e) ∙ sym q ∙ same_resource m on_m at-m.1))

    then_falls : (x : ℕ) → 1 ≤ left t task x j.held → left t task x held_then ≤ left t task x j.held - given v
    then_falls x l = let w = outermost t x j.held (left-bars t task x j.held l) in go w.0 w.1 (dec_lt w.0 held_then.depth)
      where
        go : (i : ℕ) → Outermost t x j.held i → Dec (i < held_then.depth) → left t task x held_then ≤ left t task x j.held - given v
        go i o (yes d) =
            omega (arith, left_of t task x j.held i o, left_of t task x held_then i still, ap (rest task) (stayed i there o.on.1).0)
          where
            there : On held_then i
            there = (o.on.0, d)

            bars-same : (m : ℕ) → m < 4 → m < held_then.depth → m < j.held.depth → section_bars (ceilings t) x (then m) ≡ section_bars (ceilings t) x (was m)
            bars-same m b c e = ap (λ (r : ℕ). section_bars (ceilings t) x (Sections.section r 0)) (same_resource m (b, c) e)

            still : Outermost t x held_then i
            still = record {
              on = there;
              low = bars-same i o.on.0 d o.on.1 ∙ o.low;
              others = λ m b. bars-same m (omega (arith, o.on)) (omega arith) (omega (arith, o.on)) ∙ o.others m b;
            }
        go i o (no d) = omega (arith, left_unbarred t task x held_then (on_free (section_bars (ceilings t) x) held_then none))
          where
            none : (m : ℕ) → On held_then m → section_bars (ceilings t) x (then m) ≡ true → ⊥
            none m c e =
                false≢true
                (sym (o.others m (omega (arith, c))) ∙ ap (λ (r : ℕ). section_bars (ceilings t) x (Sections.section r 0)) (sym (same_resource m c (omega (arith, c, o.on)))) ∙ e)

    then_holds : (r : ℕ) → holds r held_then ≡ true → (holds r j.held ≡ true) ⊎ Free r
    then_holds r h = let w = holds_tells r held_then h in go w.0 w.1 w.2 (from-there w.0 w.1)
      where
        go : (i : ℕ) → On held_then i → r ≡ (then i).resource → Sections.From task v j.held said i (then i) → (holds r j.held ≡ true) ⊎ Free r
        go i l e (Sections.older m f) = inl (holds_at r j.held i m (e ∙ same_resource i l m.1))
        go i l e (Sections.newer q c d f) = let w = fair.takes q c in inr (rw (e ∙ ap (λ (x : Section). x.resource) f) (free q w.1 w.2))

    stays : (n : Job) → (on.used.0 ≡ task.budget.0 → ⊥) → n ≡ holding held_then on → After t task v j n Free
    stays n unspent e = rw e record {
      stands = record {
        wait = stands.wait;
        unstarted = λ q. absurd (false≢true (sym q ∙ begun));
        stack = record {
          depth = Sections.after_depth task v j.held said stands.stack.depth (λ r c. (fair.takes r c).0.room);
          spare = Sections.after_spare task v j.held said;
        };
        held = record { section = then_fits; once = then_once };
        absent = λ q. absurd (false≢true (sym (stands.absent q).started ∙ begun));
      };
      wait = refl;
      used = λ q. omega (arith, unspent, worked-used task v j);
      less = λ q. omega (arith, unspent, worked-used task v j);
      started = λ q. begun;
      deadline = λ q. refl;
      left = λ q. then_falls;
      holds = then_holds;
    }

  pub after : (o : Outcome) → Fate task said on o → After t task v j o.job Free
  after o (done e f) = gone o.job (ap (λ (o : Outcome). o.job) f)
  after o (spent e f) = gone o.job (ap (λ (o : Outcome). o.job) f)
  after o (stopped g f) = gone o.job (ap (λ (o : Outcome). o.job) f)
  after o (goes d unspent g f) = stays g o.job unspent (ap (λ (o : Outcome). o.job) f)
