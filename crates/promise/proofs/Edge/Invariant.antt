-- The invariant of a history's states; it makes them consistent, and a fresh start has it. Assumes nothing.
use Rattle.std.specs.Prelude.{None}
use Prim.Native.Nat.{ℕ, ◌^◌, ◌≤◌, ◌<◌}
use mathlib.Core.Path.{◌≡◌, sym, ap, ◌∙◌}
use mathlib.Core.Bool.{true, false≢true}
use native.Mathlib.Decide.{dec_lt}
use native.Mathlib.Omega.{arith}
use lib.ListN.{length}
use Rattle.units.specs.Clock.{tick}
use Rattle.table.specs.declared.Table.{Table}
use Rattle.admission.proofs.Laws.Admitted.{Admitted, admitted}
use Rattle.state.specs.declared.Job.{Job}
use Rattle.state.specs.declared.Half.TheVariants.{First, Second}
use Rattle.state.specs.declared.State.{State}
use Rattle.state.specs.State.{job_at, empty}
use Rattle.state.proofs.Laws.Fresh.{no_more, empty-is, empty-long, empty_job}
use Rattle.state.specs.Order.{no_place, is_pending}
use Rattle.state.proofs.Laws.Order.{first-le, place-lt}
use Rattle.choice.specs.Choice.{top}
use Rattle.choice.proofs.Laws.Ready.{Ready}
use Rattle.consistency.specs.Consistency.{consistent}
use Rattle.machine.specs.Machine.{mid_tick}
use Rattle.consistency.proofs.Laws.Jobs.{Unused}
use Rattle.consistency.proofs.Laws.Facts.{Unchanged, Consistent, no_job_unused, consistent_tells, consistent-holds, fresh-consistent}
use Rattle.consistency.proofs.Laws.Middle.{ready}
use Rattle.promise.specs.History.{written}
use Rattle.promise.specs.Promise.{Passed}
use Rattle.promise.proofs.Core.Tasks.{Fits}
use Rattle.promise.proofs.Core.View.{Lawful, Nearer, Midway, Between, fresh}
use Rattle.promise.proofs.Edge.View.{tasks, fits, view, Stands, below_16, lawful}

-- a consistent state stands
pub consistent_stands : (t : Table) (s : State) → Consistent t s → length s.jobs ≡ 16 → s.tick.0 < 2 ^ 32 → Stands t s
consistent_stands t s c long now = record {
  long = long;
  now = now;
  jobs = λ k l. let w = c.jobs k l in record { wait = w.wait; unstarted = w.unstarted; stack = w.stack; held = w.held; absent = w.absent };
  past = λ k l. past k l (dec_lt k 16);
  once = c.once;
  mark = c.mark;
}
  where
    past : (k : ℕ) → t.count ≤ k → Dec (k < 16) → Unused (job_at s k)
    past k l (yes h) = c.past k l h
    past k l (no h) = rw (no_more s k long h) no_job_unused

module _ {t : Table} (passed : Passed written t) where
  pub passes : Admitted t
  passes = admitted t passed.verdict

  pub task-fits : Fits (tasks t)
  task-fits = fits t passes

  -- the state stands, and its view has the invariant; between ticks nobody is on the processor, and started jobs are nearer than their D; in mid-tick the choice, made again, changes nothing
  pub record Good (s : State) : Type 0 where
    pub stands : Stands t s
    pub mid : Midway (tasks t) (view t s)
    pub first : s.half ≡ First → (s.runner ≡ None) × Nearer (tasks t) (view t s)
    pub second : s.half ≡ Second → Unchanged t s

  pub sees : {s : State} → Stands t s → Lawful (tasks t) (view t s)
  sees stands = lawful passes stands (λ k l. passed.limits k (omega (arith, passes.count.high)) l)

  -- between ticks
  pub rests : (s : State) → Stands t s → s.half ≡ First → s.runner ≡ None → Between (tasks t) (view t s) → Good s
  rests s stands h r b = record {
    stands = stands;
    mid = b.midway;
    first = λ e. (r, b.nearer);
    second = λ e. absurd (false≢true (ap mid_tick (sym h ∙ e)));
  }

  -- a fresh start
  module _ (now : ℕ) (small : now < 2 ^ 32) where
    abbrev fresh-state : State
    fresh-state = empty (tick now)

    nobody : (k : ℕ) → (job_at fresh-state k).pending ≡ true → ⊥
    nobody k p = false≢true (sym (ap (λ (j : Job). j.pending) (empty_job (tick now) k)) ∙ p)

    fresh_stands : Stands t fresh-state
    fresh_stands =
        consistent_stands t fresh-state (consistent_tells t fresh-state (fresh-consistent t (tick now) passed.verdict)) (empty-long (tick now))
        (rw (ap (λ (s : State). s.tick.0) (empty-is (tick now))) small)

    pub fresh_good : Good fresh-state
    fresh_good =
        rests fresh-state fresh_stands (ap (λ (s : State). s.half) (empty-is (tick now))) (ap (λ (s : State). s.runner) (empty-is (tick now)))
        (fresh (tasks t) (view t fresh-state) (sees fresh_stands) nobody)

-- a good state is consistent
module _ {t : Table} {passed : Passed written t} {s : State} (good : Good passed s) where
  facts : Consistent t s
  facts = record {
    passes = passed.verdict;
    jobs = λ k l. let j = good.stands.jobs k l in record {
      wait = j.wait;
      unstarted = j.unstarted;
      stack = j.stack;
      held = j.held;
      pending = λ e. let n = good.mid.numbers in record { used = n.used-C k e; ahead = n.distance_some k e; near = n.distance-D k e; wait = n.wait-is k e };
      absent = j.absent;
    };
    past = λ k l b. good.stands.past k l;
    once = good.stands.once;
    mark = good.stands.mark;
    first = λ e. (good.first e).0;
    second = good.second;
  }

  -- number 9 never comes
  pub is-consistent : consistent t s ≡ true
  is-consistent = consistent-holds t s facts

  pub is_ready : Ready t s
  is_ready = ready t s facts good.stands.long good.stands.now

  -- where a job is pending there is a top
  pub some-top : (k : ℕ) → (job_at s k).pending ≡ true → top s < no_place
  some-top k p =
      let l = below_16 (passes passed) good.stands k p in
      omega (arith, first-le s is_pending k l p, place-lt s.tick.0 (job_at s k).deadline.0 k (omega arith))
