use Prim.Native.Nat.{ℕ, ◌≤◌, ◌<◌}
use mathlib.Core.Path.{◌≡◌, sym, ap, ◌∙◌}
use mathlib.Core.Bool.{true}
use Rattle.table.specs.declared.Task.{Task}
use Rattle.table.specs.declared.Table.{Table}
use Rattle.table.specs.Table.{task_at}
use Rattle.state.specs.declared.State.{State}
use Rattle.state.specs.Order.{position_of, no_place}
use Rattle.choice.specs.declared.Turn.{Turn}
use Rattle.choice.specs.Choice.{top, runner, inherited, idle, turn}
use Rattle.choice.proofs.Laws.Runner.{runner-position, turn-idle}
use Rattle.consistency.specs.Consistency.{positions_fit}
use Rattle.seen.specs.declared.Seen.{Seen}
use Rattle.seen.specs.Seen.{seen, inherited_by, rules_by}
use Rattle.seen.proofs.Laws.Rules.{inherited-by, turn_by}
use Rattle.checker.proofs.turns.turn.Goals as goal
use Rattle.checker.proofs.turns.turn.Goals.{then-run-found, else-run-found}

module _ (t : Table) (s : State) {x : Seen} (e : x ≡ seen s) where
  idles : no_place ≤ x.top → idle ≡ turn t s
  unfolding seen
  idles l = sym (turn-idle t s (rw e at l))

  module _ {run k : ℕ} (f : run ≡ runner t s) (g : k ≡ position_of run) where
    placed : k < 16
    placed = rw (g, f) (runner-position t s)

    -- with the runner's task; the speed counts where the runner is not top
    module _ (fit : positions_fit t s ≡ true) (l : x.top < no_place) {r : Turn} {task : Task} (h : task ≡ task_at t k) (v : ℕ) (b : r ≡ rules_by s.tick.0 s.mark x run task v) where
      by : ((run ≡ top s → ⊥) → v ≡ inherited t s run) → r ≡ turn t s
      unfolding seen
      by i = b ∙ rw (e, h, g) (sym (turn_by t s fit (rw e at l) f i))

      behind : {w : ℕ} → w ≡ inherited_by t s run task.deadline.0 → v ≡ w → r ≡ turn t s
      behind i j = by (λ q. j ∙ i ∙ rw (h, g) (inherited-by t s fit run))

      first : run ≡ x.top → r ≡ turn t s
      unfolding seen
      first i = by (λ q. absurd (q (i ∙ ap (λ (x : Seen). x.top) e)))

pub returns-then-found-ge-NO_PLACE : goal.returns-then-found-ge-NO_PLACE
returns-then-found-ge-NO_PLACE c = search idles

pub task_at-task-requires : goal.task_at-task-requires
task_at-task-requires c = search placed

pub returns : goal.returns
returns c = elim c.if-run-found.branch [ then-run-found w ↦ search behind | else-run-found w ↦ search first ]
