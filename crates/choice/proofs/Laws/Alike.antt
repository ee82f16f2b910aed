-- "Entries past the task count are not read": two tables that differ there alone give a state the same choice, where no job is pending past the count. Assumes nothing.
use Rattle.std.specs.Prelude.{Some}
use Prim.Native.Nat.{ℕ, min, max, ◌<◌}
use mathlib.Core.Path.{◌≡◌, refl, sym, ap, ◌∙◌}
use mathlib.Core.Logic.{⊎_elim}
use mathlib.Core.Bool.{Bool, true, false, ◌&&◌}
use native.Mathlib.Nat.{eq-or-lt_of_le}
use native.Mathlib.Decide.{dec_lt}
use native.Mathlib.Omega.{arith}
use lib.Dec.{ltb, leb}
use borrow.Author.Tests.{ltb-true}
use Rattle.units.specs.Folds.{smallest, largest}
use Rattle.units.proofs.Laws.Folds.{over_had, both, both-same}
use Rattle.table.specs.declared.Task.{Task}
use Rattle.table.specs.declared.Table.{Table}
use Rattle.table.specs.Table.{D, S, ceilings}
use Rattle.table.proofs.Laws.Alike.{Alike, ceiling-same}
use Rattle.state.specs.declared.Job.{Job}
use Rattle.state.specs.declared.State.{State}
use Rattle.state.specs.State.{job_at}
use Rattle.state.specs.Order.{position_of, no_place, is_pending, is_started, first_in_order}
use Rattle.state.proofs.Laws.Order.{first_found, first_bound, place-position}
use Rattle.choice.specs.declared.Turn.{Turn}
use Rattle.choice.specs.Choice.{top, blocked, runner, shortest_ahead, fastest, inherited, rules, turn, choice}
use Rattle.choice.proofs.Laws.Rules.{rules-runner}
use Rattle.choice.proofs.Laws.Runner.{named, nobody, runner-blocked, runner_free, turn-runs, turn-idle}

-- every pending job is one of the table's
abbrev pub Inside : Table → State → Type 0
Inside t s = (k : ℕ) → k < 16 → (job_at s k).pending ≡ true → k < t.count

-- ---- who runs stands in the table

module _ (t : Table) (s : State) (inside : Inside t s) where
  some-task : top s < no_place → 0 < t.count
  some-task l = let w = first_found s is_pending l in omega (arith, inside w.0 w.1 w.2)

  -- where there is no such job, position 0 is read
  first_within : (p : Job → Bool) → ((j : Job) → p j ≡ true → j.pending ≡ true) → 0 < t.count → position_of (first_in_order p s) < t.count
  first_within p job some = ⊎_elim (λ e. omega arith) found (eq-or-lt_of_le (first_bound s p))
    where
      found : first_in_order p s < no_place → position_of (first_in_order p s) < t.count
      found l =
          let w = first_found s p l in
          let k = place-position s.tick.0 (job_at s w.0).deadline.0 w.0 (omega (arith, w.1)) in
          omega (arith, w.3, k, inside w.0 w.1 (job _ w.2))

  top_within : top s < no_place → position_of (top s) < t.count
  top_within l = first_within is_pending (λ j h. h) (some-task l)

  runner_within : top s < no_place → position_of (runner t s) < t.count
  runner_within l = go (blocked t s (position_of (top s))) refl
    where
      go : (b : Bool) → blocked t s (position_of (top s)) ≡ b → position_of (runner t s) < t.count
      go true h = rw (runner-blocked t s h) (first_within is_started (λ j h. (both j.pending j.started h).0) (some-task l))
      go false h = rw (runner_free t s h) (top_within l)

  pub turn_within : (p : ℕ) → (turn t s).runner ≡ Some p → p < t.count
  turn_within p e = go (dec_lt (top s) no_place)
    where
      go : Dec (top s < no_place) → p < t.count
      go (yes l) = rw (named (sym e ∙ ap (λ (v : Turn). v.runner) (turn-runs t s l) ∙ rules-runner t s (runner t s))) (runner_within l)
      go (no l) = absurd (nobody (sym (ap (λ (v : Turn). v.runner) (turn-idle t s (omega arith))) ∙ e))

-- ---- the two tables

module _ {t u : Table} (a : Alike t u) where
  ceilings-same : ceilings t ≡ ceilings u
  unfolding ceilings
  ceilings-same = simp (ceiling-same a)

  length-same : (k : ℕ) → k < t.count → D t k ≡ D u k
  length-same k l = ap (λ (x : Task). x.deadline.0) (a.tasks k l)

  speed-same : (k : ℕ) → k < t.count → S t k ≡ S u k
  speed-same k l = ap (λ (x : Task). x.synchronization) (a.tasks k l)

  fastest-same : (low high : ℕ) → fastest t low high ≡ fastest u low high
  unfolding fastest largest
  fastest-same low high =
      over_had _ _ _ _ 0 16
      (λ k l. both-same (ltb k t.count) (ltb k u.count) _ _ (rw a.count) (λ h. ap (λ (d : ℕ). leb low d && leb d high) (length-same k (ltb-true _ _ h))))
      (λ k m l h. ap (max m) (speed-same k (ltb-true _ _ (both (ltb k t.count) _ h).0)))

  module _ (s : State) (inside : Inside t s) where
    blocked-same : (p : ℕ) → p < t.count → blocked t s p ≡ blocked u s p
    unfolding blocked
    blocked-same p l = rw (ceilings-same, length-same p l)

    runner-same : top s < no_place → runner t s ≡ runner u s
    unfolding runner
    runner-same l = rw (blocked-same (position_of (top s)) (top_within t s inside l))

    shortest-same : (run : ℕ) → shortest_ahead t s run ≡ shortest_ahead u s run
    unfolding shortest_ahead smallest
    shortest-same run = over_had _ _ _ _ 65535 16 (λ k l. refl) (λ k m l h. ap (min m) (length-same k (inside k l (both _ _ h).0)))

    inherited-same : (run : ℕ) → position_of run < t.count → inherited t s run ≡ inherited u s run
    unfolding inherited
    inherited-same run l = rw (shortest-same run, length-same (position_of run) l) (fastest-same _ _)

    rules-same : (run : ℕ) → position_of run < t.count → rules t s run ≡ rules u s run
    unfolding rules
    rules-same run l = rw (inherited-same run l, speed-same (position_of run) l, a.tasks (position_of run) l)

    pub turn-same : turn t s ≡ turn u s
    turn-same = go (dec_lt (top s) no_place)
      where
        go : Dec (top s < no_place) → turn t s ≡ turn u s
        go (yes l) = turn-runs t s l ∙ rules-same (runner t s) (runner_within t s inside l) ∙ ap (rules u s) (runner-same l) ∙ sym (turn-runs u s l)
        go (no l) = turn-idle t s (omega arith) ∙ sym (turn-idle u s (omega arith))

    pub choice-same : choice t s ≡ choice u s
    unfolding choice
    choice-same = rw turn-same
