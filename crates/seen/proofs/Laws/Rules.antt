-- The five rules, by what one pass has seen. Assumes nothing.
use Prim.Native.Nat.{ℕ, min, max, ◌≤◌, ◌<◌}
use mathlib.Core.Path.{◌≡◌, refl, sym, ap, ap₂, ◌∙◌}
use mathlib.Core.Bool.{Bool, true, false, not, ◌&&◌, cond}
use native.Mathlib.Decide.{dec_lt, ℕ_discrete}
use native.Mathlib.Omega.{arith}
use lib.Dec.{ltb, eqb}
use borrow.Author.Tests.{lt-ltb, le-ltb, ltb-true, eq-eqb}
use Rattle.units.specs.Folds.{smallest}
use Rattle.units.proofs.Laws.Folds.{over_past, both}
use Rattle.units.proofs.Laws.Tests.{cond_yes, cond_no}
use Rattle.table.specs.declared.Task.{Task}
use Rattle.table.specs.declared.Table.{Table}
use Rattle.table.specs.Table.{task_at, D}
use Rattle.state.specs.declared.State.{State}
use Rattle.state.specs.State.{job_at, Mark}
use Rattle.state.specs.Order.{place_at, position_of, no_place, is_holder, last_holder}
use Rattle.state.proofs.Laws.Order.{last_bounds, last_found}
use Rattle.choice.specs.declared.Turn.{Turn}
use Rattle.choice.specs.Choice.{top, runner, mark_place, mark_at, synchronized, no_holder_behind, shortest_ahead, fastest, inherited, rules, turn}
use Rattle.choice.proofs.Laws.Runner.{turn-runs}
use Rattle.consistency.specs.Consistency.{positions_fit}
use Rattle.seen.specs.declared.Seen.{Seen}
use Rattle.seen.specs.Seen.{seen, ahead_by, inherited_by, rules_by}
use Rattle.seen.proofs.Laws.Fits.{pending-inside}

-- ---- the last holder behind a place is the last of all holders, where that is behind it

module _ (s : State) (run : ℕ) where
  abbrev last : ℕ
  last = last_holder s 0

  behind : 0 < last_holder s run → (run < last_holder s run) × (last_holder s run ≤ last)
  behind l =
      let w = last_found s run l in
      let h = both (is_holder (job_at s w.0)) (ltb run (place_at s w.0)) w.2 in
      let far : run < place_at s w.0 = ltb-true run (place_at s w.0) h.1 in
      (omega (arith, far, w.3), omega (arith, w.3, last_bounds s 0 w.0 w.1 h.0 (omega (arith, far))))

  last_behind : run < last → last_holder s run ≡ last
  last_behind l =
      let w = last_found s 0 (omega arith) in
      let h = both (is_holder (job_at s w.0)) (ltb 0 (place_at s w.0)) w.2 in
      let b = last_bounds s run w.0 w.1 h.0 (omega (arith, w.3)) in
      omega (arith, b, w.3, behind (omega (arith, b, w.3)))

  none_behind : last ≤ run → last_holder s run ≡ 0
  none_behind l = go (dec_lt 0 (last_holder s run))
    where
      go : Dec (0 < last_holder s run) → last_holder s run ≡ 0
      go (yes b) = absurd (omega (arith, behind b))
      go (no b) = omega arith

  pub last_is : last_holder s run ≡ cond (ltb run last) last 0
  last_is = go (dec_lt run last)
    where
      go : Dec (run < last) → last_holder s run ≡ cond (ltb run last) last 0
      go (yes l) = last_behind l ∙ sym (cond_yes _ _ (lt-ltb _ _ l))
      go (no l) = none_behind (omega arith) ∙ sym (cond_no _ _ (le-ltb run last (omega arith)))

-- ---- the rules

-- a runner that is top inherits nothing
module _ (now : ℕ) (mark : Mark) (x : Seen) (run : ℕ) (task : Task) (v w : ℕ) where
  pub own_speed : run ≡ x.top → rules_by now mark x run task v ≡ rules_by now mark x run task w
  unfolding rules_by
  own_speed e = cond_no _ _ (ap not (eq-eqb _ _ e)) ∙ sym (cond_no _ _ (ap not (eq-eqb _ _ e)))

module _ (t : Table) (s : State) (run : ℕ) where
  abbrev by : Turn
  by = rules_by s.tick.0 s.mark (seen s) run (task_at t (position_of run)) (inherited t s run)

  pub rules-by : rules t s run ≡ by
  unfolding rules rules_by seen
  rules-by = ap₂ (cond (not (eqb run (top s)))) first second
    where
      now : ℕ
      now = s.tick.0

      old : ℕ
      old = mark_place now s.mark

      first : synchronized run (mark_at now (max old (max run (last_holder s run)))) (inherited t s run) ≡ synchronized run (mark_at now (max old (max run (last_holder s 0)))) (inherited t s run)
      first = ap (λ (m : ℕ). synchronized run (mark_at now (max old m)) (inherited t s run)) (go (dec_lt run (last_holder s 0)))
        where
          go : Dec (run < last_holder s 0) → max run (last_holder s run) ≡ max run (last_holder s 0)
          go (yes l) = ap (max run) (last_behind s run l)
          go (no l) = ap (max run) (none_behind s run (omega arith)) ∙ omega arith

      rest : ℕ → Turn
      rest last = synchronized run (mark_at now (max old last)) (task_at t (position_of run)).synchronization

      others : Turn
      others = no_holder_behind s.mark old run (task_at t (position_of run))

      second : cond (ltb 0 (last_holder s run)) (rest (last_holder s run)) others ≡ cond (ltb run (last_holder s 0)) (rest (last_holder s 0)) others
      second = go (dec_lt run (last_holder s 0))
        where
          go : Dec (run < last_holder s 0) → cond (ltb 0 (last_holder s run)) (rest (last_holder s run)) others ≡ cond (ltb run (last_holder s 0)) (rest (last_holder s 0)) others
          go (yes l) = ap (λ (m : ℕ). cond (ltb 0 m) (rest m) others) (last_behind s run l) ∙ cond_yes _ _ (lt-ltb 0 (last_holder s 0) (omega arith)) ∙ sym (cond_yes _ _ (lt-ltb _ _ l))
          go (no l) = cond_no _ _ (le-ltb 0 (last_holder s run) (omega (arith, none_behind s run (omega arith)))) ∙ sym (cond_no _ _ (le-ltb run (last_holder s 0) (omega arith)))

-- ---- the inherited speed: nobody is pending at a place from the task count on

module _ (t : Table) (s : State) (fit : positions_fit t s ≡ true) where
  ahead-by : (run : ℕ) → ahead_by t s run (min t.count 16) ≡ shortest_ahead t s run
  unfolding ahead_by shortest_ahead smallest
  ahead-by run = over_past _ _ 65535 (min t.count 16) 16 (omega arith) (λ k l b. none k l b (job_at s k).pending refl)
    where
      none : (k : ℕ) → min t.count 16 ≤ k → k < 16 → (b : Bool) → (job_at s k).pending ≡ b → ((job_at s k).pending && ltb (place_at s k) run) ≡ false
      none k l b true e = absurd (omega (arith, l, b, pending-inside t s fit k b e))
      none k l b false e = ap (λ (b : Bool). b && ltb (place_at s k) run) e

  pub inherited-by : (run : ℕ) → inherited_by t s run (D t (position_of run)) ≡ inherited t s run
  unfolding inherited_by inherited
  inherited-by run = ap (λ (x : ℕ). fastest t (min (D t (position_of run)) x) (max (D t (position_of run)) x)) (ahead-by run)

  top_seen : top s ≡ (seen s).top
  unfolding seen
  top_seen = refl

  -- ---- the turn, by the runner's place and its task; the speed is that of rule 1 where the runner is not top
  pub turn_by : top s < no_place → {run v : ℕ} → run ≡ runner t s → ((run ≡ top s → ⊥) → v ≡ inherited t s run)
      → turn t s ≡ rules_by s.tick.0 s.mark (seen s) run (task_at t (position_of run)) v
  turn_by l {run} {v} e h = turn-runs t s l ∙ ap (rules t s) (sym e) ∙ rules-by t s run ∙ go (ℕ_discrete run (top s))
    where
      at : ℕ → Turn
      at v = rules_by s.tick.0 s.mark (seen s) run (task_at t (position_of run)) v

      go : Dec (run ≡ top s) → at (inherited t s run) ≡ at v
      go (yes q) = own_speed s.tick.0 s.mark (seen s) run (task_at t (position_of run)) (inherited t s run) v (q ∙ top_seen)
      go (no q) = ap at (sym (h q))
