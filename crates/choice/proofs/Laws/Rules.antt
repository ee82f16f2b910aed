-- The five rules, one equation each, and the mark that they leave. Assumes nothing.
use Rattle.std.specs.Prelude.{Some, None}
use Prim.Native.Nat.{ℕ, ◌/◌, ◌^◌, ◌≤◌, ◌<◌}
use mathlib.Core.Path.{◌≡◌, refl, ap, ◌∙◌}
use native.Mathlib.Omega.{arith}
use native.Mathlib.Decide.{dec_le, ℕ_discrete}
use borrow.Author.Tests.{eq-eqb, ne_eqb, lt-ltb, le-ltb, le-leb, lt-leb}
use Rattle.units.proofs.Laws.Clock.{distance-after}
use Rattle.table.specs.declared.Table.{Table}
use Rattle.table.specs.Table.{task_at}
use Rattle.state.specs.declared.State.{State}
use Rattle.state.specs.State.{Mark}
use Rattle.state.specs.declared.Place.{Place}
use Rattle.state.specs.Order.{place, position_of, no_place, last_holder}
use Rattle.choice.specs.declared.Turn.{Turn}
use Rattle.choice.specs.Choice.{top, mark_place, mark_at, alone, rule1, rule2, rule4, no_holder_behind, rules}

-- a mark made of a place stands at that place
pub mark_back : (now k : ℕ) → now < 2 ^ 32 → k < no_place → mark_place now (mark_at now k) ≡ k
unfolding mark_at place
mark_back now k h l = let e = distance-after now (k / 256) h (omega arith) in omega (arith, e)

module _ (t : Table) (s : State) (run : ℕ) where
  abbrev now : ℕ
  now = s.tick.0

  abbrev old : ℕ
  old = mark_place now s.mark

  abbrev last : ℕ
  last = last_holder s run

  pub rule_1 : (run ≡ top s → ⊥) → rules t s run ≡ rule1 t s run
  unfolding rules
  rule_1 h = simp (ne_eqb _ _ h)

  pub rule_2 : run ≡ top s → 0 < last → rules t s run ≡ rule2 t s run
  unfolding rules
  rule_2 h l = simp (eq-eqb _ _ h, lt-ltb _ _ l)

  others : run ≡ top s → last ≤ 0 → rules t s run ≡ no_holder_behind s.mark old run (task_at t (position_of run))
  unfolding rules
  others h l = simp (eq-eqb _ _ h, le-ltb _ _ l)

  pub rule_3 : (m : Place) → run ≡ top s → last ≤ 0 → s.mark ≡ Some m → old ≤ run → rules t s run ≡ alone run (task_at t (position_of run))
  rule_3 m h l e b = others h l ∙ past s.mark e b
    where
      past : (n : Mark) → n ≡ Some m → mark_place now n ≤ run → no_holder_behind n (mark_place now n) run (task_at t (position_of run)) ≡ alone run (task_at t (position_of run))
      past n e b = rw e (simp (le-leb _ _ (rw e at b)))

  pub rule_4 : (m : Place) → run ≡ top s → last ≤ 0 → s.mark ≡ Some m → run < old → rules t s run ≡ rule4 run m (task_at t (position_of run))
  rule_4 m h l e b = others h l ∙ ahead s.mark e b
    where
      ahead : (n : Mark) → n ≡ Some m → run < mark_place now n → no_holder_behind n (mark_place now n) run (task_at t (position_of run)) ≡ rule4 run m (task_at t (position_of run))
      ahead n e b = rw e (simp (lt-leb _ _ (rw e at b)))

  pub rule_5 : run ≡ top s → last ≤ 0 → s.mark ≡ None → rules t s run ≡ alone run (task_at t (position_of run))
  rule_5 h l e = others h l ∙ none s.mark e
    where
      none : (n : Mark) → n ≡ None → no_holder_behind n (mark_place now n) run (task_at t (position_of run)) ≡ alone run (task_at t (position_of run))
      none n e = rw e

  -- first that fits
  pub data Fits : Type 0 where
    one : (run ≡ top s → ⊥) → Fits
    two : run ≡ top s → 0 < last → Fits
    three : (m : Place) → run ≡ top s → last ≤ 0 → s.mark ≡ Some m → old ≤ run → Fits
    four : (m : Place) → run ≡ top s → last ≤ 0 → s.mark ≡ Some m → run < old → Fits
    five : run ≡ top s → last ≤ 0 → s.mark ≡ None → Fits

  pub fits : Fits
  fits = go (ℕ_discrete run (top s)) (dec_le last 0) s.mark refl
    where
      marked : (m : Place) → run ≡ top s → last ≤ 0 → s.mark ≡ Some m → Dec (old ≤ run) → Fits
      marked m h l e (yes b) = three m h l e b
      marked m h l e (no b) = four m h l e (omega arith)

      go : Dec (run ≡ top s) → Dec (last ≤ 0) → (n : Mark) → s.mark ≡ n → Fits
      go (no h) d n e = one h
      go (yes h) (no l) n e = two h (omega arith)
      go (yes h) (yes l) None e = five h l e
      go (yes h) (yes l) (Some m) e = marked m h l e (dec_le old run)

  pub rules-runner : (rules t s run).runner ≡ Some (position_of run)
  rules-runner = go fits
    where
      of : {u : Turn} → rules t s run ≡ u → u.runner ≡ Some (position_of run) → (rules t s run).runner ≡ Some (position_of run)
      of e h = ap (λ (u : Turn). u.runner) e ∙ h

      go : Fits → (rules t s run).runner ≡ Some (position_of run)
      go (one h) = of (rule_1 h) refl
      go (two h l) = of (rule_2 h l) refl
      go (three m h l e b) = of (rule_3 m h l e b) refl
      go (four m h l e b) = of (rule_4 m h l e b) refl
      go (five h l e) = of (rule_5 h l e) refl
