-- The pass that tests each place as it goes: its two ends, and one place more. Assumes nothing.
use Rattle.std.specs.Prelude.{Some, None}
use Prim.Native.Nat.{ℕ, ◌+◌, ◌≤◌, ◌<◌}
use mathlib.Core.Path.{◌≡◌, refl, sym, ap, ◌∙◌}
use mathlib.Core.Bool.{Bool, true, false, not, ◌&&◌}
use native.Mathlib.Omega.{arith}
use lib.ListN.{length}
use borrow.Author.Tests.{lt-ltb, le-ltb}
use Rattle.units.proofs.Laws.Folds.{both}
use Rattle.units.proofs.Laws.Tests.{cond_yes, cond_no, passed, failed}
use Rattle.table.specs.declared.Table.{Table}
use Rattle.table.specs.Table.{task_at}
use Rattle.state.specs.declared.Job.{Job}
use Rattle.state.specs.declared.State.{State}
use Rattle.state.specs.State.{job_at}
use Rattle.state.specs.Order.{holds_any}
use Rattle.state.proofs.Laws.Stacks.{on_empty}
use Rattle.state.proofs.Laws.Past.{read_at, read_same}
use Rattle.consistency.specs.Consistency.{stack_fits, job_fits, unused, is_taken, positions_fit}
use Rattle.consistency.proofs.Laws.Jobs.{job_tells, unused_tells}
use Rattle.consistency.proofs.Laws.Places.{fitting, walk_none, walk_unfit, walk_taken, walk_next, walk_end}
use Rattle.consistency.proofs.Laws.Places as Places
use Rattle.seen.specs.declared.Seen.{Seen}
use Rattle.seen.specs.Seen.{nothing_seen, seen_with, walked}
use Rattle.seen.proofs.Laws.Pass.{seen_to, with_none, seen_none, seen-held, seen_past, seen_next, seen-whole}

-- whether a place in the table fits, and one past it: of the job that is read there
abbrev used_fits : Table → State → ℕ → Bool
used_fits t s n = stack_fits (read_at s n).held && job_fits (task_at t n) s.tick.0 (read_at s n)

abbrev past_fits : State → ℕ → Bool
past_fits s n = stack_fits (read_at s n).held && unused (read_at s n)

module _ (t : Table) (s : State) where
  -- the places below n fit, and x is what was seen there
  pub record Passing (x : Seen) (n : ℕ) : Type 0 where
    pub places : Places.Walked t s x.held n
    pub same : x ≡ seen_to s n

  pub pass_none : Passing nothing_seen 0
  pass_none = record { places = walk_none t s; same = seen_none s }

  walked_unfit : false ≡ positions_fit t s → None ≡ walked t s
  unfolding walked
  walked_unfit e = sym (cond_no _ _ (sym e))

  pub pass_end : {x : Seen} {n : ℕ} → Passing x n → 16 ≤ n → Some x ≡ walked t s
  unfolding walked
  pass_end {x} {n} w l =
      let e : n ≡ 16 = omega (arith, w.places.within) in
      ap Some (w.same ∙ ap (seen_to s) e ∙ seen-whole s) ∙ sym (cond_yes _ _ (sym (walk_end t s w.places l)))

  module _ {n : ℕ} {r : Bool} (b : n < 16) where
    used : n < t.count → r ≡ used_fits t s n → r ≡ fitting t s n (read_at s n)
    used l e = e ∙ ap (λ (a : Bool). stack_fits (read_at s n).held && a) (sym (cond_yes _ _ (lt-ltb _ _ l)))

    past : t.count ≤ n → r ≡ past_fits s n → r ≡ fitting t s n (read_at s n)
    past l e = e ∙ ap (λ (a : Bool). stack_fits (read_at s n).held && a) (sym (cond_no _ _ (le-ltb _ _ l)))

    pub pass_unfit : not r ≡ true → r ≡ used_fits t s n → n < t.count → None ≡ walked t s
    pass_unfit h e l = walked_unfit (walk_unfit t s b (failed (used l e) h))

    pub pass_in_use : not r ≡ true → r ≡ past_fits s n → t.count ≤ n → None ≡ walked t s
    pass_in_use h e l = walked_unfit (walk_unfit t s b (failed (past l e) h))

    module _ {x : Seen} (w : Passing x n) where
      pub pass_taken : r ≡ true → r ≡ is_taken x.held (read_at s n).held → None ≡ walked t s
      pass_taken h e = walked_unfit (walk_taken t s b w.places (sym e ∙ h))

      pub pass_next : {y z : Seen} {f : Bool} → y ≡ z → z ≡ seen_with s.tick.0 (read_at s n) n x → f ≡ false → f ≡ is_taken x.held (read_at s n).held
          → not r ≡ false → r ≡ used_fits t s n → n < t.count → length (task_at t n).limits ≡ 8 → Passing y (n + 1)
      unfolding seen_with
      pass_next {y} {z} {f} i d h g q e l long =
          let v = both _ _ (passed e q) in
          let none : (read_at s n).pending ≡ false → holds_any (read_at s n).held ≡ false = λ p. ((job_tells (task_at t n) s.tick.0 (read_at s n) v.0 v.1).absent p).held in
          record {
            places = walk_next t s b w.places (ap (λ (x : Seen). x.held) (i ∙ d) ∙ seen-held s.tick.0 (read_at s n) n x none) (sym g ∙ h) (passed (used l e) q) (λ m. long);
            same =
                i ∙ d ∙ read_same (λ (j : Job). seen_with s.tick.0 j n x) refl s n ∙ ap (seen_with s.tick.0 (job_at s n) n) w.same
                ∙ seen_next s n b (λ p. sym (read_same (λ (j : Job). holds_any j.held) refl s n) ∙ none (read_same (λ (j : Job). j.pending) refl s n ∙ p));
          }

      pub pass_past : {y : Seen} → y ≡ x → not r ≡ false → r ≡ past_fits s n → t.count ≤ n → Passing y (n + 1)
      pass_past d q e l =
          let v = both _ _ (passed e q) in
          let u = unused_tells (read_at s n) v.0 v.1 in
          let none = u.absent.held in
          record {
            places = walk_next t s b w.places (ap (λ (z : Seen). z.held) d ∙ sym (with_none x.held (read_at s n).held none)) (on_empty _ (read_at s n).held none) (passed (past l e) q) (λ m. absurd (omega arith));
            same = d ∙ w.same ∙ seen_past s n b (sym (read_same (λ (j : Job). j.pending) refl s n) ∙ u.pending) (sym (read_same (λ (j : Job). holds_any j.held) refl s n) ∙ none);
          }
