-- The set of the resources that are held. Assumes nothing.
use Prim.Native.Nat.{ℕ, zero, suc, ◌+◌}
use mathlib.Core.Path.{◌≡◌, refl, sym, ap, ◌∙◌}
use mathlib.Core.Bool.{Bool, true, false, cond, ◌&&◌, ◌||◌, or-false}
use lib.Dec.{ltb, eqb}
use Rattle.units.specs.Folds.{over, some}
use Rattle.units.specs.Sets.{set, with}
use Rattle.units.proofs.Laws.Folds.{some_next}
use Rattle.units.proofs.Laws.Sets.{set_same, has-set}
use Rattle.state.specs.declared.Stack.{Stack}
use Rattle.state.specs.declared.State.{State}
use Rattle.state.specs.Stack.{section_at, any_on}
use Rattle.state.specs.State.{job_at}
use Rattle.state.specs.Order.{holds, with_held}

-- the resources that the jobs below n hold
abbrev pub held_below : State → ℕ → ℕ
held_below s n = set (λ r. some (λ k. holds r (job_at s k).held) n) 16

pub or-cond : (a b : Bool) → (a || b) ≡ cond b true a
or-cond true true = refl
or-cond true false = refl
or-cond false true = refl
or-cond false false = refl

or_last : (a b c : Bool) → ((a || b) || c) ≡ (a || cond c true b)
or_last true b c = refl
or_last false b true = or-cond b true
or_last false b false = or-cond b false

-- a set with the resources of the first n sections
module _ (h : Stack) (q : ℕ → Bool) where
  abbrev one : ℕ → ℕ → Bool
  one r i = ltb i h.depth && eqb r (section_at h i).resource

  with-sections : (n : ℕ) → over (λ i. ltb i h.depth) (λ i m. with m (section_at h i).resource) (set q 16) n ≡ set (λ r. q r || some (one r) n) 16
  unfolding over some with
  with-sections zero = set_same _ _ 16 (λ r l. sym (or-false (q r)))
  with-sections (suc n) = rw (with-sections n) (go (ltb n h.depth))
    where
      before : ℕ → Bool
      before r = q r || some (one r) n

      go : (b : Bool) → cond b (with (set (λ r. q r || some (one r) n) 16) (section_at h n).resource) (set (λ r. q r || some (one r) n) 16)
          ≡ set (λ r. q r || cond (b && eqb r (section_at h n).resource) true (some (one r) n)) 16
      go true =
          set_same _ _ 16 (λ r l. ap (λ (a : Bool). a || eqb r (section_at h n).resource) (has-set before 16 r l) ∙ or_last (q r) (some (one r) n) (eqb r (section_at h n).resource))
      go false = refl

module _ (s : State) (n : ℕ) where
  pub held_next : (h : Stack) → h ≡ (job_at s n).held → with_held (held_below s n) h ≡ held_below s (n + 1)
  unfolding any_on
  held_next h e =
      with-sections h (λ r. some (λ k. holds r (job_at s k).held) n) 4
      ∙ set_same _ _ 16 (λ r l. some_next (λ k. holds r (job_at s k).held) n refl (or-cond _ (holds r h) ∙ ap (λ (g : Stack). cond (holds r g) true (some (λ k. holds r (job_at s k).held) n)) e))
