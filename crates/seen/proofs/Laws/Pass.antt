-- One pass over the positions sees what the rules speak of. Assumes nothing.
use Prim.Native.Nat.{ℕ, zero, suc, ◌+◌, ◌<◌, min, max}
use mathlib.Core.Path.{◌≡◌, refl, sym, ap, ◌∙◌}
use mathlib.Core.Bool.{Bool, true, false, cond, ◌&&◌}
use native.Mathlib.Decide.{dec_lt}
use native.Mathlib.Omega.{arith}
use lib.Dec.{ltb, eqb}
use borrow.Author.Tests.{lt-ltb, le-ltb, ltb-false}
use Rattle.units.specs.Clock.{distance}
use Rattle.units.specs.Folds.{over, some, smallest, largest}
use Rattle.units.specs.Sets.{set, with}
use Rattle.units.proofs.Laws.Folds.{over-same, smallest-next, largest-next}
use Rattle.units.proofs.Laws.Sets.{set_next}
use Rattle.units.proofs.Laws.Tests.{cond_yes, cond_no}
use Rattle.state.specs.declared.Job.{Job}
use Rattle.state.specs.declared.Stack.{Stack}
use Rattle.state.specs.declared.State.{State}
use Rattle.state.specs.Stack.{section_at}
use Rattle.state.specs.State.{job_at}
use Rattle.state.specs.Order.{place_at, no_place, holds_any, is_pending, is_started, is_holder, first_in_order, last_holder, held_resources, with_held}
use Rattle.state.proofs.Laws.Holders.{held_below, held_next}
use Rattle.seen.specs.declared.Seen.{Seen}
use Rattle.seen.specs.Seen.{is_due, due, seen, nothing_seen, seen_with}

-- what was seen below n
abbrev pub seen_to : State → ℕ → Seen
seen_to s n = record {
  held = held_below s n;
  due = set (λ k. is_due s.tick.0 (job_at s k)) n;
  top = smallest (λ k. is_pending (job_at s k)) (place_at s) no_place n;
  started = smallest (λ k. is_started (job_at s k)) (place_at s) no_place n;
  last = largest (λ k. is_holder (job_at s k)) (place_at s) n;
}

same_seen : {a b c d e a' b' c' d' e' : ℕ} → a ≡ a' → b ≡ b' → c ≡ c' → d ≡ d' → e ≡ e'
    → ◌≡◌ {A = Seen} (record { held = a; due = b; top = c; started = d; last = e }) (record { held = a'; due = b'; top = c'; started = d'; last = e' })
same_seen p q r t u = rw (p, q, r, t, u) refl

and_yes : (b : Bool) → (b && true) ≡ b
and_yes true = refl
and_yes false = refl

-- a stack on which nothing is adds nothing
pub with_none : (m : ℕ) (h : Stack) → holds_any h ≡ false → with_held m h ≡ m
unfolding over
with_none m h e =
    over-same (λ i. ltb i h.depth) (λ i. false) (λ i found. with found (section_at h i).resource) (λ i found. with found (section_at h i).resource) m 4
    (λ i l. le-ltb i h.depth (omega (arith, ltb-false 0 h.depth e))) (λ i x l. refl)

-- a job that is not there holds nothing: its stack may be added too
pub seen-held : (now : ℕ) (j : Job) (k : ℕ) (x : Seen) → (j.pending ≡ false → holds_any j.held ≡ false) → (seen_with now j k x).held ≡ with_held x.held j.held
unfolding seen_with
seen-held now j k x none = go j.pending refl
  where
    go : (b : Bool) → j.pending ≡ b → (seen_with now j k x).held ≡ with_held x.held j.held
    go true e = ap (λ (z : Seen). z.held) (cond_yes _ _ e)
    go false e = ap (λ (z : Seen). z.held) (cond_no _ _ e) ∙ sym (with_none x.held j.held (none e))

-- a holder's place is above 0, or adds nothing to the largest
module _ (p : ℕ → Bool) (f : ℕ → ℕ) where
  above_none : (n : ℕ) → largest p f n ≡ largest (λ k. p k && ltb 0 (f k)) f n
  unfolding largest over
  above_none zero = refl
  above_none (suc n) = rw (above_none n) (go (p n) (dec_lt 0 (f n)))
    where
      m : ℕ
      m = largest (λ k. p k && ltb 0 (f k)) f n

      go : (b : Bool) → Dec (0 < f n) → cond b (max m (f n)) m ≡ cond (b && ltb 0 (f n)) (max m (f n)) m
      go false d = refl
      go true (yes l) = rw (lt-ltb 0 (f n) l)
      go true (no l) = rw (le-ltb 0 (f n) (omega arith)) (omega arith)

-- ---- from nothing, one position more, to the last

module _ (s : State) where
  pub seen_none : nothing_seen ≡ seen_to s 0
  unfolding set some smallest largest over
  seen_none = refl

  module _ (k : ℕ) (l : k < 16) where
    abbrev at : ℕ
    at = place_at s k

    abbrev near : Bool
    near = eqb (distance s.tick.0 (job_at s k).deadline.0) 1

    -- a position where no job is adds nothing
    pub seen_past : (job_at s k).pending ≡ false → holds_any (job_at s k).held ≡ false → seen_to s k ≡ seen_to s (k + 1)
    seen_past e h = same_seen
        (sym (with_none (held_below s k) (job_at s k).held h) ∙ held_next s k (job_at s k).held refl)
        (set_next _ k l refl (sym (cond_no _ _ (absent _))))
        (smallest-next _ _ no_place k refl (sym (cond_no _ _ e)))
        (smallest-next _ _ no_place k refl (sym (cond_no _ _ (absent _))))
        (largest-next _ _ k refl (sym (cond_no _ _ (ap (λ (a : Bool). a && (job_at s k).pending) h))))
      where
        absent : (b : Bool) → ((job_at s k).pending && b) ≡ false
        absent b = ap (λ (a : Bool). a && b) e

    pub seen_next : ((job_at s k).pending ≡ false → holds_any (job_at s k).held ≡ false) → seen_with s.tick.0 (job_at s k) k (seen_to s k) ≡ seen_to s (k + 1)
    unfolding seen_with
    seen_next absent = go (job_at s k).pending refl
      where
        go : (b : Bool) → (job_at s k).pending ≡ b → seen_with s.tick.0 (job_at s k) k (seen_to s k) ≡ seen_to s (k + 1)
        go false e = cond_no _ _ e ∙ seen_past e (absent e)
        go true e = cond_yes _ _ e ∙ same_seen
            (held_next s k (job_at s k).held refl)
            (set_next _ k l refl (ap (λ (b : Bool). cond (b && near) (with (seen_to s k).due k) (seen_to s k).due) (sym e)))
            (smallest-next _ _ no_place k refl (sym (cond_yes _ _ e)))
            (smallest-next _ _ no_place k refl (ap (λ (b : Bool). cond (b && (job_at s k).started) (min (seen_to s k).started at) (seen_to s k).started) (sym e)))
            (largest-next _ _ k refl (ap (λ (b : Bool). cond b (max (seen_to s k).last at) (seen_to s k).last) (sym (ap (λ (b : Bool). holds_any (job_at s k).held && b) e ∙ and_yes (holds_any (job_at s k).held)))))

  pub seen-whole : seen_to s 16 ≡ seen s
  unfolding seen due first_in_order last_holder held_resources
  seen-whole = same_seen refl refl refl refl (above_none _ (place_at s) 16)
