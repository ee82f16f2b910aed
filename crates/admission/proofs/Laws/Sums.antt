-- Laws of what a round is asked for. Assumes nothing.
use Prim.Native.Nat.{ℕ, ◌+◌, ◌*◌, ◌/◌, ◌≤◌, ◌<◌, ◌^◌}
use mathlib.Core.Path.{◌≡◌, refl, sym, ap, ap₂, ◌∙◌}
use native.Mathlib.Nat.{div-zero, div-le_self, mul-zero, mul-le-mul}
use native.Mathlib.Omega.{arith}
use borrow.Author.Tests.{lt-ltb, le-ltb}
use Rattle.units.specs.declared.Ticks.{Ticks}
use Rattle.units.specs.declared.Steps.{Steps}
use Rattle.units.specs.Amounts.{ticks, steps, up, given}
use Rattle.units.specs.Folds.{over, sum, lowest, first}
use Rattle.units.proofs.Laws.Folds.{sum-next, lowest-next, first_found, first_none}
use Rattle.std.specs.Prelude.{Err}
use Rattle.verdict.specs.declared.Fault.TheVariants.{Synchronization}
use Rattle.verdict.specs.Verdict.{passing}
use Rattle.table.specs.declared.Table.{Table}
use Rattle.table.specs.Table.{D, C, S}
use Rattle.admission.specs.Admission.{ticks_in_round, B, synchronization_sum, overloaded}

-- ---- a term: u is the ticks of some work, where a tick gives v

pub no_ticks : (work speed g : ℕ) {d : ℕ} → d ≡ 0 → 0 ≡ ticks_in_round work speed g d
unfolding ticks_in_round
no_ticks work speed g e = rw (e, div-zero g, mul-zero)

pub found_ticks : (work speed g d : ℕ) {u : Ticks} {v : Steps} → u ≡ ticks (up work v.0) → v ≡ steps (given speed) → u.0 * (g / d) ≡ ticks_in_round work speed g d
unfolding ticks_in_round
found_ticks work speed g d e f = rw (e, f)

-- no term is too large for a sum of 64 bits
pub term_small : (g d : ℕ) → g < 2 ^ 32 → (u : ℕ) → u ≤ 65535 → u * (g / d) ≤ 65535 * 4294967295
term_small g d l u h = let small : g / d ≤ 4294967295 = omega (arith, div-le_self g d) in mul-le-mul h small

-- one term more
pub sum_on : (f : ℕ → ℕ) (n : ℕ) {s y : ℕ} → y ≡ f n → s ≡ sum f n → s + y ≡ sum f (n + 1)
sum_on f n {s} own upto = sum-next f n upto (ap (λ (y : ℕ). s + y) own)

-- ---- the walk for number 8: no position below i is overloaded, and x is the sum up to there

abbrev work : Table → ℕ → ℕ
work t k = ticks_in_round (C t k) (S t k) t.round (D t k)

module _ (t : Table) where
  pub record Summed (x i : ℕ) : Type 0 where
    pub within : i ≤ t.count
    pub upto : x ≡ sum (work t) i
    pub small : x ≤ i * (65535 * 4294967295)
    pub none : lowest (overloaded t) i ≡ i

  pub summed_none : Summed 0 0
  unfolding sum lowest over
  summed_none = record { within = omega arith; upto = refl; small = omega arith; none = refl }

  pub summed_end : {x i : ℕ} → Summed x i → t.count ≤ i → passing ≡ first (overloaded t) (λ i. Err (Synchronization i)) passing t.count
  summed_end {x} {i} w h = let e : i ≡ t.count = omega arith in sym (first_none _ _ _ _ (rw e at w.none))

  -- y is what i adds to the sum, and z what it may have to wait for
  module _ {x y z b i : ℕ} (w : Summed x i) (own : y ≡ work t i) (block : b ≡ B t i) (waits : z ≡ ticks_in_round b (S t i) t.round (D t i)) where
    next : x + y ≡ sum (work t) (i + 1)
    next = sum_on _ i own w.upto

    whole : z + x + y ≡ synchronization_sum t i
    unfolding synchronization_sum
    whole =
        let e : z + x + y ≡ z + (x + y) = omega arith in
        e ∙ ap₂ (λ (z s : ℕ). z + s) (waits ∙ ap (λ (b : ℕ). ticks_in_round b (S t i) t.round (D t i)) block) next

    pub summed_above : t.round < z + x + y → i < t.count → Err (Synchronization i) ≡ first (overloaded t) (λ i. Err (Synchronization i)) passing t.count
    unfolding overloaded
    summed_above h inside = sym (first_found _ _ _ _ i w.none inside (lt-ltb t.round (synchronization_sum t i) (omega (arith, whole))))

    pub summed_next : z + x + y ≤ t.round → i < t.count → y ≤ 65535 * 4294967295 → Summed (x + y) (i + 1)
    unfolding overloaded
    summed_next h inside s = record {
      within = omega arith;
      upto = next;
      small = omega arith;
      none = lowest-next _ i w.none (le-ltb t.round (synchronization_sum t i) (omega (arith, whole)));
    }
