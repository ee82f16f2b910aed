-- A table that passes has room: in any span of ticks, for all the jobs whose deadlines lie within it. Assumes nothing.
use Prim.Native.Nat.{ℕ, ◌+◌, ◌*◌, ◌/◌, ◌≤◌, ◌<◌}
use mathlib.Core.Path.{◌≡◌, ap}
use native.Mathlib.Nat.{div-add-mod', div-eq_of_lt, div-mul-le_self, mul-le-mul_left, mul-le-mul_right, le_of_mul-le-mul_right}
use native.Mathlib.Omega.{arith}
use Rattle.units.specs.Amounts.{up, given}
use Rattle.units.specs.Folds.{sum}
use Rattle.units.proofs.Laws.Sums.{sum-le, sum_times, sum_tail}
use Rattle.table.specs.declared.Table.{Table}
use Rattle.table.specs.Table.{D, C, I, S}
use Rattle.admission.specs.Admission.{ticks_in_round, B, independent_sum, synchronization_sum}
use Rattle.admission.proofs.Laws.Admitted.{Admitted}

-- w ticks in each whole length d of h, against as many in each of the round
part : (w p q d g h : ℕ) → q * d ≡ g → p * d ≤ h → w * p * g ≤ w * q * h
part w p q d g h e l = omega (arith, ap (λ x. w * p * x) e, mul-le-mul_left (w * q) l)

module _ (t : Table) (a : Admitted t) (h : ℕ) where
  -- "D divides G"
  whole : (k : ℕ) → k < t.count → t.round / D t k * D t k ≡ t.round
  whole k l = omega (arith, div-add-mod' t.round (D t k), a.divides k l)

  -- the ticks of the first n positions, in h and in the round
  scaled : (w : ℕ → ℕ) (n : ℕ) → n ≤ t.count → sum (λ k. w k * (h / D t k)) n * t.round ≤ sum (λ k. w k * (t.round / D t k)) n * h
  scaled w n l =
      rw (sum_times, sum_times)
      (sum-le _ _ n (λ k b. part (w k) (h / D t k) (t.round / D t k) (D t k) t.round h (whole k (omega arith)) (div-mul-le_self h (D t k))))

  -- by the independent sum: at I
  pub independent_room : sum (λ k. up (C t k) (given (I t k)) * (h / D t k)) t.count ≤ h
  unfolding independent_sum ticks_in_round
  independent_room =
      le_of_mul-le-mul_right
      (omega (arith, scaled (λ k. up (C t k) (given (I t k))) t.count (omega arith), mul-le-mul_right h a.independent))
      a.setting.round_low

  -- by the synchronization sum of the last position whose D is within h: at S, with the longest section that it may have to wait for
  module _ (p : ℕ) (inside : p < t.count) (within : D t p ≤ h) (beyond : (j : ℕ) → p < j → j < t.count → h < D t j) where
    abbrev work : ℕ → ℕ
    work k = up (C t k) (given (S t k))

    tail : sum (λ k. work k * (h / D t k)) t.count ≤ sum (λ k. work k * (h / D t k)) (p + 1)
    tail =
        sum_tail (λ k. work k * (h / D t k)) t.count (p + 1) (omega arith)
        (λ k b c. omega (arith, ap (λ x. work k * x) (div-eq_of_lt (beyond k (omega arith) c))))

    blocked : up (B t p) (given (S t p)) * t.round ≤ up (B t p) (given (S t p)) * (t.round / D t p) * h
    blocked = omega (arith, part (up (B t p) (given (S t p))) 1 (t.round / D t p) (D t p) t.round h (whole p inside) (omega arith))

    pub synchronization_room : up (B t p) (given (S t p)) + sum (λ k. up (C t k) (given (S t k)) * (h / D t k)) t.count ≤ h
    unfolding synchronization_sum ticks_in_round
    synchronization_room =
        le_of_mul-le-mul_right
        (omega (
          arith,
          mul-le-mul_right t.round tail,
          scaled work (p + 1) (omega arith),
          mul-le-mul_right h (a.synchronization p inside),
          blocked,
        ))
        a.setting.round_low
