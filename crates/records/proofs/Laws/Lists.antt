-- The records as a list, and what is gathered over it. Assumes nothing.
use Rattle.std.proofs.Common.{◌≡◌, ℕ, zero, suc, ◌+◌, ◌-◌, ◌*◌, ◌<◌, ◌≤◌, Bool, true, cond, not, ◌&&◌, List, [], ◌∷◌, length, take, drop, get_or, sym, refl, ap, ◌∙◌, add-one, arith, Option, Some, None, ⊎_elim, ltb, lt-ltb, le-ltb, length-drop, length-take-le}
use native.Mathlib.Decide.{dec_lt}
use lib.ListN.{get_or-eq_default}
use denote.Param.Members.{Mut}
use denote.Ref.{Bor}
use lib.Seq.{take_all}
use Rattle.std.specs.Slice.{IsGetRangeResult}
use Rattle.std.specs.Option.{unwrap_or}
use Rattle.std.specs.Array.{IsFromFnResult, IsFromFnResultFrom}
use Rattle.std.specs.Fn.{Called}
use Rattle.std.specs.List.{list_all, prefix_len, range_with_len}
use Rattle.std.specs.Simd.{first_chunks}
use Rattle.std.proofs.lemmas.List.{drop-drop, get_or-drop, get_or-take}
use Rattle.std.proofs.lemmas.List.Folds.{list_all_more}
use Rattle.std.proofs.lemmas.List.FromFn.{length-range_with_len, get_or-range_with_len}
use Rattle.std.proofs.lemmas.List.Sums.{prefix_len-le-length, prefix_len_passes, prefix_len_stops}
use Rattle.units.specs.Folds.{over, all, listed}
use Rattle.units.proofs.Laws.Folds.{over-same, lowest-is, listed-all}
use Rattle.records.specs.Bytes.{record_count, record_at}
use Rattle.records.specs.Records.{is_task, is_event, task_count}
use Rattle.records.specs.Contents.{task_record}

-- each of a list has p
module _ {A : Type 0} (p : A → Bool) (xs : List A) (d : A) where
  all_below : (n : ℕ) → n ≤ length xs → list_all p (take n xs) ≡ all (λ k. p (get_or xs k d)) n
  unfolding all over
  all_below zero h = refl
  all_below (suc n) h =
      ap (λ (k : ℕ). list_all p (take k xs)) (sym (add-one n))
      ∙ list_all_more p xs n d (omega arith)
      ∙ ap (λ (b : Bool). b && p (get_or xs n d)) (all_below n (omega arith))

  pub all_of : list_all p xs ≡ all (λ k. p (get_or xs k d)) (length xs)
  all_of = ap (list_all p) (sym (take_all (length xs) xs (omega arith))) ∙ all_below (length xs) (omega arith)

pub all_between : (p : ℕ → Bool) (a n : ℕ) → list_all p (range_with_len a n) ≡ all (λ k. p (a + k)) n
unfolding all
all_between p a n =
    all_of p (range_with_len a n) 0
    ∙ ap (all (λ k. p (get_or (range_with_len a n) k 0))) (length-range_with_len a n)
    ∙ over-same _ _ _ _ true n (λ k l. refl) (λ k b l. ap (λ (i : ℕ). b && p i) (get_or-range_with_len a n k 0 l))

-- what a closure that only looks makes of each index
module _ {A F : Type 0} (g : Mut F (ℕ × Unit {0}) A) (f : ℕ → A) (d : A) {h : F} (says : (i : ℕ) (y : A) (q : F) → Called g h (i, tt) y q → (q ≡ h) × (y ≡ f i)) where
  each_by : (ys : List A) (n i : ℕ) → IsFromFnResultFrom g h ys i n → (k : ℕ) → k < n → get_or ys (i + k) d ≡ f (i + k)
  each_by ys zero i m k l = absurd (omega arith)
  each_by ys (suc n) i m zero l = let e : i + 0 ≡ i = omega arith in rw e (m.2.1 d ∙ (says i m.1 m.0 m.3).1)
  each_by ys (suc n) i m (suc k) l =
      let e : i + suc k ≡ i + 1 + k = omega arith in
      rw e (each_by ys n (i + 1) (rw (says i m.1 m.0 m.3).0 at m.4) k (omega arith))

  pub listed_by : {ys : List A} {n : ℕ} → IsFromFnResult g h ys n → ys ≡ listed f n
  listed_by {ys} {n} m =
      listed-all d f ys n m.long (λ k l. let e : 0 + k ≡ k = omega arith in rw e at (each_by ys n 0 m.each k l))

-- past the last chunk there are no bytes
pub chunk_at : (n k : ℕ) (xs : List ℕ) → get_or (first_chunks 32 n xs) k [] ≡ cond (ltb k n) (take 32 (drop (k * 32) xs)) []
chunk_at zero k xs = rw (le-ltb k 0 (omega arith)) refl
chunk_at (suc n) zero xs = rw (lt-ltb 0 (suc n) (omega arith)) refl
chunk_at (suc n) (suc k) xs =
    let e : 32 + k * 32 ≡ suc k * 32 = omega arith in
    chunk_at n k (drop 32 xs) ∙ rw (drop-drop (k * 32) 32 xs, e) (go (dec_lt k n))
  where
    go : Dec (k < n) → cond (ltb k n) (take 32 (drop (suc k * 32) xs)) [] ≡ cond (ltb (suc k) (suc n)) (take 32 (drop (suc k * 32) xs)) []
    go (yes h) = rw (lt-ltb k n h, lt-ltb (suc k) (suc n) (omega arith)) refl
    go (no h) = rw (le-ltb k n (omega arith), le-ltb (suc k) (suc n) (omega arith)) refl

-- all but the first
pub rest_of : (rs : List (List ℕ)) (o : Option (Bor (List (List ℕ)))) {behind : Bor (List (List ℕ))} (none : Bor (List (List ℕ)))
    → IsGetRangeResult rs 1 (length rs) o → behind ≡ unwrap_or o none → none.now ≡ [] → behind.now ≡ drop 1 rs
rest_of [] None none h is empty = rw is empty
rest_of (r ∷ rs) None none h is empty = absurd (⊎_elim (λ l. omega (arith, l)) (λ l. omega (arith, l)) h.0)
rest_of rs (Some x) none h is empty = rw is (h.0.2 ∙ take_all (length rs - 1) (drop 1 rs) (omega (arith, length-drop 1 rs)))

-- rs are the records of the file
module _ (file : List ℕ) (rs : List (List ℕ)) (long : length rs ≡ record_count file) (each : (k : ℕ) → get_or rs k [] ≡ record_at file k) where
  pub all_from : (first : ℕ) → list_all is_event (drop first rs) ≡ all (λ k. is_event (record_at file (first + k))) (record_count file - first)
  unfolding all
  all_from first =
      let size : length (drop first rs) ≡ record_count file - first = omega (arith, length-drop first rs) in
      all_of is_event (drop first rs) []
      ∙ ap (all (λ k. is_event (get_or (drop first rs) k []))) size
      ∙ over-same _ _ _ _ true _ (λ k l. refl) (λ k b l. ap (λ (r : List ℕ). b && is_event r) (get_or-drop first rs k [] ∙ each (first + k)))

  -- those behind the first, up to the first that is no task
  module _ (behind : List (List ℕ)) (n : ℕ) (rest : behind ≡ drop 1 rs) (counted : n ≡ prefix_len is_task behind) where
    here : (k : ℕ) → get_or behind k [] ≡ record_at file (1 + k)
    here k = rw rest (get_or-drop 1 rs k [] ∙ each (1 + k))

    size : length behind ≡ record_count file - 1
    size = rw rest (omega (arith, length-drop 1 rs))

    within : n ≤ length behind
    within = omega (arith, prefix_len-le-length is_task behind)

    n_is : n ≡ task_count file
    unfolding task_count
    n_is =
        sym (lowest-is (λ k. not (is_task (record_at file (1 + k)))) (record_count file - 1) n (omega (arith, within, size))
        (λ l. let s : prefix_len is_task behind < length behind = omega (arith, size) in rw (← here n, counted, prefix_len_stops is_task behind [] s) refl)
        (λ j l. let s : j < prefix_len is_task behind = omega arith in rw (← here j, prefix_len_passes is_task behind j [] s) refl))

    pub tasks_counted : length (take n behind) ≡ task_count file
    tasks_counted = length-take-le n behind within ∙ n_is

    pub task_at : (k : ℕ) → get_or (take n behind) k [] ≡ task_record file k
    unfolding task_record
    task_at k = go (dec_lt k n)
      where
        go : Dec (k < n) → get_or (take n behind) k [] ≡ cond (ltb k (task_count file)) (record_at file (1 + k)) []
        go (yes h) = rw (get_or-take n behind k [] h, here k, ← n_is, lt-ltb k n h) refl
        go (no h) = rw (get_or-eq_default (take n behind) [] {n = k} (omega (arith, length-take-le n behind within)), ← n_is, le-ltb k n (omega arith)) refl
