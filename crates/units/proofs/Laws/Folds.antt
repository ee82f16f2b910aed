-- Laws of the folds: one position more, and what the whole says of each position. Assumes nothing.
use Rattle.std.proofs.Common.{◌≡◌, ℕ, zero, suc, ◌+◌, ◌<◌, ◌≤◌, min, max, Bool, true, false, cond, ◌&&◌, List, [], ◌∷◌, ◌++◌, map, length, get_or, set, sym, refl, ap, ◌∙◌, ⊎_elim, le_refl, le_of_suc-le-suc, not-suc-le-zero, le_antisymm, eq-or-lt_of_le, add-one, arith, length-append, length-set, get_or-set_other, get_or-set_same, ext_get_or, le-ltb, lt-ltb}
use mathlib.Core.Bool.{false≢true}
use native.Mathlib.Nat.{min-eq_left, min-eq_right}
use native.Mathlib.Decide.{dec_le, dec_lt}
use lib.ListN.{length-map, get_or-append}
use lib.Seq.{get_or_at}
use Rattle.units.specs.Folds.{over, sum, largest, smallest, some, all, lowest, first, listed}

-- ---- one position more: b is right below n, and b' is made of it

module _ {A : Type 0} (p : ℕ → Bool) (f : ℕ → A → A) (z : A) where
  pub over-more : (n : ℕ) → over p f z (n + 1) ≡ cond (p n) (f n (over p f z n)) (over p f z n)
  unfolding over
  over-more n = rw add-one

  pub over-next : (n : ℕ) {b b' : A} → b ≡ over p f z n → b' ≡ cond (p n) (f n b) b → b' ≡ over p f z (n + 1)
  over-next n e e' = rw over-more (e' ∙ rw e)

-- what is the same at each position below n gathers to the same: f at those alone that have p
pub over_had : {A : Type 0} (p q : ℕ → Bool) (f g : ℕ → A → A) (z : A) (n : ℕ) → ((k : ℕ) → k < n → p k ≡ q k) → ((k : ℕ) (x : A) → k < n → p k ≡ true → f k x ≡ g k x)
    → over p f z n ≡ over q g z n
unfolding over
over_had p q f g z zero h e = refl
over_had p q f g z (suc n) h e =
    let last = le_refl (suc n) in
    rw (← h n last, over_had p q f g z n (λ k l. h k (omega arith)) (λ k x l. e k x (omega arith))) (go (p n) (e n (over q g z n) last))
  where
    go : (b : Bool) → (b ≡ true → f n (over q g z n) ≡ g n (over q g z n)) → cond b (f n (over q g z n)) (over q g z n) ≡ cond b (g n (over q g z n)) (over q g z n)
    go true h = h refl
    go false h = refl

pub over-same : {A : Type 0} (p q : ℕ → Bool) (f g : ℕ → A → A) (z : A) (n : ℕ) → ((k : ℕ) → k < n → p k ≡ q k) → ((k : ℕ) (x : A) → k < n → f k x ≡ g k x)
    → over p f z n ≡ over q g z n
over-same p q f g z n h e = over_had p q f g z n h (λ k x l b. e k x l)

-- positions from n on that do not have p add nothing
pub over_past : {A : Type 0} (p : ℕ → Bool) (f : ℕ → A → A) (z : A) (n m : ℕ) → n ≤ m → ((k : ℕ) → n ≤ k → k < m → p k ≡ false) → over p f z n ≡ over p f z m
unfolding over
over_past p f z n zero l h = let e : n ≡ 0 = omega arith in ap (over p f z) e
over_past p f z n (suc m) l h =
    ⊎_elim
    (λ e. ap (over p f z) e)
    (λ b. over_past p f z n m (omega arith) (λ k i j. h k i (omega arith)) ∙ rw (h m (omega arith) (omega arith)) refl)
    (eq-or-lt_of_le l)

pub sum_same : (f g : ℕ → ℕ) (n : ℕ) → ((k : ℕ) → k < n → f k ≡ g k) → sum f n ≡ sum g n
unfolding sum
sum_same f g n e = over-same _ _ _ _ 0 n (λ k l. refl) (λ k x l. ap (λ (y : ℕ). x + y) (e k l))

pub largest-same : (p q : ℕ → Bool) (f g : ℕ → ℕ) (n : ℕ) → ((k : ℕ) → k < n → p k ≡ q k) → ((k : ℕ) → k < n → f k ≡ g k) → largest p f n ≡ largest q g n
unfolding largest
largest-same p q f g n h e = over-same p q _ _ 0 n h (λ k x l. ap (λ (y : ℕ). max x y) (e k l))

pub smallest-same : (p q : ℕ → Bool) (f g : ℕ → ℕ) (z n : ℕ) → ((k : ℕ) → k < n → p k ≡ q k) → ((k : ℕ) → k < n → f k ≡ g k) → smallest p f z n ≡ smallest q g z n
unfolding smallest
smallest-same p q f g z n h e = over-same p q _ _ z n h (λ k x l. ap (λ (y : ℕ). min x y) (e k l))

pub lowest-same : (p q : ℕ → Bool) (n : ℕ) → ((k : ℕ) → k < n → p k ≡ q k) → lowest p n ≡ lowest q n
unfolding lowest
lowest-same p q n h = over-same p q _ _ n n h (λ k x l. refl)

pub sum-next : (f : ℕ → ℕ) (n : ℕ) {s s' : ℕ} → s ≡ sum f n → s' ≡ s + f n → s' ≡ sum f (n + 1)
unfolding sum
sum-next f n e e' = over-next _ _ _ n e e'

pub largest-next : (p : ℕ → Bool) (f : ℕ → ℕ) (n : ℕ) {m m' : ℕ} → m ≡ largest p f n → m' ≡ cond (p n) (max m (f n)) m → m' ≡ largest p f (n + 1)
unfolding largest
largest-next p f n e e' = over-next _ _ _ n e e'

pub smallest-next : (p : ℕ → Bool) (f : ℕ → ℕ) (z n : ℕ) {m m' : ℕ} → m ≡ smallest p f z n → m' ≡ cond (p n) (min m (f n)) m → m' ≡ smallest p f z (n + 1)
unfolding smallest
smallest-next p f z n e e' = over-next _ _ _ n e e'

pub some_next : (p : ℕ → Bool) (n : ℕ) {b b' : Bool} → b ≡ some p n → b' ≡ cond (p n) true b → b' ≡ some p (n + 1)
unfolding some
some_next p n e e' = over-next _ _ _ n e e'

pub all-next : (p : ℕ → Bool) (n : ℕ) {b b' : Bool} → b ≡ all p n → b' ≡ b && p n → b' ≡ all p (n + 1)
unfolding all
all-next p n e e' = over-next _ _ _ n e e'

-- ---- what the whole says of each position

-- a position below the end is the last, or stands below it
module _ (P : ℕ → Type 0) (n : ℕ) (below : (k : ℕ) → k < n → P k) (last : P n) where
  pub up_to : (k : ℕ) → k < suc n → P k
  up_to k l = ⊎_elim (λ e. rw e last) (below k) (eq-or-lt_of_le (le_of_suc-le-suc l))

pub both : (a b : Bool) → (a && b) ≡ true → (a ≡ true) × (b ≡ true)
both true b h = (refl, h)
both false b h = absurd (false≢true h)

-- the second parts are asked for only where the first ones hold
pub both-same : (a b x y : Bool) → a ≡ b → (a ≡ true → x ≡ y) → (a && x) ≡ (b && y)
both-same true b x y e h = rw (← e) (h refl)
both-same false b x y e h = rw (← e)

pub all_tells : (p : ℕ → Bool) (n : ℕ) → all p n ≡ true → (k : ℕ) → k < n → p k ≡ true
unfolding all over
all_tells p zero h k l = absurd (not-suc-le-zero l)
all_tells p (suc n) h k l = let w = both _ _ h in up_to (λ k. p k ≡ true) n (all_tells p n w.0) w.1 k l

pub all-holds : (p : ℕ → Bool) (n : ℕ) → ((k : ℕ) → k < n → p k ≡ true) → all p n ≡ true
unfolding all over
all-holds p zero h = refl
all-holds p (suc n) h = simp (all-holds p n (λ k l. h k (omega arith)), h n (le_refl (suc n)))

pub all_fails : (p : ℕ → Bool) (n k : ℕ) → k < n → p k ≡ false → all p n ≡ false
all_fails p n k l h = go (all p n) refl
  where
    go : (b : Bool) → all p n ≡ b → all p n ≡ false
    go true e = absurd (false≢true (sym h ∙ all_tells p n e k l))
    go false e = e

-- a test that holds where each position has p, or where some position has it
pub all_told : (p : ℕ → Bool) (n : ℕ) {b : Bool} → (b ≡ true → (k : ℕ) → k < n → p k ≡ true) → (((k : ℕ) → k < n → p k ≡ true) → b ≡ true) → b ≡ all p n
all_told p n {b} f g = go b refl (all p n) refl
  where
    go : (c : Bool) → b ≡ c → (d : Bool) → all p n ≡ d → b ≡ all p n
    go true e d h = e ∙ sym (all-holds p n (f e))
    go false e true h = absurd (false≢true (sym e ∙ g (all_tells p n h)))
    go false e false h = e ∙ sym h

pub largest_bounds : (p : ℕ → Bool) (f : ℕ → ℕ) (n : ℕ) (k : ℕ) → k < n → p k ≡ true → f k ≤ largest p f n
unfolding largest over
largest_bounds p f zero k l h = absurd (not-suc-le-zero l)
largest_bounds p f (suc n) k l h =
    up_to (λ k. p k ≡ true → f k ≤ largest p f (suc n)) n (λ k l h. older (p n) k (largest_bounds p f n k l h)) (λ h. rw h (omega arith)) k l h
  where
    older : (b : Bool) (k : ℕ) → f k ≤ largest p f n → f k ≤ cond b (max (largest p f n) (f n)) (largest p f n)
    older true k h = omega arith
    older false k h = h

-- f of some position below n that has p is m
abbrev pub Among : (ℕ → Bool) → (ℕ → ℕ) → ℕ → ℕ → Type 0
Among p f n m = (k : ℕ) × (k < n) × (p k ≡ true) × (m ≡ f k)

among_more : (p : ℕ → Bool) (f : ℕ → ℕ) (n m : ℕ) → Among p f n m → Among p f (suc n) m
among_more p f n m w = (w.0, omega (arith, w.1), w.2, w.3)

pub largest_found : (p : ℕ → Bool) (f : ℕ → ℕ) (n : ℕ) → 0 < largest p f n → Among p f n (largest p f n)
unfolding largest over
largest_found p f zero l = absurd (omega arith)
largest_found p f (suc n) l = go (p n) refl (dec_le (f n) m) (λ h. among_more p f n m (largest_found p f n h)) l
  where
    m : ℕ
    m = largest p f n

    go : (b : Bool) → p n ≡ b → Dec (f n ≤ m) → (0 < m → Among p f (suc n) m) → 0 < cond b (max m (f n)) m → Among p f (suc n) (cond b (max m (f n)) m)
    go true e (yes q) older h = let s : max m (f n) ≡ m = omega arith in rw s (older (omega arith))
    go true e (no q) older h = (n, le_refl (suc n), e, omega arith)
    go false e q older h = older h

pub smallest-le : (p : ℕ → Bool) (f : ℕ → ℕ) (z n : ℕ) (k : ℕ) → k < n → p k ≡ true → smallest p f z n ≤ f k
unfolding smallest over
smallest-le p f z zero k l h = absurd (not-suc-le-zero l)
smallest-le p f z (suc n) k l h =
    up_to (λ k. p k ≡ true → smallest p f z (suc n) ≤ f k) n (λ k l h. older (p n) k (smallest-le p f z n k l h)) (λ h. rw h (omega arith)) k l h
  where
    older : (b : Bool) (k : ℕ) → smallest p f z n ≤ f k → cond b (min (smallest p f z n) (f n)) (smallest p f z n) ≤ f k
    older true k h = omega arith
    older false k h = h

pub smallest_bound : (p : ℕ → Bool) (f : ℕ → ℕ) (z n : ℕ) → smallest p f z n ≤ z
unfolding smallest over
smallest_bound p f z zero = le_refl z
smallest_bound p f z (suc n) = older (p n) (smallest_bound p f z n)
  where
    older : (b : Bool) → smallest p f z n ≤ z → cond b (min (smallest p f z n) (f n)) (smallest p f z n) ≤ z
    older true h = omega arith
    older false h = h

pub smallest_found : (p : ℕ → Bool) (f : ℕ → ℕ) (z n : ℕ) → smallest p f z n < z → Among p f n (smallest p f z n)
unfolding smallest over
smallest_found p f z zero l = absurd (omega arith)
smallest_found p f z (suc n) l = go (p n) refl (dec_le m (f n)) (λ h. among_more p f n m (smallest_found p f z n h)) l
  where
    m : ℕ
    m = smallest p f z n

    go : (b : Bool) → p n ≡ b → Dec (m ≤ f n) → (m < z → Among p f (suc n) m) → cond b (min m (f n)) m < z → Among p f (suc n) (cond b (min m (f n)) m)
    go true e (yes q) older h = let s : min m (f n) ≡ m = omega arith in rw s (older (omega arith))
    go true e (no q) older h = (n, le_refl (suc n), e, omega arith)
    go false e q older h = older h

pub some_tells : (p : ℕ → Bool) (n : ℕ) → some p n ≡ true → (k : ℕ) × (k < n) × (p k ≡ true)
unfolding some over
some_tells p zero h = absurd (false≢true h)
some_tells p (suc n) h = go (p n) refl (some_tells p n) h
  where
    go : (b : Bool) → p n ≡ b → (some p n ≡ true → (k : ℕ) × (k < n) × (p k ≡ true)) → cond b true (some p n) ≡ true → (k : ℕ) × (k < suc n) × (p k ≡ true)
    go true e older h = (n, le_refl (suc n), e)
    go false e older h = let w = older h in (w.0, omega (arith, w.1), w.2)

pub some_holds : (p : ℕ → Bool) (n k : ℕ) → k < n → p k ≡ true → some p n ≡ true
unfolding some over
some_holds p zero k l h = absurd (not-suc-le-zero l)
some_holds p (suc n) k l h = up_to (λ k. p k ≡ true → some p (suc n) ≡ true) n (λ k l h. older (p n) (some_holds p n k l h)) (λ h. rw h) k l h
  where
    older : (b : Bool) → some p n ≡ true → cond b true (some p n) ≡ true
    older true h = refl
    older false h = h

-- ---- the lowest position that has p

module _ (p : ℕ → Bool) where
  least_le : (z n k : ℕ) → k < n → p k ≡ true → over p min z n ≤ k
  unfolding over
  least_le z zero k l h = absurd (not-suc-le-zero l)
  least_le z (suc n) k l h =
      up_to (λ k. p k ≡ true → over p min z (suc n) ≤ k) n (λ k l h. older (p n) k (least_le z n k l h)) (λ h. rw h (omega arith)) k l h
    where
      older : (b : Bool) (k : ℕ) → over p min z n ≤ k → cond b (min n (over p min z n)) (over p min z n) ≤ k
      older true k h = omega arith
      older false k h = h

  least_at : (z n : ℕ) → over p min z n < z → p (over p min z n) ≡ true
  unfolding over
  least_at z zero l = absurd (omega arith)
  least_at z (suc n) l = go (p n) refl (dec_le n (over p min z n)) (least_at z n) l
    where
      m : ℕ
      m = over p min z n

      go : (b : Bool) → p n ≡ b → Dec (n ≤ m) → (m < z → p m ≡ true) → cond b (min n m) m < z → p (cond b (min n m) m) ≡ true
      go true e (yes q) h l = rw (min-eq_left q) e
      go true e (no q) h l = let s : m ≤ n = omega arith in rw (min-eq_right s) (h (omega arith))
      go false e q h l = h l

  pub lowest-le : (n k : ℕ) → k < n → p k ≡ true → lowest p n ≤ k
  unfolding lowest
  lowest-le n k l h = least_le n n k l h

  pub lowest-at : (n : ℕ) → lowest p n < n → p (lowest p n) ≡ true
  unfolding lowest
  lowest-at n l = least_at n n l

  pub lowest_bound : (n : ℕ) → lowest p n ≤ n
  unfolding lowest over
  lowest_bound n = go n
    where
      older : (b : Bool) (k m : ℕ) → m ≤ n → cond b (min k m) m ≤ n
      older true k m h = omega arith
      older false k m h = h

      go : (k : ℕ) → over p min n k ≤ n
      go zero = le_refl n
      go (suc k) = older (p k) k _ (go k)

  pub none_below : (n : ℕ) → lowest p n ≡ n → (k : ℕ) → k < n → p k ≡ false
  none_below n e k l = go (p k) refl
    where
      go : (b : Bool) → p k ≡ b → p k ≡ false
      go true h = absurd (omega (arith, lowest-le n k l h))
      go false h = h

  -- which position it is
  pub lowest-is : (n k : ℕ) → k ≤ n → (k < n → p k ≡ true) → ((j : ℕ) → j < k → p j ≡ false) → lowest p n ≡ k
  lowest-is n k l here below = le_antisymm (at (dec_lt k n)) (past (dec_lt (lowest p n) k))
    where
      at : Dec (k < n) → lowest p n ≤ k
      at (yes q) = lowest-le n k q (here q)
      at (no q) = omega (arith, lowest_bound n)

      past : Dec (lowest p n < k) → k ≤ lowest p n
      past (yes q) = absurd (false≢true (sym (below _ q) ∙ lowest-at n (omega arith)))
      past (no q) = omega arith

  -- a loop that looks for it: not here, and here
  pub lowest-next : (k : ℕ) → lowest p k ≡ k → p k ≡ false → lowest p (k + 1) ≡ k + 1
  lowest-next k e h =
      lowest-is (k + 1) (k + 1) (omega arith) (λ l. absurd (omega arith)) (rw (add-one k) (up_to (λ j. p j ≡ false) k (none_below k e) h))

  module _ {A : Type 0} (f : ℕ → A) (z : A) (n : ℕ) where
    pub first-at : lowest p n < n → first p f z n ≡ f (lowest p n)
    unfolding first
    first-at l = simp (lt-ltb _ _ l)

    pub first_found : (k : ℕ) → lowest p k ≡ k → k < n → p k ≡ true → first p f z n ≡ f k
    first_found k e l h = let s = lowest-is n k (omega arith) (λ l. h) (none_below k e) in first-at (omega arith) ∙ ap f s

    pub first_none : lowest p n ≡ n → first p f z n ≡ z
    unfolding first
    first_none e = let l : n ≤ lowest p n = omega arith in simp (le-ltb _ _ l)

pub first-same : {A : Type 0} (p q : ℕ → Bool) (f g : ℕ → A) (z : A) (n : ℕ) → ((k : ℕ) → k < n → p k ≡ q k) → ((k : ℕ) → k < n → p k ≡ true → f k ≡ g k)
    → first p f z n ≡ first q g z n
first-same p q f g z n h e =
    ⊎_elim
    (λ m. first_none p f z n m ∙ sym (first_none q g z n (sym low ∙ m)))
    (λ l. first-at p f z n l ∙ e _ l (lowest-at p n l) ∙ ap g low ∙ sym (first-at q g z n (omega (arith, low))))
    (eq-or-lt_of_le (lowest_bound p n))
  where
    low : lowest p n ≡ lowest q n
    low = lowest-same p q n h

-- ---- lists by position

-- an array is as long as the list of what its elements stand for
pub long : {A B : Type 0} (l : List A) (f : A → B) (n : ℕ) → length (map f l) ≡ n → length l ≡ n
long l f n e = sym (length-map l f) ∙ e

-- a list of length n that a loop fills from the front: what is to hold at each place holds at the first i
pub record Filled {A : Type 0} (d : A) (P : ℕ → A → Type 0) (n : ℕ) (l : List A) (i : ℕ) : Type 0 where
  pub within : i ≤ n
  pub long : length l ≡ n
  pub right : (k : ℕ) → k < i → P k (get_or l k d)

module _ {A : Type 0} (d : A) where
  module _ (P : ℕ → A → Type 0) {n : ℕ} {l : List A} where
    pub fill_none : length l ≡ n → Filled d P n l 0
    fill_none e = record { within = omega arith; long = e; right = λ k m. absurd (not-suc-le-zero m) }

    pub fill_next : {i : ℕ} {v : A} → Filled d P n l i → i < n → P i v → Filled d P n (set l i v) (i + 1)
    fill_next {i} {v} h b new = record {
      within = omega arith;
      long = length-set l i v ∙ h.long;
      right = λ k m.
          up_to (λ k. P k (get_or (set l i v) k d)) i
          (λ k m. rw (get_or-set_other l i k v d (λ e. omega arith)) (h.right k m)) (rw (get_or-set_same l i v d (omega arith)) new) k (omega arith);
    }

  module _ (f : ℕ → A) where
    pub listed-length : (n : ℕ) → length (listed f n) ≡ n
    unfolding listed over
    listed-length zero = refl
    listed-length (suc n) = length-append (listed f n) (f n ∷ []) ∙ omega (arith, listed-length n)

    pub listed_at : (n k : ℕ) → k < n → get_or (listed f n) k d ≡ f k
    unfolding listed over
    listed_at zero k l = absurd (not-suc-le-zero l)
    listed_at (suc n) k l =
        up_to (λ k. get_or (listed f n ++ (f n ∷ [])) k d ≡ f k) n
        (λ k l. get_or-append (listed f n) (f n ∷ []) d k (omega (arith, listed-length n)) ∙ listed_at n k l)
        (get_or_at (listed f n) (f n) [] d n (listed-length n)) k l

    pub listed-all : (l : List A) (n : ℕ) → length l ≡ n → ((k : ℕ) → k < n → get_or l k d ≡ f k) → l ≡ listed f n
    listed-all l n e h =
        ext_get_or d l (listed f n) (e ∙ sym (listed-length n)) (λ k m. let b : k < n = omega arith in h k b ∙ sym (listed_at n k b))
