-- One piece after another. Assumes nothing.
use mathlib.Core.Path.{◌≡◌, refl, sym, ◌∙◌}
use mathlib.Core.List.{List, [], ◌∷◌, ◌++◌, append_assoc}
use Prim.Native.Nat.{ℕ, suc, ◌+◌, ◌-◌, ◌≤◌}
use native.Mathlib.Omega.{arith}
use lib.ListN.{length, take, drop, set, length-append}
use lib.Seq.{sets, sets-eq, drop-drop}
use borrow.Rule.Slice.PartMut.{put_mid}
use Rattle.lines.specs.declared.pieces.Part.{Part}
use Rattle.lines.specs.Writing.{Put, Wrote}

sets_append : (l : List ℕ) (i : ℕ) (xs ys : List ℕ) → sets l i (xs ++ ys) ≡ sets (sets l i xs) (i + length xs) ys
sets_append l i [] ys = let e : i + 0 ≡ i = omega arith in rw e refl
sets_append l i (x ∷ xs) ys =
    let e : suc i + length xs ≡ i + suc (length xs) = omega arith in rw (← e) (sets_append (set l i x) (suc i) xs ys)

pub put_more : {l m n : List ℕ} {i j k : ℕ} {xs ys : List ℕ} → Put l i xs j m → Put m j ys k n → Put l i (xs ++ ys) k n
put_more {l} {m} {n} {i} {j} {k} {xs} {ys} p q =
    record { holds = q.holds ∙ rw (p.holds, p.next) (sym (sets_append l i xs ys)); next = omega (arith, length-append xs ys, p.next, q.next) }

-- a word stored at once
pub put_word : (out word m : List ℕ) (at : ℕ) → at + length word ≤ length out → m ≡ word → put_mid at (at + length word - at) out m ≡ sets out at word
put_word out word m at h is =
    let k : at + length word - at ≡ length word = omega arith in
    rw (is, k, sets-eq word out at h, drop-drop (length word) at out) (sym (append_assoc (take at out) word (drop (at + length word) out)))

pub wrote_more : {a b c : Part} {xs ys : List ℕ} → Wrote a b xs → Wrote b c ys → Wrote a c (xs ++ ys)
wrote_more p q = record { put = put_more p.put q.put; long = q.long ∙ p.long; same_part = q.same_part ∙ p.same_part }

pub wrote_as : {a b : Part} {xs ys : List ℕ} → Wrote a b xs → xs ≡ ys → Wrote a b ys
wrote_as p e = rw e at p
