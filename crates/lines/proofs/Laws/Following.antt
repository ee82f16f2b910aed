-- Line after line, each written to the part that starts at the end of those before. Assumes nothing.
use mathlib.Core.Path.{◌≡◌, refl, sym}
use mathlib.Core.List.{List, [], ◌++◌, append_assoc, append-nil}
use Prim.Native.Nat.{ℕ, ◌+◌, ◌-◌, ◌≤◌}
use native.Mathlib.Omega.{arith}
use lib.ListN.{length, take, drop, length-append, length-drop, drop_of_length-le}
use lib.Seq.{take_all, take-append_seam, drop-append_seam, drop-drop}
use Rattle.lines.proofs.Laws.Whole.{Laid}

-- l is l₀ with the text xs in the place of its start, and `end` is where it ends; what a loop of writes keeps
abbrev pub Begins : List ℕ → List ℕ → List ℕ → ℕ → Type 0
Begins l₀ xs l end = (l ≡ xs ++ drop (length xs) l₀) × (end ≡ length xs) × (length l ≡ length l₀)

-- the part of a list from a place on, as it is lent, and the whole when it is given back
abbrev pub lent_from : List ℕ → ℕ → List ℕ
lent_from l end = take (length l - end) (drop end l)

abbrev pub back_at : List ℕ → ℕ → List ℕ → List ℕ
back_at l end m = take end l ++ (m ++ drop (length l - end) (drop end l))

lent_is : (l : List ℕ) (end : ℕ) → lent_from l end ≡ drop end l
lent_is l end = take_all (length l - end) (drop end l) (omega (arith, length-drop end l))

begins_length : (l₀ xs : List ℕ) → length xs ≤ length l₀ → length (xs ++ drop (length xs) l₀) ≡ length l₀
begins_length l₀ xs h = omega (arith, length-append xs (drop (length xs) l₀), length-drop (length xs) l₀)

pub lent_length : (l : List ℕ) (end : ℕ) → length (lent_from l end) ≡ length l - end
lent_length l end = rw (lent_is l end) (length-drop end l)

pub begins_none : (l : List ℕ) → Begins l [] l 0
begins_none l = (refl, refl, refl)

pub begins_first : {m : List ℕ} {r : ℕ} (l ys : List ℕ) → length ys ≤ length l → Laid l ys r m → Begins l ys m r
begins_first l ys h w = (w.0, w.1, rw w.0 (begins_length l ys h))

seam : (l₀ xs ys : List ℕ)
    → take (length xs) (xs ++ drop (length xs) l₀) ++ (ys ++ drop (length ys) (drop (length xs) (xs ++ drop (length xs) l₀))) ≡ (xs ++ ys) ++ drop (length (xs ++ ys)) l₀
seam l₀ xs ys =
    let rest = drop (length xs) l₀ in
    rw (take-append_seam xs rest, drop-append_seam xs rest, drop-drop (length ys) (length xs) l₀, length-append xs ys) (sym (append_assoc xs ys (drop (length xs + length ys) l₀)))

-- one text more, of a line or of several
pub begins_more : {m : List ℕ} {r : ℕ} (l₀ xs l : List ℕ) (end : ℕ) (ys : List ℕ)
    → Begins l₀ xs l end → end + length ys ≤ length l → Laid (lent_from l end) ys r m → Begins l₀ (xs ++ ys) (back_at l end m) (end + r)
begins_more {m} {r} l₀ xs l end ys f h w =
    let all : length (drop end l) ≤ length l - end = omega (arith, length-drop end l) in
    let rest : drop (length l - end) (drop end l) ≡ [] = drop_of_length-le (drop end l) all in
    let whole : back_at l end m ≡ (xs ++ ys) ++ drop (length (xs ++ ys)) l₀ = rw (rest, append-nil m, w.0, lent_is l end, f.1, f.0) (seam l₀ xs ys) in
    let size : length (xs ++ ys) ≡ length xs + length ys = length-append xs ys in
    (whole, omega (arith, f.1, w.1), rw whole (begins_length l₀ (xs ++ ys) (omega (arith, f.1, f.2))))
