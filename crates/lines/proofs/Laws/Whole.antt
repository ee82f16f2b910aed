-- A whole line at the start of a part. Assumes nothing.
use mathlib.Core.Path.{◌≡◌, refl, ◌∙◌}
use mathlib.Core.List.{List}
use Prim.Native.Nat.{ℕ, ◌+◌, ◌≤◌, ◌<◌}
use native.Mathlib.Omega.{arith}
use lib.ListN.{length}
use lib.Seq.{sets-eq}
use borrow.Author.Tests.{le-leb, lt-leb}
use Rattle.lines.specs.declared.Line.{Line}
use Rattle.lines.specs.declared.pieces.Part.{Part}
use Rattle.lines.specs.Lines.{text, laid, leaves, answers}
use Rattle.lines.specs.Writing.{Put, Wrote}
use Rattle.lines.proofs.Laws.Lengths.{text-le}

-- what a write leaves and answers, and the same where there is room
abbrev pub Written : ℕ → List ℕ → List ℕ → ℕ → List ℕ → Type 0
Written room lent text r m = (m ≡ leaves room lent text) × (r ≡ answers room lent text)

abbrev pub Laid : List ℕ → List ℕ → ℕ → List ℕ → Type 0
Laid lent text r m = (m ≡ laid lent text) × (r ≡ length text)

pub written-laid : {m : List ℕ} {r : ℕ} (room : ℕ) (l xs : List ℕ) → room ≤ length l → Written room l xs r m → Laid l xs r m
written-laid room l xs h w = rw (le-leb room (length l) h) at w

pub laid-written : {m : List ℕ} {r : ℕ} (room : ℕ) (l xs : List ℕ) → room ≤ length l → Laid l xs r m → Written room l xs r m
laid-written room l xs h w = rw (le-leb room (length l) h) w

pub unwritten : (room : ℕ) (l xs : List ℕ) → length l < room → Written room l xs 0 l
unwritten room l xs h = rw (lt-leb room (length l) h) (refl, refl)

pub put_written : {m : List ℕ} {r : ℕ} (l : List ℕ) (line : Line) → 64 ≤ length l → Put l 0 (text line) r m → Written 64 l (text line) r m
put_written l line h p =
    let z : 0 + length (text line) ≡ length (text line) = omega arith in
    let f : 0 + length (text line) ≤ length l = omega (arith, text-le line) in
    laid-written 64 l (text line) h (p.holds ∙ sets-eq (text line) l 0 f ∙ rw z, p.next ∙ z)

-- a line that was written through a part, whose bytes are those that were lent
pub line_written : {m l : List ℕ} {a b part : Part} {self line : Line}
    → 64 ≤ length l → m ≡ part.out.now → part ≡ b → self ≡ line → Wrote a b (text line) → a.out.now ≡ l → a.at ≡ 0 → Written 64 l (text self) part.at m
line_written {m} {l} {b = b} {line = line} h back is kind w lent start =
    rw (kind, is) (put_written l line h (record { holds = rw is at back ∙ rw (lent, start) at w.put.holds; next = rw start at w.put.next }))
