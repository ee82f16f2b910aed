-- The bytes of a record file: "Records of 32 bytes, no header, little-endian".
use Rattle.std.specs.Prelude.{ℕ, ◌+◌, ◌*◌, ◌/◌, Bool, cond, List, [], length, get_or, take, drop, ltb, eqb}
use Rattle.units.specs.Folds.{all}

-- how many whole records there are
abbrev pub record_count : List ℕ → ℕ
record_count file = length file / 32

-- the record at k; no bytes where there is none
unfoldable pub record_at : List ℕ → ℕ → List ℕ
record_at file k = cond (ltb k (record_count file)) (take 32 (drop (k * 32) file)) []

-- a byte of a record, and the numbers of two bytes and of four from there on; 0 past its end
abbrev pub byte : List ℕ → ℕ → ℕ
byte r i = get_or r i 0

unfoldable pub word : List ℕ → ℕ → ℕ
word r i = byte r i + byte r (i + 1) * 256

unfoldable pub long : List ℕ → ℕ → ℕ
long r i = word r i + word r (i + 2) * 65536

-- the n bytes from i on are zero
unfoldable pub zeros : List ℕ → ℕ → ℕ → Bool
zeros r i n = all (λ k. eqb (byte r (i + k)) 0) n
