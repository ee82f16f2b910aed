-- The lines of the listing, in ASCII.
use Rattle.std.specs.Prelude.{ℕ, zero, suc, ◌+◌, ◌/◌, ◌%◌, Some, None}
use Prim.Native.Char.{code}
use Prim.Native.String.{String, [] as empty, ◌∷◌ as ◌then◌}
use mathlib.Core.{Bool.cond, List.List, List.[], List.◌∷◌, List.◌++◌}
use lib.{Dec.ltb, Dec.leb, ListN.length, ListN.drop}
use Rattle.state.specs.State.{Runner}
use Rattle.state.specs.declared.Mode.{Mode}
use Rattle.state.specs.declared.Mode.TheVariants.{Independent, Synchronization}
use Rattle.lines.specs.declared.Line.{Line}
use Rattle.lines.specs.declared.Line.TheVariants.{Table, Release, Run, Refused}

-- the bytes of a text
abbrev pub ascii : String → List ℕ
ascii empty = []
ascii (c then s) = code c ∷ ascii s

-- "numbers decimal": the digits of n, and of a longer number its last `most`
unfoldable pub digits : ℕ → ℕ → List ℕ
digits zero n = []
digits (suc most) n = cond (ltb n 10) [] (digits most (n / 10)) ++ ((code "0" + n % 10) ∷ [])

-- no number of a line is longer than ten digits
unfoldable pub decimal : ℕ → List ℕ
decimal n = digits 10 n

-- "Fields stand one space apart"
unfoldable pub field : List ℕ → List ℕ
field text = ascii " " ++ text

-- "LF after each line"
abbrev pub line_end : List ℕ
line_end = ascii "\n"

-- "position or "-""
unfoldable pub runner : Runner → List ℕ
runner (Some p) = decimal p
runner None = ascii "-"

-- "mode i or s"
unfoldable pub mode : Mode → List ℕ
mode Independent = ascii "i"
mode Synchronization = ascii "s"

-- "prints "table" and the verdict number"
-- "Release line: tick, "release", position, number."
-- "Tick line: tick, "run", position or "-", mode i or s, speed, ending"
-- "A refused tick prints tick, "refused", number"
unfoldable pub text : Line → List ℕ
text (Table n) = ascii "table" ++ (field (decimal n) ++ line_end)
text (Release now p n) = decimal now.0 ++ (field (ascii "release") ++ (field (decimal p) ++ (field (decimal n) ++ line_end)))
text (Run now who m speed ending) =
    decimal now.0 ++ (field (ascii "run") ++ (field (runner who) ++ (field (mode m) ++ (field (decimal speed) ++ (field (decimal ending) ++ line_end)))))
text (Refused now n) = decimal now.0 ++ (field (ascii "refused") ++ (field (decimal n) ++ line_end))

-- what a lent part of the output holds after a text was written at its start
abbrev pub laid : List ℕ → List ℕ → List ℕ
laid lent text = text ++ drop (length text) lent

-- the same, and how long the text is; where less than its room is lent, nothing is written
abbrev pub leaves : ℕ → List ℕ → List ℕ → List ℕ
leaves room lent text = cond (leb room (length lent)) (laid lent text) lent

abbrev pub answers : ℕ → List ℕ → List ℕ → ℕ
answers room lent text = cond (leb room (length lent)) (length text) 0
