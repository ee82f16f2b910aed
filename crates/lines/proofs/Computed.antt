-- Lines, computed. Assumes nothing.
use Rattle.std.specs.Prelude.{Some, None}
use Prim.Native.Nat.{ℕ}
use mathlib.Core.Path.{◌≡◌, refl}
use mathlib.Core.List.{List, [], ◌∷◌, ◌++◌}
use Rattle.units.specs.Clock.{tick}
use Rattle.state.specs.declared.Mode.TheVariants.{Independent, Synchronization}
use Rattle.lines.specs.declared.Line.{Line}
use Rattle.lines.specs.declared.Line.TheVariants.{Table, Release, Run, Refused}
use Rattle.lines.specs.Lines.{ascii, digits, decimal, field, runner, mode, text}

abbrev texts : List Line → List ℕ
texts [] = []
texts (line ∷ rest) = text line ++ texts rest

-- numbers at the edges of their lengths
pub numbers : texts (Table 0 ∷ Table 9 ∷ Table 10 ∷ Table 99 ∷ Table 100 ∷ Table 255 ∷ []) ≡ ascii "table 0\ntable 9\ntable 10\ntable 99\ntable 100\ntable 255\n"
unfolding digits decimal field text
numbers = refl

-- the longest line of each kind that has a tick, and the idle one
pub longest :
    texts (
    Release (tick 4294967295) 255 12
    ∷ Run (tick 4294967295) (Some 15) Synchronization 64 2
    ∷ Run (tick 1000000000) None Independent 0 0
    ∷ Refused (tick 4294967295) 16
    ∷ []
    )
    ≡ ascii "4294967295 release 255 12\n4294967295 run 15 s 64 2\n1000000000 run - i 0 0\n4294967295 refused 16\n"
unfolding digits decimal field runner mode text
longest = refl
