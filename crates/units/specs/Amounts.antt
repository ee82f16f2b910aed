-- Ticks and steps.
use Rattle.std.specs.Prelude.{ℕ, ◌+◌, ◌-◌, ◌/◌}
use Rattle.units.specs.declared.Ticks.{Ticks}
use Rattle.units.specs.declared.Steps.{Steps}

-- "Time is counted in ticks and work in steps."
abbrev pub ticks : ℕ → Ticks
ticks n = record { 0 = n }

abbrev pub steps : ℕ → Steps
steps n = record { 0 = n }

-- "A tick at speed s gives s steps"
unfoldable pub given : ℕ → ℕ
given s = s

-- "Up(a, b) is a divided by b, rounded up to a whole number; Up(0, b) = 0." Where b is 0 it is 0.
unfoldable pub up : ℕ → ℕ → ℕ
up a b = (a + (b - 1)) / b
