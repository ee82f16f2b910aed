-- The tick counter.
use Rattle.std.specs.Prelude.{ℕ, ◌+◌, ◌-◌, ◌%◌, ◌^◌}
use Rattle.units.specs.declared.Tick.{Tick}

abbrev pub tick : ℕ → Tick
tick n = record { 0 = n }

-- "The tick counter has 32 bits and rolls over."
unfoldable pub after : ℕ → ℕ → ℕ
after now n = (now + n) % 2 ^ 32

-- "How far a deadline is from now is their difference modulo 4,294,967,296."
unfoldable pub distance : ℕ → ℕ → ℕ
distance now deadline = (deadline + (2 ^ 32 - now)) % 2 ^ 32
