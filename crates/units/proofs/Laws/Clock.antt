-- Laws of the tick counter, at the roll-over and away from it. Assumes nothing.
use Rattle.std.proofs.Common.{◌≡◌, ℕ, ◌+◌, ◌-◌, ◌%◌, ◌^◌, ◌<◌, ◌≤◌, arith}
use Rattle.units.specs.Clock.{after, distance}

-- whole turns of the counter do not count
pub after_turns : (now n : ℕ) → after now (n % 2 ^ 32) ≡ after now n
unfolding after
after_turns now n = omega arith

pub after_none : (now : ℕ) → now < 2 ^ 32 → after now 0 ≡ now
unfolding after
after_none now small = omega arith

pub after_more : (now n : ℕ) → after (after now n) 1 ≡ after now (n + 1)
unfolding after
after_more now n = omega arith

pub after-lt : (now n : ℕ) → after now n < 2 ^ 32
unfolding after
after-lt now n = omega arith

pub distance-lt : (now deadline : ℕ) → distance now deadline < 2 ^ 32
unfolding distance
distance-lt now deadline = omega arith

-- each undoes the other
pub distance-after : (now n : ℕ) → now < 2 ^ 32 → n < 2 ^ 32 → distance now (after now n) ≡ n
unfolding after distance
distance-after now n h l = omega arith

pub after-distance : (now deadline : ℕ) → now < 2 ^ 32 → deadline < 2 ^ 32 → after now (distance now deadline) ≡ deadline
unfolding after distance
after-distance now deadline h l = omega arith

-- with each tick a deadline ahead comes one nearer
pub distance_next : (now deadline : ℕ) → now < 2 ^ 32 → 1 ≤ distance now deadline → distance (after now 1) deadline ≡ distance now deadline - 1
unfolding after distance
distance_next now deadline h l = omega arith
