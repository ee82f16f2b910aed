-- What a piece of a line promises, for the proofs only.
use Rattle.std.specs.Prelude.{ℕ, ◌+◌, ◌≡◌, List}
use lib.{ListN.length, Seq.sets}
use Rattle.lines.specs.declared.pieces.Part.{Part}

-- m is l with xs stored from `at` on, and r is where they end
pub record Put (l : List ℕ) (at : ℕ) (xs : List ℕ) (r : ℕ) (m : List ℕ) : Type 0 where
  pub holds : m ≡ sets l at xs
  pub next : r ≡ at + length xs

-- the same of a part, which still lends the same bytes
pub record Wrote (old new : Part) (xs : List ℕ) : Type 0 where
  pub put : Put old.out.now old.at xs new.at new.out.now
  pub long : length new.out.now ≡ length old.out.now
  pub same_part : new.out.ghost_name ≡ old.out.ghost_name
