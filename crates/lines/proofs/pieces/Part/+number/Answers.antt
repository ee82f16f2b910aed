use mathlib.Core.Path.{sym}
use native.Mathlib.Omega.{arith}
use Rattle.lines.proofs.Laws.Pieces.{wrote_more, wrote_as}
use Rattle.lines.proofs.Laws.Lengths.{decimal_digit, decimal_more, decimal_front}
use Rattle.lines.proofs.pieces.Part.+number.Goals as goal
use Rattle.lines.proofs.pieces.Part.+number.Goals.{then-n-ge10, else-n-ge10}

pub byte-requires : goal.byte-requires
byte-requires t c =
    elim c.if-n-ge10.branch [
      | then-n-ge10 w ↦ rw w.self-is (omega (arith, decimal_front c.args.n w.if-n-ge10.true (omega arith)))
      | else-n-ge10 w ↦ rw w.self-is (omega arith)
    ]

pub returns-clause-wrote : goal.returns-clause-wrote
returns-clause-wrote t c =
    elim c.if-n-ge10.branch [
      | then-n-ge10 w ↦ wrote_as (wrote_more w.number.ensures.wrote (rw w.self-is at c.byte.ensures)) (sym (decimal_more c.args.n w.if-n-ge10.true (omega arith)))
      | else-n-ge10 w ↦ wrote_as (rw w.self-is at c.byte.ensures) (sym (decimal_digit c.args.n (omega arith)))
    ]

pub returns-clause-upper_bound : goal.returns-clause-upper_bound
returns-clause-upper_bound t c =
    elim c.if-n-ge10.branch [
      | then-n-ge10 w ↦ omega (arith, decimal_front c.args.n w.if-n-ge10.true (omega arith), rw w.self-is at c.byte.ensures.put.next)
      | else-n-ge10 w ↦ omega (arith, rw w.self-is at c.byte.ensures.put.next)
    ]
