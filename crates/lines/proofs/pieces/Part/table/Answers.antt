use Rattle.lines.specs.Lines.{field, text}
use Rattle.lines.proofs.Laws.Pieces.{wrote_more}
use Rattle.lines.proofs.pieces.Part.table.Goals as goal

pub returns : goal.returns
unfolding field text
returns c = search wrote_more
