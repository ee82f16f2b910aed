use mathlib.Core.Path.{refl, ap, ◌∙◌}
use lib.ListN.{length}
use lib.Seq.{length-sets}
use Rattle.lines.proofs.Laws.Pieces.{put_word}
use Rattle.lines.proofs.pieces.Part.text.Goals as goal

pub returns : goal.returns
returns c =
    let p = c.args.self.now in
    let e = put_word p.out.now c.args.word.now _ p.at c.requires c.copy_from_slice.ensures.after in
    record { put = record { holds = e; next = refl }; long = ap length e ∙ simp length-sets; same_part = refl }
