use Rattle.std.proofs.Common.{ℕ, sym, ◌∙◌, ◌&&◌, leb}
use Rattle.units.proofs.Laws.Tests.{told_within, and_pass, and_stop}
use Rattle.admission.specs.Admission.{setting_in_range}
use Rattle.admission.proofs.setting_in_range.Goals as goal

pub returns-then-contains : goal.returns-then-contains
unfolding setting_in_range
returns-then-contains c =
    let t = c.args.t.now in
    let n = c.new.ensures in
    let m = c.new-then-contains.ensures in
    and_pass _ (leb 1 t.full && leb t.full 64) (leb 1 t.round) (leb t.round 1000000)
    (sym (told_within (λ (n : ℕ). n) 1 64 t.full c.contains.ensures.value n.start n.end n.exhausted) ∙ c.if-contains.true)
    (told_within (λ (n : ℕ). n) 1 1000000 t.round c.contains-then-contains.ensures.value m.start m.end m.exhausted)

pub returns-else-contains : goal.returns-else-contains
unfolding setting_in_range
returns-else-contains c =
    let t = c.args.t.now in
    let n = c.new.ensures in
    and_stop _ (leb 1 t.full && leb t.full 64) (leb 1 t.round) (leb t.round 1000000)
    (sym (told_within (λ (n : ℕ). n) 1 64 t.full c.contains.ensures.value n.start n.end n.exhausted) ∙ c.if-contains.false) c.if-contains.false
