use Rattle.std.proofs.Common.{arith, ◌≡◌, ◌+◌, ℕ, min, refl}
use Rattle.units.specs.declared.Steps.{Steps}
use Rattle.units.specs.Amounts.{steps, given}
use Rattle.units.specs.Folds.{over, listed}
use Rattle.table.specs.declared.Task.{Task}
use Rattle.table.specs.Table.{limit}
use Rattle.state.specs.declared.Section.{Section}
use Rattle.state.specs.Stack.{section_at}
use Rattle.report.specs.Report.{risen}
use Rattle.state.proofs.Laws.Stacks.{lent_length, lent_at}
use Rattle.reporter.proofs.Laws.{placing, all_placed}
use Rattle.reporter.proofs.sections.held_on.Goals as goal

risen_is : (task : Task) (v : ℕ) (x : Section) {y : Section} {most each sum : Steps} → y ≡ x → most ≡ steps (limit task y.resource) → each ≡ steps (given v)
    → sum ≡ steps (min (y.steps.0 + each.0) most.0) → record { resource = y.resource; steps = sum } ≡ risen task v x
risen_is task v x e f g h = rw (h, g, f, e)

pub loop-i-init : goal.loop-i-init
unfolding listed over
loop-i-init c = refl

pub bounds-next-i : goal.bounds-next-i
bounds-next-i c = omega (arith, c.loop-i-test.true, lent_length c.args.held c.in_use-section-items.ensures)

pub loop-i-preserved : goal.loop-i-preserved
loop-i-preserved c =
    let h = c.args.held in
    let e = c.in_use-section-items.ensures in
    let f = λ (i : ℕ). risen c.args.task c.args.speed (section_at h i) in
    let x = lent_at h e c.loop-i.i _ c.loop-i-test.true in
    placing h e f c.loop-i.i c.loop-i-test.true c.loop-i.invariant (risen_is c.args.task c.args.speed _ x c.limit-most.ensures c.given.ensures c.rise-steps.ensures)

pub returns : goal.returns
returns c = all_placed c.args.held c.in_use-section-items.ensures (λ i. risen c.args.task c.args.speed (section_at c.args.held i)) c.loop-i.i c.loop-i.auto.i-end (omega (arith, c.loop-i-test.false)) c.loop-i.invariant
