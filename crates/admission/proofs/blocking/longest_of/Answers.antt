use Rattle.std.proofs.Common.{rules, ℕ, refl, ap, ◌∙◌, get_or, leb, arith}
use Rattle.units.specs.declared.Steps.{Steps}
use Rattle.units.specs.Amounts.{ticks, steps}
use Rattle.units.specs.Folds.{largest, over}
use Rattle.units.proofs.Laws.Tests.{told_le}
use Rattle.units.proofs.Laws.Loops.{told_max, largest_taken, largest_passed}
use Rattle.admission.proofs.blocking.longest_of.Goals as goal
use Rattle.admission.proofs.blocking.longest_of.Goals.{then-counts, else-counts}

pub loop-r-init : goal.loop-r-init
unfolding largest over
loop-r-init c = (omega arith, refl)

pub loop-r-preserved : goal.loop-r-preserved
loop-r-preserved c =
    let l = c.loop-r in
    let a = c.args in
    let level = (get_or a.ceilings.now l.r (ticks 0)).0 in
    let within = λ (k : ℕ). leb (get_or a.ceilings.now k (ticks 0)).0 a.deadline.0 in
    let section = λ (k : ℕ). (get_or a.sections.now k (steps 0)).0 in
    let number = λ (s : Steps). s.0 in (
      omega arith,
      elim c.if-counts.branch [
        | then-counts w ↦ largest_taken within section l.r (told_le level a.deadline.0 (search rules) w.if-counts.true)
            (ap number w.longest-is ∙ told_max number l.longest (get_or a.sections.now l.r (steps 0)) w.max-longest.ensures) l.invariant.1
        | else-counts w ↦ largest_passed within section l.r (told_le level a.deadline.0 (search rules) w.if-counts.false) (ap number w.longest-is) l.invariant.1
      ],
    )
