use Rattle.std.proofs.Common.{◌≡◌, ℕ, refl, ap, ◌∙◌, arith, rules}
use Rattle.units.specs.Amounts.{ticks}
use Rattle.units.proofs.Laws.Folds.{listed-all}
use Rattle.units.proofs.Laws.Elements.{from_fn_at}
use Rattle.units.specs.declared.Ticks.{Ticks}
use Rattle.table.specs.declared.Table.{Table}
use Rattle.table.specs.Table.{ceiling, ceilings}
use Rattle.table.proofs.Table.ceilings.Goals as goal

pub returns : goal.returns
unfolding ceilings
returns c =
    let t = c.args.self in
    let right = λ (r : ℕ) (x : Ticks). x ≡ ticks (ceiling t r) in
    listed-all (ticks 0) (λ r. ticks (ceiling t r)) c.from_fn.result 8 c.from_fn.ensures.items.long
    (λ k m. from_fn_at _ (λ f. f.0.now ≡ t) right (ticks 0) (λ p q i y s h. (search rules, search rules ∙ ap (λ (t : Table). ticks (ceiling t i)) s)) 8 0 _ c.from_fn.result refl c.from_fn.ensures.items.each k (omega arith) (omega arith))
