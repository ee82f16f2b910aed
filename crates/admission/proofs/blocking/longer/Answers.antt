use Rattle.std.proofs.Common.{◌≡◌, ℕ, List, refl, ap₂, ◌∙◌, max, get_or, arith, rules}
use Rattle.std.specs.Ordering.{nat_cmp, ord_max}
use Rattle.units.specs.declared.Steps.{Steps}
use Rattle.units.specs.Amounts.{steps}
use Rattle.units.proofs.Laws.Elements.{from_fn_at}
use Rattle.units.proofs.Laws.Loops.{told_max}
use Rattle.admission.proofs.blocking.longer.Goals as goal

pub returns : goal.returns
returns c =
    let a = c.args in
    let longer = λ (x y : List Steps) (r : ℕ). max (get_or x r (steps 0)).0 (get_or y r (steps 0)).0 in
    λ r l.
    from_fn_at _ (λ f. (f.0.now ≡ a.longest.now) × (f.1.now ≡ a.limits.now)) (λ r (x : Steps). x.0 ≡ longer a.longest.now a.limits.now r) (steps 0)
    (λ p q i y s h.
    let e : y ≡ ord_max (λ (x y : Steps). nat_cmp x.0 y.0) (get_or p.0.now i (steps 0)) (get_or p.1.now i (steps 0)) = search rules in
    ((search rules, search rules), told_max (λ (s : Steps). s.0) _ _ e ∙ ap₂ (λ (x y : List Steps). longer x y i) s.0 s.1))
    8 0 _ c.from_fn.result (refl, refl) c.from_fn.ensures.items.each r (omega arith) (omega arith)
