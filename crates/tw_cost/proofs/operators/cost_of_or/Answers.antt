use Rattle.std.proofs.Common.{◌∙◌, ◌+◌, ap, refl, [], ◌∷◌}
use Rattle.tw_code.specs.Rows.{both_loads, row}
use Rattle.tw_cost.specs.Costs.{cost_of}
use Rattle.tw_cost.proofs.Capping.{join}
use Rattle.tw_cost.proofs.operators.cost_of_or.Goals as goal

pub returns : goal.returns
returns c = λ x y.
    let under = c.args.under in
    join c.args.level (both_loads x y) (row 4 0 ∷ row 1 (2 + under) ∷ row 1 under ∷ []) refl
    (c.cost_of.ensures ∙ (λ i. cost_of c.args.level (c.new.ensures i ∷ c.new-2.ensures i ∷ c.new-3.ensures i ∷ []))
    ∙ ap (λ k. cost_of c.args.level (row 4 0 ∷ row 1 (2 + k) ∷ row 1 k ∷ [])) c.from-under.ensures) refl
