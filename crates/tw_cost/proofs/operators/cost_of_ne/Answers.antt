use Rattle.std.proofs.Common.{◌∙◌, ap, sym, refl, [], ◌∷◌}
use Rattle.tw_code.specs.Rows.{both_loads, eq_rows, row}
use Rattle.tw_cost.specs.Costs.{capped_cost, cost_of, in_turn}
use Rattle.tw_cost.proofs.Capping.{join, turn_assoc}
use Rattle.tw_cost.proofs.operators.cost_of_ne.Goals as goal

pub returns : goal.returns
returns c = λ n is x y.
    let level = c.args.level in
    let loads = cost_of level (both_loads x y) in
    let last = c.cost_of.ensures ∙ (λ i. cost_of level (c.new.ensures i ∷ [])) ∙ ap (λ k. cost_of level (row 1 k ∷ [])) c.from.ensures in
    ap (λ z. capped_cost (in_turn loads z)) c.then.ensures
    ∙ sym (turn_assoc loads c.cost_of_eq.result c.cost_of.result)
    ∙ join level (eq_rows n x y c.args.under) (row 1 c.args.under ∷ []) (c.cost_of_eq.ensures n is x y) last refl
