use Rattle.tw_cost.proofs.Capping.{row_cost}
use Rattle.tw_cost.proofs.costs.cost_of_row.Goals as goal

pub returns : goal.returns
returns c =
    row_cost c.args.level c.args.row c.row.inside.gates c.row.inside.controls c.row.view_is c.gate_lines.ensures c.toffolis.ensures c.most_controls.ensures c.most_controls.type_inv c.saturating_mul.ensures c.saturating_mul-2.ensures
