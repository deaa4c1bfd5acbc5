use Rattle.std.proofs.Common.{subst, sym}
use Rattle.tw_cost.proofs.Capping.{LeftCost, left_first, left_done}
use Rattle.tw_cost.proofs.costs.cost_of.Goals as goal

pub loop-row-init : goal.loop-row-init
loop-row-init c = subst (LeftCost c.args.level c.args.rows.now c.args.rows.now) (sym c.nothing-total.ensures) (left_first c.args.level c.args.rows.now)

pub returns : goal.returns
returns c = left_done c.args.level c.args.rows.now c.args.rows.now c.loop-row.row-index c.loop-row-test.false c.loop-row.invariant
