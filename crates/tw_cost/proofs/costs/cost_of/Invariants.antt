use Rattle.std.proofs.Common.{drop}
use Rattle.tw_cost.proofs.Capping.{LeftCost}
use Rattle.tw_cost.proofs.costs.cost_of.Given as goal

abbrev pub invariant-loop-row : goal.invariant-loop-row
invariant-loop-row l = LeftCost l.level l.rows (drop l.row-index l.rows) l.total
