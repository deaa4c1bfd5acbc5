use Rattle.std.proofs.Common.{drop}
use Rattle.tw_syntax.specs.Statements.{stmts_tree}
use Rattle.tw_lower.specs.Lowering.{IsBuilt}
use Rattle.tw_lower.proofs.Building.{Leaves}
use Rattle.tw_lower.proofs.built.+built.Given as goal

abbrev pub invariant-are_built-loop-stmt : goal.invariant-are_built-loop-stmt
invariant-are_built-loop-stmt l = Leaves (IsBuilt (stmts_tree l.stmts)) (IsBuilt (stmts_tree (drop l.stmt-index l.stmts)))
