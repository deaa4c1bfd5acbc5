use Rattle.std.proofs.Common.{◌≡◌, drop}
use Rattle.tw_syntax.specs.Statements.{stmts_tree}
use Rattle.tw_syntax.specs.Same.{same_stmt}
use Rattle.tw_syntax.proofs.same_statement.+same_stmt.Given as goal

abbrev pub invariant-same_stmts-loop-i : goal.invariant-same_stmts-loop-i
invariant-same_stmts-loop-i l = same_stmt (stmts_tree (drop l.i l.x)) (stmts_tree (drop l.i l.y)) ≡ same_stmt (stmts_tree l.x) (stmts_tree l.y)
