use Rattle.std.proofs.Common.{◌+◌, drop}
use Rattle.tw_syntax.specs.Statements.{stmt_tree, stmts_tree, else_tree}
use Rattle.tw_check.specs.Walks.{now_of}
use Rattle.tw_check.proofs.Sizes.{size_of}
use Rattle.tw_check.proofs.Walking.{IsLeft}
use Rattle.tw_check.proofs.statement.+check.Given as goal

abbrev pub decreases-check_stmts : goal.decreases-check_stmts
decreases-check_stmts l = size_of (stmts_tree l.stmts.now)

abbrev pub decreases-check_stmt : goal.decreases-check_stmt
decreases-check_stmt l = size_of (stmt_tree l.stmt.now)

abbrev pub decreases-check_if : goal.decreases-check_if
decreases-check_if l = 1 + (size_of (stmts_tree l.yes.now) + size_of (else_tree l.no.now))

abbrev pub decreases-check_with : goal.decreases-check_with
decreases-check_with l = 1 + (size_of (stmts_tree l.setup.now) + size_of (stmts_tree l.work.now))

abbrev pub invariant-check_stmts-loop-stmt : goal.invariant-check_stmts-loop-stmt
invariant-check_stmts-loop-stmt l = IsLeft (stmts_tree l.stmts) (now_of l.fn.walk) (stmts_tree (drop l.stmt-index l.stmts)) (now_of l.walk)
