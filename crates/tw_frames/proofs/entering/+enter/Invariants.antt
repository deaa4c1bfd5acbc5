use Rattle.std.proofs.Common.{◌+◌, ◌*◌, drop}
use Rattle.tw_syntax.specs.Statements.{stmts_tree}
use Rattle.tw_resolve.specs.Resolved.{resolved_setting}
use Rattle.tw_frames.proofs.Entered.{LeftOf}
use Rattle.tw_frames.proofs.entering.+enter.Given as goal

abbrev pub decreases-enter_stmts : goal.decreases-enter_stmts
decreases-enter_stmts l = 6 * l.left + 5

abbrev pub decreases-enter_stmt : goal.decreases-enter_stmt
decreases-enter_stmt l = 6 * l.left + 4

abbrev pub decreases-enter_callee : goal.decreases-enter_callee
decreases-enter_callee l = 6 * l.left + 3

abbrev pub decreases-enter_fun : goal.decreases-enter_fun
decreases-enter_fun l = 6 * l.left + 2

abbrev pub decreases-enter_else : goal.decreases-enter_else
decreases-enter_else l = 6 * l.left + 1

abbrev pub decreases-enter_block : goal.decreases-enter_block
decreases-enter_block l = 6 * l.left

abbrev pub invariant-enter_stmts-loop-stmt : goal.invariant-enter_stmts-loop-stmt
invariant-enter_stmts-loop-stmt l = LeftOf (resolved_setting l.program) l.left l.own (stmts_tree l.stmts) (stmts_tree (drop l.stmt-index l.stmts)) l.most
