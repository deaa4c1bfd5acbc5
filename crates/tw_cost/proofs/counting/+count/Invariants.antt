use Rattle.std.proofs.Common.{◌+◌, ◌*◌, drop}
use Rattle.tw_syntax.specs.Statements.{stmts_tree}
use Rattle.tw_frames.specs.Found.{setting_of}
use Rattle.tw_cost.specs.Counting.{activation_at}
use Rattle.tw_cost.proofs.Counted.{LeftOf}
use Rattle.tw_cost.proofs.counting.+count.Given as goal

abbrev pub decreases-count_stmts : goal.decreases-count_stmts
decreases-count_stmts l = 7 * l.left + 6

abbrev pub decreases-count_stmt : goal.decreases-count_stmt
decreases-count_stmt l = 7 * l.left + 5

abbrev pub decreases-count_callee : goal.decreases-count_callee
decreases-count_callee l = 7 * l.left + 4

abbrev pub decreases-count_fun : goal.decreases-count_fun
decreases-count_fun l = 7 * l.left + 3

abbrev pub decreases-count_if : goal.decreases-count_if
decreases-count_if l = 7 * l.left + 2

abbrev pub decreases-count_branch : goal.decreases-count_branch
decreases-count_branch l = 7 * l.left + 1

abbrev pub decreases-count_block : goal.decreases-count_block
decreases-count_block l = 7 * l.left

abbrev pub invariant-count_stmts-loop-stmt : goal.invariant-count_stmts-loop-stmt
invariant-count_stmts-loop-stmt l =
    LeftOf (setting_of l.body) l.circuit (activation_at l.body l.own) l.left l.under (stmts_tree l.stmts) (stmts_tree (drop l.stmt-index l.stmts)) l.total
