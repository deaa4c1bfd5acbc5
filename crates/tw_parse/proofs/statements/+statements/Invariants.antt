use Rattle.std.proofs.Common.{◌+◌, ◌*◌, ◌-◌, suc, map}
use Rattle.tw_syntax.specs.Statements.{stmt_tree}
use Rattle.tw_lex.specs.Left.{left_of}
use Rattle.tw_parse.specs.reading.Steps.{all_at}
use Rattle.tw_parse.specs.reading.Statements.{goes_before, stmt_at}
use Rattle.tw_parse.proofs.code.Many.{Reads}
use Rattle.tw_parse.proofs.statements.+statements.Given as goal

abbrev pub decreases-stmt : goal.decreases-stmt
decreases-stmt l = 8 * l.room + 7

abbrev pub decreases-if_stmt : goal.decreases-if_stmt
decreases-if_stmt l = 8 * l.room + 6

abbrev pub decreases-with_stmt : goal.decreases-with_stmt
decreases-with_stmt l = 8 * l.room + 6

abbrev pub decreases-block_stmt : goal.decreases-block_stmt
decreases-block_stmt l = 8 * l.room + 6

abbrev pub decreases-other : goal.decreases-other
decreases-other l = 8 * l.room + 5

abbrev pub decreases-block : goal.decreases-block
decreases-block l = 8 * l.room + 4

abbrev pub decreases-stmts : goal.decreases-stmts
decreases-stmts l = 8 * l.room + 8

abbrev pub invariant-stmts-loop : goal.invariant-stmts-loop
invariant-stmts-loop l =
    Reads (goes_before l.fn.end) (stmt_at (suc l.fn.room)) (map stmt_tree l.stmts.items) (l.count - l.counter) (left_of l.cursor)
    (all_at (goes_before l.fn.end) (stmt_at (suc l.fn.room)) (left_of l.initial.cursor))
