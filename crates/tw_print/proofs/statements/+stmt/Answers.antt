use Rattle.tw_syntax.specs.Statements.{stmts_tree}
use Rattle.tw_syntax.proofs.Shapes.{block_is, with_is, if_is, else_is}
use Rattle.tw_print.specs.Programs.{stmt_print}
use Rattle.tw_print.proofs.Going.{goes_then}
use Rattle.tw_print.proofs.Items.{next_item}
use Rattle.tw_print.proofs.statements.+stmt.Goals as goal

pub print_stmts-loop-stmt-preserved : goal.print_stmts-loop-stmt-preserved
print_stmts-loop-stmt-preserved g t c = λ s r rest. c.loop-stmt.invariant s r (next_item (λ stmts. stmt_print c.args.depth (stmts_tree stmts)) c.args.stmts.now c.loop-stmt.stmt-index _ c.loop-stmt-test.true (goes_then c.print_stmt-progress.ensures rest))

pub print_else-returns-in-Some : goal.print_else-returns-in-Some
print_else-returns-in-Some g t c = rw (else_is _ c.in-Some.other c.in-Some.is, ← c.deeper.ensures) (goes_then c.print_line-progress.ensures c.print_stmts.ensures)

pub print_stmt-returns-in-Let : goal.print_stmt-returns-in-Let
print_stmt-returns-in-Let g t c = rw (c.in-Let.is) (goes_then c.print_indent-progress.ensures c.print_let.ensures)

pub print_stmt-returns-in-Swap : goal.print_stmt-returns-in-Swap
print_stmt-returns-in-Swap g t c = rw (c.in-Swap.is) (goes_then c.print_indent-progress-in-Swap.ensures c.print_swap.ensures)

pub print_stmt-returns-in-MemSwap : goal.print_stmt-returns-in-MemSwap
print_stmt-returns-in-MemSwap g t c = rw (c.in-MemSwap.is) (goes_then c.print_indent-progress-in-MemSwap.ensures c.print_mem_swap.ensures)

pub print_stmt-returns-in-If : goal.print_stmt-returns-in-If
print_stmt-returns-in-If g t c =
    rw (if_is c.args.stmt.now c.in-If.cond c.in-If.yes c.in-If.no c.in-If.is, ← c.deeper.ensures)
    (goes_then (goes_then c.print_indent-progress-in-If.ensures c.print_condition-progress.ensures) (goes_then c.print_stmts-progress.ensures (goes_then c.print_else-progress.ensures c.print_line.ensures)))

pub print_stmt-returns-in-With : goal.print_stmt-returns-in-With
print_stmt-returns-in-With g t c =
    rw (with_is c.args.stmt.now c.in-With.setup c.in-With.work c.in-With.is, ← c.deeper-inner.ensures)
    (goes_then c.print_line-progress.ensures (goes_then c.print_stmts-progress-in-With.ensures (goes_then c.print_line-progress-in-With.ensures (goes_then c.print_stmts-progress-in-With-2.ensures c.print_line-in-With.ensures))))

pub print_stmt-returns-in-Block : goal.print_stmt-returns-in-Block
print_stmt-returns-in-Block g t c =
    rw (block_is c.args.stmt.now c.in-Block.body c.in-Block.is, ← c.deeper-in-Block.ensures)
    (goes_then c.print_line-progress-in-Block.ensures (goes_then c.print_stmts-progress-in-Block.ensures c.print_line-in-Block.ensures))
