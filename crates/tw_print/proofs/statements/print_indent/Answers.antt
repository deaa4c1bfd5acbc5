use Rattle.tw_print.proofs.Going.{goes_then}
use Rattle.tw_print.proofs.Items.{next_indent, no_indent}
use Rattle.tw_print.proofs.statements.print_indent.Goals as goal

pub loop-preserved : goal.loop-preserved
loop-preserved g c = λ s r rest. c.loop.invariant s r (next_indent c.args.depth c.loop.counter c.loop-test.true (goes_then c.text-progress.ensures rest))

pub returns : goal.returns
returns g c = c.loop.invariant c.loop.sink c.loop.progress (no_indent c.args.depth c.loop.counter c.loop-test.false)
