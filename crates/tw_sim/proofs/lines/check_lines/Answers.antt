use Rattle.std.proofs.Common.{arith}
use Rattle.tw_sim.proofs.Reading.{read_more, some_bytes, read_wrong, read_many}
use Rattle.tw_sim.proofs.lines.check_lines.Goals as goal

pub returns-in-None-clause-refused : goal.returns-in-None-clause-refused
returns-in-None-clause-refused c =
    read_wrong c.loop-line.invariant (omega arith) (some_bytes c.loop-line.rest.now _ c.is_empty.ensures c.if-is_empty.false) c.in-None.ensures.none

pub loop-line-preserved : goal.loop-line-preserved
loop-line-preserved c = read_more c.in-Some.behind.now c.loop-line.invariant c.in-Some.ensures.some

pub returns-else-is_empty-2-clause-refused : goal.returns-else-is_empty-2-clause-refused
returns-else-is_empty-2-clause-refused c =
    rw c.too_many.ensures (read_many c.loop-line.invariant (omega arith) (some_bytes c.loop-line.rest.now _ c.is_empty-2.ensures c.if-is_empty-2.false))
