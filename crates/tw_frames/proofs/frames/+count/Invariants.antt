use Rattle.std.proofs.Common.{drop}
use Rattle.tw_syntax.specs.Statements.{stmts_tree}
use Rattle.tw_frames.specs.Frames.{if_count}
use Rattle.tw_frames.proofs.Counting.{LeftSum}
use Rattle.tw_frames.proofs.frames.+count.Given as goal

abbrev pub invariant-count_ifs-loop-stmt : goal.invariant-count_ifs-loop-stmt
invariant-count_ifs-loop-stmt l = LeftSum (if_count (stmts_tree l.stmts)) (if_count (stmts_tree (drop l.stmt-index l.stmts))) l.total
