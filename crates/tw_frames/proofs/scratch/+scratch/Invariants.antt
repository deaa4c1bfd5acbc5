use Rattle.std.proofs.Common.{drop}
use Rattle.tw_syntax.specs.Statements.{stmts_tree}
use Rattle.tw_frames.specs.Found.{setting_of, types_of}
use Rattle.tw_frames.specs.Scratch.{stmt_scratch}
use Rattle.tw_frames.proofs.Counting.{LeftMax}
use Rattle.tw_frames.proofs.scratch.+scratch.Given as goal

abbrev pub invariant-scratch_of_stmts-loop-stmt : goal.invariant-scratch_of_stmts-loop-stmt
invariant-scratch_of_stmts-loop-stmt l =
    LeftMax (stmt_scratch (setting_of l.body) (types_of l.body) (stmts_tree l.stmts)) (stmt_scratch (setting_of l.body) (types_of l.body) (stmts_tree (drop l.stmt-index l.stmts))) l.most
