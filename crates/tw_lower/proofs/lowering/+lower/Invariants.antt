use Rattle.std.proofs.Common.{◌+◌, drop}
use Rattle.tw_syntax.specs.Statements.{else_tree, stmt_tree, stmts_tree}
use Rattle.tw_check.proofs.Sizes.{size_of}
use Rattle.tw_frames.specs.Found.{setting_of}
use Rattle.tw_lower.specs.FrameWires.{plain_frame}
use Rattle.tw_lower.proofs.LoweredParts.{AreLowered}
use Rattle.tw_lower.proofs.lowering.+lower.Given as goal

abbrev pub decreases-lower_stmts : goal.decreases-lower_stmts
decreases-lower_stmts l = size_of (stmts_tree l.stmts.now)

abbrev pub decreases-lower_stmt : goal.decreases-lower_stmt
decreases-lower_stmt l = size_of (stmt_tree l.stmt.now)

abbrev pub decreases-lower_if : goal.decreases-lower_if
decreases-lower_if l = 1 + (size_of (stmts_tree l.yes.now) + size_of (else_tree l.no.now))

abbrev pub invariant-lower_stmts-loop-stmt : goal.invariant-lower_stmts-loop-stmt
invariant-lower_stmts-loop-stmt l =
    AreLowered (setting_of l.frame.body) l.frame.layout (plain_frame l.frame) l.frame.own l.initial.number l.number (stmts_tree l.stmts) (stmts_tree (drop l.stmt-index l.stmts)) l.parts.items
