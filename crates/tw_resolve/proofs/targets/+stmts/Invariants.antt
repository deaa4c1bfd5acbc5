use denote.Bor.{Bor}
use Rattle.std.proofs.Common.{ℕ, List, drop}
use Rattle.tw_syntax.specs.declared.written.Written.{Written}
use Rattle.tw_syntax.specs.Statements.{stmts_tree}
use Rattle.tw_resolve.specs.Collects.{Collects}
use Rattle.tw_resolve.specs.Declarations.{stmt_targets}
use Rattle.tw_resolve.proofs.targets.+stmts.Given as goal

abbrev pub invariant-add_stmts-loop-stmt : goal.invariant-add_stmts-loop-stmt
invariant-add_stmts-loop-stmt l =
    (new : List (Bor (List ℕ) × Bor Written)) → Collects l.targets.table.entries new (stmt_targets (stmts_tree (drop l.stmt-index l.stmts)))
    → Collects l.fn.targets.table.entries new (stmt_targets (stmts_tree l.stmts))
