use Rattle.std.proofs.Common.{◌≡◌, ◌++◌, drop}
use Rattle.tw_syntax.specs.Statements.{stmts_tree}
use Rattle.tw_check.specs.Liveness.{names_of}
use Rattle.tw_check.specs.Walks.{texts_of}
use Rattle.tw_check.proofs.mention.+mention.Given as goal

abbrev pub invariant-push_mentioned-loop-stmt : goal.invariant-push_mentioned-loop-stmt
invariant-push_mentioned-loop-stmt l =
    texts_of l.names.items ++ names_of (stmts_tree (drop l.stmt-index l.stmts)) ≡ texts_of l.fn.names.items ++ names_of (stmts_tree l.stmts)
