use Rattle.std.proofs.Common.{drop, map}
use Rattle.tw_syntax.specs.Programs.{decl_tree}
use Rattle.tw_resolve.specs.Entries.{funs_in}
use Rattle.tw_resolve.proofs.InOrder.{DeclaringFuns}
use Rattle.tw_resolve.proofs.names.declare_funs.Given as goal

abbrev pub invariant-loop-decl : goal.invariant-loop-decl
invariant-loop-decl l = DeclaringFuns (map decl_tree l.decls) (funs_in l.funs.table.entries) (map decl_tree (drop l.decl-index l.decls))
