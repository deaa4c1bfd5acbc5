use Rattle.std.proofs.Common.{drop, map}
use Rattle.tw_syntax.specs.Programs.{decl_tree}
use Rattle.tw_check.proofs.Declarations.{CheckedSoFar}
use Rattle.tw_check.proofs.checked.check_decls.Given as goal

abbrev pub invariant-loop-decl : goal.invariant-loop-decl
invariant-loop-decl l = CheckedSoFar (map decl_tree l.decls) (map decl_tree (drop l.decl-index l.decls))
