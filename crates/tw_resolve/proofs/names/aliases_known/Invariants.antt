use Rattle.std.proofs.Common.{drop, map}
use Rattle.tw_syntax.specs.Programs.{decl_tree}
use Rattle.tw_resolve.specs.Declarations.{declared_as}
use Rattle.tw_resolve.specs.Entries.{aliases_in}
use Rattle.tw_resolve.proofs.InOrder.{KnownSoFar}
use Rattle.tw_resolve.proofs.names.aliases_known.Given as goal

abbrev pub invariant-loop-decl : goal.invariant-loop-decl
invariant-loop-decl l = KnownSoFar (declared_as (aliases_in l.aliases.table.entries)) (map decl_tree l.decls) (map decl_tree (drop l.decl-index l.decls))
