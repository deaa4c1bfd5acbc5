use Rattle.std.proofs.Common.{drop, map}
use Rattle.tw_syntax.specs.Programs.{decl_tree}
use Rattle.tw_resolve.specs.Entries.{aliases_in}
use Rattle.tw_resolve.proofs.InOrder.{DeclaringAliases}
use Rattle.tw_resolve.proofs.names.declare_aliases.Given as goal

abbrev pub invariant-loop-decl : goal.invariant-loop-decl
invariant-loop-decl l = DeclaringAliases (map decl_tree l.decls) (aliases_in l.aliases.table.entries) (map decl_tree (drop l.decl-index l.decls))
