use denote.Bor.{Bor}
use Rattle.std.proofs.Common.{◌≡◌, ℕ, List, [], drop, map, flat_map, fold}
use Rattle.tw_syntax.specs.declared.written.Written.{Written}
use Rattle.tw_syntax.specs.Programs.{decl_tree}
use Rattle.tw_resolve.specs.Collects.{Collects}
use Rattle.tw_resolve.specs.Declarations.{decl_targets, with_target}
use Rattle.tw_resolve.specs.Entries.{table_targets}
use Rattle.tw_resolve.proofs.targets.collect_targets.Given as goal

abbrev pub invariant-loop-decl : goal.invariant-loop-decl
invariant-loop-decl l =
    (new : List (Bor (List ℕ) × Bor Written)) → Collects l.targets.table.entries new (flat_map decl_targets (map decl_tree (drop l.decl-index l.decls)))
    → table_targets new ≡ fold with_target [] (flat_map decl_targets (map decl_tree l.decls))
