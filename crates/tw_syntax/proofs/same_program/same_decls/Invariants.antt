use Rattle.std.proofs.Common.{◌≡◌, map, drop}
use Rattle.tw_syntax.specs.Programs.{decl_tree}
use Rattle.tw_syntax.specs.Same.{same_each, same_decl}
use Rattle.tw_syntax.proofs.same_program.same_decls.Given as goal

abbrev pub invariant-loop-i : goal.invariant-loop-i
invariant-loop-i l =
    same_each same_decl (map decl_tree (drop l.i l.x)) (map decl_tree (drop l.i l.y))
    ≡ same_each same_decl (map decl_tree l.x) (map decl_tree l.y)
