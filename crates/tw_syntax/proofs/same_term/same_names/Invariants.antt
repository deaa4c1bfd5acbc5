use Rattle.std.proofs.Common.{◌≡◌, map, drop}
use Rattle.tw_syntax.specs.Names.{name_tree}
use Rattle.tw_syntax.specs.Same.{same_each, same_name}
use Rattle.tw_syntax.proofs.same_term.same_names.Given as goal

abbrev pub invariant-loop-i : goal.invariant-loop-i
invariant-loop-i l =
    same_each same_name (map name_tree (drop l.i l.x)) (map name_tree (drop l.i l.y))
    ≡ same_each same_name (map name_tree l.x) (map name_tree l.y)
