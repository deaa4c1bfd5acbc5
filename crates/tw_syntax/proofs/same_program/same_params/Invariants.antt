use Rattle.std.proofs.Common.{◌≡◌, map, drop}
use Rattle.tw_syntax.specs.Programs.{param_tree}
use Rattle.tw_syntax.specs.Same.{same_each, same_param}
use Rattle.tw_syntax.proofs.same_program.same_params.Given as goal

abbrev pub invariant-loop-i : goal.invariant-loop-i
invariant-loop-i l =
    same_each same_param (map param_tree (drop l.i l.x)) (map param_tree (drop l.i l.y))
    ≡ same_each same_param (map param_tree l.x) (map param_tree l.y)
