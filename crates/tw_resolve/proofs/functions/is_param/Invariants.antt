use Rattle.std.proofs.Common.{◌≡◌, drop, map}
use Rattle.tw_syntax.specs.Programs.{param_tree}
use Rattle.tw_resolve.specs.Declarations.{is_one_of}
use Rattle.tw_resolve.proofs.functions.is_param.Given as goal

abbrev pub invariant-loop-i : goal.invariant-loop-i
invariant-loop-i l =
    is_one_of l.name.text.now (map (λ param. param.name.text) (map param_tree l.params))
    ≡ is_one_of l.name.text.now (map (λ param. param.name.text) (map param_tree (drop l.i l.params)))
