use Rattle.std.proofs.Common.{◌≡◌, map, take}
use Rattle.std.specs.List.{AllByRecursion}
use Rattle.tw_syntax.specs.Programs.{param_tree}
use Rattle.tw_resolve.specs.Resolved.{resolved_setting}
use Rattle.tw_interp.specs.Numbered.{IsVar, numbered_names}
use Rattle.tw_interp.specs.NumberedTrees.{var_tree}
use Rattle.tw_interp.proofs.runner.param_vars.Given as goal

abbrev pub invariant-loop-param : goal.invariant-loop-param
invariant-loop-param l =
    (map var_tree l.vars.items ≡ map (λ param. param.name) (map param_tree (take l.param-index l.params)))
    × AllByRecursion (IsVar (numbered_names (resolved_setting l.numbering.program.now) l.numbering.fun)) l.vars.items
