use Rattle.std.proofs.Common.{◌≡◌, map, take}
use Rattle.std.specs.List.{AllByRecursion}
use Rattle.tw_syntax.specs.Names.{name_tree}
use Rattle.tw_resolve.specs.Resolved.{resolved_setting}
use Rattle.tw_interp.specs.Numbered.{IsVar, numbered_names}
use Rattle.tw_interp.specs.NumberedTrees.{var_tree}
use Rattle.tw_interp.proofs.numbering.Numbering.vars.Given as goal

abbrev pub invariant-loop-name : goal.invariant-loop-name
invariant-loop-name l =
    (map var_tree l.vars.items ≡ map name_tree (take l.name-index l.names))
    × AllByRecursion (IsVar (numbered_names (resolved_setting l.self.program.now) l.self.fun)) l.vars.items
