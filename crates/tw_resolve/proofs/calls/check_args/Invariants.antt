use Rattle.std.proofs.Common.{◌≡◌, [], drop, map}
use Rattle.tw_syntax.specs.Names.{name_tree}
use Rattle.tw_syntax.specs.Programs.{param_tree}
use Rattle.tw_resolve.specs.Demands.{first_broken}
use Rattle.tw_resolve.specs.Expressions.{args_rules}
use Rattle.tw_resolve.specs.Tables.{setting_in}
use Rattle.tw_resolve.specs.Variables.{variables_in, texts_in}
use Rattle.tw_resolve.proofs.calls.check_args.Given as goal

abbrev pub invariant-loop-i : goal.invariant-loop-i
invariant-loop-i l =
    first_broken (args_rules (setting_in l.tables) (variables_in l.variables.table.entries) [] (map param_tree l.params) (map name_tree l.args))
    ≡ first_broken (args_rules (setting_in l.tables) (variables_in l.variables.table.entries) (texts_in l.earlier.set.keys) (map param_tree (drop l.i l.params)) (map name_tree (drop l.i l.args)))
