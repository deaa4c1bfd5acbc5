use Rattle.std.proofs.Common.{drop, map}
use Rattle.tw_syntax.specs.Programs.{param_tree}
use Rattle.tw_resolve.specs.Tables.{setting_in}
use Rattle.tw_resolve.specs.Variables.{texts_in, variables_in}
use Rattle.tw_resolve.proofs.Parameters.{AreLeft}
use Rattle.tw_resolve.proofs.functions.check_params.Given as goal

abbrev pub invariant-loop-i : goal.invariant-loop-i
invariant-loop-i l =
    AreLeft (setting_in l.tables) (map param_tree l.params) (map param_tree (drop l.i l.params)) (texts_in l.earlier.set.keys) (variables_in l.variables.table.entries)
