use Rattle.std.proofs.Common.{◌≡◌, drop, map, take}
use Rattle.tw_resolve.specs.Demands.{first_broken}
use Rattle.tw_resolve.specs.Programs.{end_variables, funs_rules}
use Rattle.tw_resolve.specs.Tables.{setting_in}
use Rattle.tw_resolve.specs.Variables.{variables_in}
use Rattle.tw_resolve.proofs.functions.check_funs.Given as goal

abbrev pub invariant-loop-number : goal.invariant-loop-number
invariant-loop-number l = record {
  demands :
      first_broken (funs_rules (setting_in l.tables) 0 (setting_in l.tables).funs)
      ≡ first_broken (funs_rules (setting_in l.tables) l.number (drop l.number (setting_in l.tables).funs));
  after :
      map (λ variables. variables_in variables.table.entries) l.found.items
      ≡ map (end_variables (setting_in l.tables)) (take l.number (setting_in l.tables).funs);
}
