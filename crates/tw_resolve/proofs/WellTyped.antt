-- What the tables of a well-typed program hold: the types of all functions, and of all targets.
use Rattle.std.proofs.Common.{◌≡◌, flat_map, List, [], sym, subst}
use Rattle.std.specs.List.{AllByRecursion}
use Rattle.tw_syntax.specs.Programs.{ProgramTree}
use Rattle.tw_resolve.specs.declared.tables.Tables.{Tables}
use Rattle.tw_resolve.specs.Declarations.{aliases_of, funs_of, decl_targets, targets_of}
use Rattle.tw_resolve.specs.Demands.{Demand}
use Rattle.tw_resolve.specs.Expressions.{texts_of}
use Rattle.tw_resolve.specs.Programs.{end_variables, variable_names, alias_rules, funs_rules, type_rules}
use Rattle.tw_resolve.specs.Setting.{Setting, IsKnown}
use Rattle.tw_resolve.specs.Tables.{AreTypedTablesOf, program_setting, setting_in}
use Rattle.tw_resolve.proofs.Assigned.{funs_named}
use Rattle.tw_resolve.proofs.Demands.{Holds, EachHolds, none_broken-each}
use Rattle.tw_resolve.proofs.Each.{each_first, each_rest, each_weaker}
use Rattle.tw_resolve.proofs.Known.{IsKnownFun, aliases_known, funs_known, targets_known}
use Rattle.tw_resolve.proofs.Numbered.{aliases_numbered, funs_numbered, each_collected}
use Rattle.tw_resolve.proofs.Resolving.{same_setting}

module _ (program : ProgramTree) (tables : Tables) (are : AreTypedTablesOf program tables) where
  abbrev setting : Setting
  setting = program_setting program tables

  -- the setting of the tables is that of the program
  pub same : setting_in tables ≡ setting
  same = same_setting program tables.types.widths tables are.tables_of

  abbrev of_aliases : List Demand
  of_aliases = flat_map (alias_rules setting) (aliases_of program.decls)

  abbrev of_funs : List Demand
  of_funs = funs_rules setting 0 (funs_of program.decls)

  each : EachHolds (type_rules setting (aliases_of program.decls))
  each = (none_broken-each (type_rules setting (aliases_of program.decls))).1 are.typed.typed

  -- each function has types
  pub all_funs : AllByRecursion (IsKnownFun setting) (funs_of program.decls)
  all_funs = funs_known setting are.complete 0 (funs_of program.decls) (each_rest Holds of_aliases of_funs each) (funs_numbered program)

  -- its variables are its parameters and all targets of its assignments
  pub all_named : AllByRecursion (λ fun. texts_of (end_variables setting fun) ≡ variable_names fun) (funs_of program.decls)
  all_named =
      funs_named setting are.complete (each_weaker (IsKnownFun setting) (λ fun. IsKnown setting fun.result) (λ fun here. here.result) (funs_of program.decls) all_funs)
      0 (funs_of program.decls) (each_rest Holds of_aliases of_funs each) (funs_numbered program) all_funs

  -- and each target
  pub all_targets : AllByRecursion (IsKnown setting) (targets_of program)
  all_targets =
      each_collected (IsKnown setting) (flat_map decl_targets program.decls) [] tt
      (targets_known setting are.complete program.decls
      (aliases_known setting are.complete (aliases_of program.decls) (each_first Holds of_aliases of_funs each) (aliases_numbered program)) all_funs)

  -- also by the tables
  pub targets_in_tables : AllByRecursion (IsKnown (setting_in tables)) (setting_in tables).scope.targets
  targets_in_tables =
      subst (λ (s : Setting). AllByRecursion (IsKnown s) s.scope.targets) (sym same) all_targets
