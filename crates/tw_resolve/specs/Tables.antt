-- The setting that the tables of the code are.
use Rattle.tw_resolve.specs.declared.tables.Tables.{Tables}
use Rattle.tw_resolve.specs.declared.variables.Variables.{Variables as VariablesOfCode}
use Rattle.std.specs.Prelude.{◌≡◌, List, map, Some}
use Rattle.tw_syntax.specs.Programs.{ProgramTree}
use Rattle.tw_syntax.specs.Types.{type_print}
use Rattle.tw_types.specs.Types.{Widths, Target}
use Rattle.tw_resolve.specs.Declarations.{declared_as, aliases_of, funs_of, targets_of}
use Rattle.tw_resolve.specs.Denotes.{scope_of, AreComplete}
use Rattle.tw_resolve.specs.Entries.{aliases_in, table_targets, types_in, funs_in}
use Rattle.tw_resolve.specs.Programs.{end_variables, setting_of, IsTyped}
use Rattle.tw_resolve.specs.Setting.{Setting, type_of}
use Rattle.tw_resolve.specs.Variables.{variables_in}

-- the setting that the tables are
abbrev pub setting_in : Tables → Setting
setting_in tables = record {
  widths = tables.types.widths;
  scope = record { declared = declared_as (aliases_in tables.aliases.table.entries); targets = table_targets tables.targets.table.entries };
  types = types_in tables.types.table.entries;
  funs = funs_in tables.funs.table.entries;
}

-- the tables are those of a program: its aliases, the targets of its pointers and its functions, at these widths
pub record AreTablesOf (program : ProgramTree) (widths : Widths) (tables : Tables) : Type 0 where
  pub aliases : aliases_in tables.aliases.table.entries ≡ aliases_of program.decls
  pub targets : table_targets tables.targets.table.entries ≡ targets_of program
  pub funs : funs_in tables.funs.table.entries ≡ funs_of program.decls
  pub at_widths : tables.types.widths ≡ widths

-- the setting of a program, with the types that its tables hold
abbrev pub program_setting : ProgramTree → Tables → Setting
program_setting program tables = setting_of tables.types.widths program (types_in tables.types.table.entries)

-- the variables of all functions, in order
abbrev pub AreVariables : Setting → List VariablesOfCode → Type 0
AreVariables setting found = map (λ variables. variables_in variables.table.entries) found ≡ map (end_variables setting) setting.funs

-- the targets of a program, each as it is written and with its type
pub record AreTargets (setting : Setting) (targets : List Target) : Type 0 where
  pub written : map (λ target. target.written) targets ≡ map type_print setting.scope.targets
  pub types : map (λ target. Some target.ty) targets ≡ map (type_of setting) setting.scope.targets

-- the tables are those of a well-typed program
pub record AreTypedTablesOf (program : ProgramTree) (tables : Tables) : Type 0 where
  pub tables_of : AreTablesOf program tables.types.widths tables
  pub typed : IsTyped tables.types.widths program (types_in tables.types.table.entries)
  pub complete : AreComplete (scope_of program) (types_in tables.types.table.entries)
