-- What a resolved program tells of its functions.
use Rattle.std.specs.Prelude.{ℕ, List, [], slice_get, Option, Some, None, option_map, option_and_then}
use Rattle.tw_syntax.specs.Names.{PathTree}
use Rattle.tw_syntax.specs.Programs.{FunTree, ParamTree, program_tree}
use Rattle.tw_types.specs.Types.{Ty}
use Rattle.tw_resolve.specs.declared.resolved.Resolved.{Resolved}
use Rattle.tw_resolve.specs.Declarations.{Name}
use Rattle.tw_resolve.specs.Setting.{Setting, type_of}
use Rattle.tw_resolve.specs.Expressions.{Variables, variable_type, path_type, params_of}
use Rattle.tw_resolve.specs.Programs.{end_variables, local_variables, variable_names}
use Rattle.tw_resolve.specs.Tables.{program_setting}

-- the setting of a resolved program
abbrev pub resolved_setting : Resolved → Setting
resolved_setting resolved = program_setting (program_tree resolved.program.now) resolved.tables

-- the parameters of the function of this number
abbrev pub params_at : Setting → ℕ → List ParamTree
params_at setting number = params_of (slice_get setting.funs number)

-- the type of one of its parameters
abbrev pub param_type_at : Setting → ℕ → ℕ → Option Ty
param_type_at setting number place = option_and_then (λ param. type_of setting param.ty) (slice_get (params_at setting number) place)

-- the type of its result
abbrev pub result_at : Setting → ℕ → Option Ty
result_at setting number = option_and_then (λ fun. type_of setting fun.result) (slice_get setting.funs number)

-- its variables, the parameters and then the targets of its assignments, with their types
abbrev pub variables_at : Setting → ℕ → Option Variables
variables_at setting number = option_map (end_variables setting) (slice_get setting.funs number)

-- the names of its variables
abbrev pub variable_names_at : Setting → ℕ → Option (List Name)
variable_names_at setting number = option_map variable_names (slice_get setting.funs number)

-- its local variables
abbrev pub locals_of : Setting → Option FunTree → Variables
locals_of setting None = []
locals_of setting (Some fun) = local_variables setting fun

abbrev pub locals_at : Setting → ℕ → Variables
locals_at setting number = locals_of setting (slice_get setting.funs number)

-- the type of one of its variables, by name
abbrev pub type_at : Setting → ℕ → Name → Option Ty
type_at setting number name = option_and_then (λ variables. variable_type variables name) (variables_at setting number)

-- the type of a path from one of its variables
abbrev pub path_type_at : Setting → ℕ → PathTree → Option Ty
path_type_at setting number path = option_and_then (λ variables. path_type variables path) (variables_at setting number)
