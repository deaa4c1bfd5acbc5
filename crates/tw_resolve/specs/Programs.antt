-- Well-typed programs, and the refusals of the others.
use Rattle.std.specs.Prelude.{◌≡◌, ◌⊎◌, ℕ, suc, Bool, not, ◌||◌, if◌then◌else◌, filter, List, [], ◌∷◌, ◌++◌, map, flat_map, fold, Option, Some, None, is_some}
use Rattle.std.specs.List.{AllByRecursion}
use Rattle.std.specs.Str.{bytes_eq}
use Rattle.tw_text.specs.declared.refusal.Fault.{Fault}
use Rattle.tw_text.specs.declared.refusal.Fault.TheVariants as fault
use Rattle.tw_text.specs.declared.refusal.Refusal.{Refusal}
use Rattle.tw_text.specs.declared.refusal.Rule.TheVariants as rule
use Rattle.tw_text.specs.Refusals.{broken}
use Rattle.tw_syntax.specs.Names.{NameTree}
use Rattle.tw_syntax.specs.Programs.{ParamTree, FunTree, AliasTree, ProgramTree}
use Rattle.tw_syntax.specs.Types.{WrittenTree}
use Rattle.tw_types.specs.Types.{Widths, Ty}
use Rattle.tw_resolve.specs.Demands.{Demand, demand, first_broken}
use Rattle.tw_resolve.specs.Declarations.{Name, is_one_of, aliases_of, funs_of, declared_as}
use Rattle.tw_resolve.specs.Denotes.{scope_of, AreTypes, IsRecursive}
use Rattle.tw_resolve.specs.Names.{name_rules}
use Rattle.tw_resolve.specs.Setting.{Setting, type_of, size_rules, part_rules, written_rules, fits}
use Rattle.tw_resolve.specs.Expressions.{Variables, variable_type}
use Rattle.tw_resolve.specs.Statements.{with_variable, assigned, variables_after, stmt_rules}

-- an alias is not too deep and not too large, and neither are the targets in it
abbrev pub alias_rules : Setting → AliasTree → List Demand
alias_rules setting alias = size_rules setting alias.name.at (type_of setting alias.body) ++ part_rules setting alias.body

-- a parameter has another name than those before it, and its type keeps the rules
abbrev pub param_rules : Setting → List Name → ParamTree → List Demand
param_rules setting earlier param =
    demand rule.DuplicateName param.name.at (not (is_one_of param.name.text earlier)) ∷ written_rules setting param.ty

-- the rules of parameters, after these names
abbrev pub params_rules : Setting → List Name → List ParamTree → List Demand
params_rules setting earlier [] = []
params_rules setting earlier (param ∷ params) =
    param_rules setting earlier param ++ params_rules setting (earlier ++ param.name.text ∷ []) params

-- the variables with a parameter
abbrev pub with_param : Setting → Variables → ParamTree → Variables
with_param setting variables param = with_variable variables param.name.text (type_of setting param.ty)

-- the variables where the body begins: the parameters
abbrev pub param_variables : Setting → List ParamTree → Variables
param_variables setting params = fold (with_param setting) [] params

-- the returned name is a variable, no parameter, and has the type of the result
abbrev pub return_rules : Setting → FunTree → Variables → List Demand
return_rules setting fun variables =
    demand rule.UnknownName fun.returned.at (is_some (variable_type variables fun.returned.text))
    ∷ demand rule.BadReturn fun.returned.at (not (is_one_of fun.returned.text (map (λ param. param.name.text) fun.params)))
    ∷ demand rule.TypeMismatch fun.returned.at (fits (type_of setting fun.result) (variable_type variables fun.returned.text))
    ∷ []

-- the variables at the end of a function
abbrev pub end_variables : Setting → FunTree → Variables
end_variables setting fun = variables_after setting (param_variables setting fun.params) fun.body

-- names with one more, if it is none of them
abbrev pub with_new : List Name → Name → List Name
with_new names name = if is_one_of name names then names else names ++ name ∷ []

-- the names of the variables of a function: its parameters, and then the targets of its assignments, each where it first appears
abbrev pub variable_names : FunTree → List Name
variable_names fun = fold with_new (map (λ param. param.name.text) fun.params) (assigned fun.body)

-- whether a variable is local: neither a parameter nor returned
abbrev pub is_local : FunTree → Name × Ty → Bool
is_local fun variable = not (is_one_of variable.0 (map (λ param. param.name.text) fun.params) || bytes_eq variable.0 fun.returned.text)

-- the local variables of a function, in order
abbrev pub local_variables : Setting → FunTree → Variables
local_variables setting fun = filter (is_local fun) (end_variables setting fun)

-- the rules of the function of this number, in text order
abbrev pub fun_rules : Setting → ℕ → FunTree → List Demand
fun_rules setting number fun =
    params_rules setting [] fun.params
    ++ (written_rules setting fun.result
    ++ (stmt_rules setting number fun (param_variables setting fun.params) fun.body
    ++ return_rules setting fun (end_variables setting fun)))

-- the rules of functions that are numbered from here on
abbrev pub funs_rules : Setting → ℕ → List FunTree → List Demand
funs_rules setting number [] = []
funs_rules setting number (fun ∷ funs) = fun_rules setting number fun ++ funs_rules setting (suc number) funs

-- the rules of types: those of all aliases, and then those of all functions
abbrev pub type_rules : Setting → List AliasTree → List Demand
type_rules setting aliases = flat_map (alias_rules setting) aliases ++ funs_rules setting 0 setting.funs

-- the setting of a program, with the types of its declared names
abbrev pub setting_of : Widths → ProgramTree → (Name → Option Ty) → Setting
setting_of widths program types = record { widths = widths; scope = scope_of program; types = types; funs = funs_of program.decls }

-- an alias that does not contain itself
abbrev pub IsFinite : (Name → Option WrittenTree) → AliasTree → Type 0
IsFinite declared alias = IsRecursive declared alias.name.text → ⊥

-- the program is well-typed: all rules of names hold, no alias contains itself, and all rules of types hold
pub record IsTyped (widths : Widths) (program : ProgramTree) (types : Name → Option Ty) : Type 0 where
  pub names : first_broken (name_rules program) ≡ None
  pub finite : AllByRecursion (IsFinite (declared_as (aliases_of program.decls))) (aliases_of program.decls)
  pub are_types : AreTypes (scope_of program) types
  pub typed : first_broken (type_rules (setting_of widths program types) (aliases_of program.decls)) ≡ None

-- the program is well-typed by some table of types; it has only one
abbrev pub IsWellTyped : Widths → ProgramTree → Type 0
IsWellTyped widths program = (types : Name → Option Ty) × IsTyped widths program types

-- the first of the aliases that contains itself is the one of this name
abbrev pub IsFirstRecursive : (Name → Option WrittenTree) → List AliasTree → NameTree → Type 0
IsFirstRecursive declared [] name = ⊥
IsFirstRecursive declared (alias ∷ rest) name =
    ((alias.name ≡ name) × IsRecursive declared alias.name.text) ⊎ (IsFinite declared alias × IsFirstRecursive declared rest name)

-- the refusal of a program that is not well-typed: a rule of names is broken; or none is, and an alias contains itself; or none does,
-- and a rule of types is broken
pub data IsRefused (widths : Widths) (program : ProgramTree) : Refusal → Type 0 where
  BreaksNames : {refusal : Refusal} → first_broken (name_rules program) ≡ Some refusal → IsRefused widths program refusal
  BreaksFinite : (name : NameTree) → first_broken (name_rules program) ≡ None
      → IsFirstRecursive (declared_as (aliases_of program.decls)) (aliases_of program.decls) name
      → IsRefused widths program (broken rule.RecursiveType name.at)
  BreaksTypes : {refusal : Refusal} (types : Name → Option Ty) → first_broken (name_rules program) ≡ None
      → AllByRecursion (IsFinite (declared_as (aliases_of program.decls))) (aliases_of program.decls)
      → AreTypes (scope_of program) types
      → first_broken (type_rules (setting_of widths program types) (aliases_of program.decls)) ≡ Some refusal
      → IsRefused widths program refusal

-- a program has at most one refusal, and none if it is well-typed
pub record HasOneAnswer (widths : Widths) (program : ProgramTree) : Type 0 where
  pub one_refusal : (refusal other : Refusal) → IsRefused widths program refusal → IsRefused widths program other → refusal ≡ other
  pub not_both : (refusal : Refusal) → IsWellTyped widths program → IsRefused widths program refusal → ⊥

-- a fault is the refusal of a program; memory may run out at any time
abbrev pub IsRefusedWith : Widths → ProgramTree → Fault → Type 0
IsRefusedWith widths program (fault.Refused refusal) = IsRefused widths program refusal
IsRefusedWith widths program fault.Memory = Unit {0}
