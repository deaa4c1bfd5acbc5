-- The types of paths and of variables in a function.
use Rattle.std.proofs.Common.{◌≡◌, refl, sym, ℕ, List, [], ◌∷◌, slice_get, Option, Some, None, option_map, option_and_then}
use Rattle.tw_syntax.specs.Names.{PathTree}
use Rattle.tw_syntax.specs.Programs.{FunTree}
use Rattle.tw_resolve.specs.Expressions.{Variables, part, path_type, type_at_path, variable_type}
use Rattle.tw_resolve.specs.Programs.{end_variables}
use Rattle.tw_resolve.specs.Resolved.{path_type_at, type_at, variables_at}
use Rattle.tw_resolve.specs.Setting.{Setting}
use Rattle.tw_state.specs.Steps.{fun_types}

-- a path without a type leads nowhere
part_of_none : (steps : List ℕ) → part steps None ≡ None
part_of_none [] = refl
part_of_none (step ∷ steps) = part_of_none steps

-- the type of a path by the types of names is that by the variables
pub path_types : (setting : Setting) (number : ℕ) (path : PathTree) → path_type_at setting number path ≡ type_at_path (type_at setting number) path
path_types setting number path = by (variables_at setting number)
  where
    by : (found : Option Variables) → option_and_then (λ variables. path_type variables path) found ≡ part path.steps (option_and_then (λ variables. variable_type variables path.root.text) found)
    by (Some variables) = refl
    by None = sym (part_of_none path.steps)

-- the types of the variables of a function
pub types_are : (setting : Setting) (number : ℕ) (fun : FunTree) → slice_get setting.funs number ≡ Some fun → type_at setting number ≡ fun_types setting fun
types_are setting number fun is = λ i name. option_and_then (λ variables. variable_type variables name) (option_map (end_variables setting) (is i))
