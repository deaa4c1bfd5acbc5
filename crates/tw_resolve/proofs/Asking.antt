-- What a resolved program tells of its functions, by what it keeps.
use Rattle.std.proofs.Common.{◌≤◌, filter, position, bytes_eq, ◌≡◌, ◌∙◌, ◌<◌, ◌+◌, arith, is_some, true, Result, Ok, Err, IfOk, IsSome, ap, sym, subst, refl, ℕ, zero, suc, List, [], ◌∷◌, ◌++◌, map, length, get_or, Option, Some, None, option_map, option_and_then, slice_get}
use Rattle.std.specs.List.{AllByRecursion}
use Rattle.std.proofs.lemmas.List.{length-append, length-map, map-append}
use Rattle.std.proofs.lemmas.Option.{slice_get-map, slice_get_read}
use Rattle.std.proofs.Math.Bool.{Bool-set}
use Rattle.std.proofs.Math.Logic.{∥∥₁_elim}
use Rattle.std.proofs.Math.Nat.{ℕ_set}
use Rattle.tw_syntax.specs.declared.program.Fun.{Fun}
use Rattle.tw_syntax.specs.Programs.{FunTree, ParamTree, ProgramTree, fun_tree, param_tree, program_tree}
use Rattle.tw_syntax.specs.Types.{WrittenTree}
use Rattle.tw_types.specs.declared.types.Ty as ty
use Rattle.tw_types.specs.Types.{Ty}
use Rattle.tw_types.specs.FromCode.{ty_of}
use Rattle.tw_resolve.specs.declared.resolved.Resolved.{Resolved}
use Rattle.tw_resolve.specs.declared.tables.Tables.{Tables}
use Rattle.tw_resolve.specs.declared.variables.Variables.{Variables as VariablesOfCode}
use Rattle.tw_resolve.specs.Declarations.{Name, is_one_of, AreDifferent}
use Rattle.tw_resolve.specs.Setting.{Setting, type_of}
use Rattle.tw_resolve.specs.Expressions.{Variables, texts_of, variable_type, params_of}
use Rattle.tw_resolve.specs.Programs.{end_variables, is_local, param_variables, variable_names}
use Rattle.tw_resolve.specs.Resolved.{locals_at, locals_of, resolved_setting, params_at, param_type_at, result_at, type_at, variable_names_at, variables_at}
use Rattle.tw_resolve.specs.Tables.{AreTypedTablesOf, AreVariables, program_setting, setting_in}
use Rattle.tw_resolve.specs.Variables.{variables_in}
use Rattle.tw_resolve.proofs.Each.{each_at}
use Rattle.tw_resolve.proofs.Known.{IsKnownFun}
use Rattle.tw_resolve.proofs.Locals.{local_after, local_before, local_len, locals}
use Rattle.tw_resolve.proofs.Params.{end_after_params, type_there as variable_there}
use Rattle.tw_resolve.proofs.Sets.{found_types, found_variable}
use Rattle.tw_resolve.proofs.WellTyped.{all_funs, same}

-- there are variables for each function
pub as_many : (setting : Setting) (found : List VariablesOfCode) → AreVariables setting found → length found ≡ length setting.funs
as_many setting found are =
    sym (length-map found (λ (v : VariablesOfCode). variables_in v.table.entries))
    ∙ ap length are
    ∙ length-map setting.funs (end_variables setting)

-- the variables of a function are those that are kept at its number
pub variables_found : (setting : Setting) (found : List VariablesOfCode) (number : ℕ) (variables : VariablesOfCode) → AreVariables setting found
    → number < length setting.funs → variables ≡ get_or found number variables → variables_at setting number ≡ Some (variables_in variables.table.entries)
variables_found setting found number variables are below is =
    let at : slice_get found number ≡ Some variables = slice_get_read found (length setting.funs) number variables (sym (as_many setting found are)) below is in
    sym (slice_get-map (end_variables setting) setting.funs number)
    ∙ ap (λ (all : List Variables). slice_get all number) (sym are)
    ∙ slice_get-map (λ (v : VariablesOfCode). variables_in v.table.entries) found number
    ∙ ap (option_map (λ (v : VariablesOfCode). variables_in v.table.entries)) at

-- an item of the first of two lists
get_first : {X : Type 0} (xs ys : List X) (place : ℕ) → place < length xs → slice_get (xs ++ ys) place ≡ slice_get xs place
get_first [] ys place below = absurd (omega (arith, below))
get_first (x ∷ xs) ys zero below = refl
get_first (x ∷ xs) ys (suc place) below = get_first xs ys place (omega (arith, below))

-- a number that has variables is that of a function
pub fun_there : (setting : Setting) (number : ℕ) (variables : Variables) → variables_at setting number ≡ Some variables
    → (fun : FunTree) × (slice_get setting.funs number ≡ Some fun)
fun_there setting number variables is = by (slice_get setting.funs number) refl is
  where
    by : (o : Option FunTree) → slice_get setting.funs number ≡ o → option_map (end_variables setting) o ≡ Some variables
        → (fun : FunTree) × (slice_get setting.funs number ≡ Some fun)
    by (Some fun) at is = (fun, at)
    by None at is = absurd (cc is)

-- a type that is there
pub type_there : (found : Option ty.Ty) → is_some (option_map ty_of found) ≡ true → IsSome found
type_there (Some ty) is = refl
type_there None is = absurd (cc is)

-- the type of a written type by the tables is the one by the program
pub written_type : {E : Type 0} (program : ProgramTree) (tables : Tables) (written : WrittenTree) (result : Result (Option ty.Ty) E)
    → ∥ AreTypedTablesOf program tables ∥₁ → IfOk result (λ found. option_map ty_of found ≡ type_of (setting_in tables) written)
    → IfOk result (λ found. option_map ty_of found ≡ type_of (program_setting program tables) written)
written_type program tables written (Ok found) typed is =
    ∥∥₁_elim typed (found_types _ _) (λ are. is ∙ ap (λ (s : Setting). type_of s written) (same program tables are))
written_type program tables written (Err e) typed is = tt

-- the function of a number that has variables
module _ (setting : Setting) (known : AllByRecursion (IsKnownFun setting) setting.funs) (number : ℕ) where
  -- what is known of it
  known_at : (fun : FunTree) → slice_get setting.funs number ≡ Some fun → IsKnownFun setting fun
  known_at fun at = each_at (IsKnownFun setting) setting.funs number fun known at

  -- its returned variable has the type of the result
  pub result_found : (fun : FunTree) (found : Option Ty) → slice_get setting.funs number ≡ Some fun → found ≡ type_at setting number fun.returned.text
      → (found ≡ result_at setting number) × (is_some found ≡ true)
  result_found fun found at is =
      let here = known_at fun at in
      let by_result : found ≡ type_of setting fun.result
      = is ∙ ap (λ (o : Option FunTree). option_and_then (λ variables. variable_type variables fun.returned.text) (option_map (end_variables setting) o)) at ∙ here.returned in (
        by_result ∙ sym (ap (λ (o : Option FunTree). option_and_then (λ f. type_of setting f.result) o) at),
        ap is_some by_result ∙ here.result,
      )

  -- its parameters are its first variables
  first_types : (fun : FunTree) → IsKnownFun setting fun → (place : ℕ) → place < length fun.params
      → slice_get (map (λ variable. Some variable.1) (end_variables setting fun)) place ≡ slice_get (map (λ param. type_of setting param.ty) fun.params) place
  first_types fun here place below =
      let more = end_after_params setting fun in
      let first = param_variables setting fun.params in
      let counted : length (map (λ variable. Some variable.1) first) ≡ length fun.params = ap length here.first.types ∙ length-map fun.params (λ param. type_of setting param.ty) in
      ap (λ (all : Variables). slice_get (map (λ variable. Some variable.1) all) place) more.1
      ∙ ap (λ (all : List (Option Ty)). slice_get all place) (map-append (λ variable. Some variable.1) first more.0)
      ∙ get_first (map (λ variable. Some variable.1) first) (map (λ variable. Some variable.1) more.0) place (omega (arith, counted, below))
      ∙ ap (λ (all : List (Option Ty)). slice_get all place) here.first.types

  pub param_found : (fun : FunTree) (variables : Variables) (place : ℕ) (name : Name) (ty : Ty) → slice_get setting.funs number ≡ Some fun
      → variables_at setting number ≡ Some variables → place < length (params_at setting number) → slice_get variables place ≡ Some (name, ty)
      → param_type_at setting number place ≡ Some ty
  param_found fun variables place name ty at is below here =
      let below_here : place < length fun.params = subst (λ (o : Option FunTree). place < length (params_of o)) at below in
      let same : end_variables setting fun ≡ variables = one (sym (ap (option_map (end_variables setting)) at) ∙ is) in
      ap (λ (o : Option FunTree). option_and_then (λ param. type_of setting param.ty) (slice_get (params_of o) place)) at
      ∙ joined (slice_get fun.params place) ty
      (sym (slice_get-map (λ (param : ParamTree). type_of setting param.ty) fun.params place)
      ∙ sym (first_types fun (known_at fun at) place below_here)
      ∙ ap (λ (all : Variables). slice_get (map (λ variable. Some variable.1) all) place) same
      ∙ slice_get-map (λ (variable : Name × Ty). Some variable.1) variables place
      ∙ ap (option_map (λ (variable : Name × Ty). Some variable.1)) here)
    where
      one : {x y : Variables} → Some x ≡ Some y → x ≡ y
      one same = cc same

      joined : (o : Option ParamTree) (ty : Ty) → option_map (λ (param : ParamTree). type_of setting param.ty) o ≡ Some (Some ty)
          → option_and_then (λ (param : ParamTree). type_of setting param.ty) o ≡ Some ty
      joined (Some param) ty is = cc is
      joined None ty is = absurd (cc is)

  -- it has at least as many variables as parameters
  pub place_found : (fun : FunTree) (variables : Variables) (place : ℕ) → slice_get setting.funs number ≡ Some fun
      → variables_at setting number ≡ Some variables → place < length (params_at setting number) → place < length variables
  place_found fun variables place at is below =
      let below_here : place < length fun.params = subst (λ (o : Option FunTree). place < length (params_of o)) at below in
      let same : end_variables setting fun ≡ variables = one (sym (ap (option_map (end_variables setting)) at) ∙ is) in
      let here = known_at fun at in
      let more = end_after_params setting fun in
      let first = param_variables setting fun.params in
      let counted : length first ≡ length fun.params
      = sym (length-map first (λ (variable : Name × Ty). Some variable.1)) ∙ ap length here.first.types ∙ length-map fun.params (λ (param : ParamTree). type_of setting param.ty) in
      let all : length variables ≡ length first + length more.0 = ap length (sym same ∙ more.1) ∙ length-append first more.0 in
      omega (arith, counted, all, below_here)
    where
      one : {x y : Variables} → Some x ≡ Some y → x ≡ y
      one same = cc same

-- the names of the variables of a function
pub names_found : (setting : Setting) (number : ℕ) (variables : Variables) → AllByRecursion (λ fun. texts_of (end_variables setting fun) ≡ variable_names fun) setting.funs
    → variables_at setting number ≡ Some variables → variable_names_at setting number ≡ Some (texts_of variables)
names_found setting number variables named is = by (slice_get setting.funs number) refl is
  where
    by : (o : Option FunTree) → slice_get setting.funs number ≡ o → option_map (end_variables setting) o ≡ Some variables → option_map variable_names o ≡ Some (texts_of variables)
    by (Some fun) at is =
        ap Some (sym (each_at (λ f. texts_of (end_variables setting f) ≡ variable_names f) setting.funs number fun named at))
        ∙ ap (option_map texts_of) is
    by None at is = absurd (cc is)

-- a variable has a type exactly if it has a name of the function
pub name_there : (setting : Setting) (number : ℕ) (variables : Variables) (name : Name) (found : Option ty.Ty)
    → variable_names_at setting number ≡ Some (texts_of variables) → option_map ty_of found ≡ variable_type variables name
    → option_map (is_one_of name) (variable_names_at setting number) ≡ Some (is_some found)
name_there setting number variables name found named is =
    ap (option_map (is_one_of name)) named ∙ ap Some (sym (variable_there variables name) ∙ ap is_some (sym is) ∙ same_there found)
  where
    same_there : (o : Option ty.Ty) → is_some (option_map ty_of o) ≡ is_some o
    same_there (Some ty) = refl
    same_there None = refl

-- the local variables are those after so many parameters, without the one at a place
abbrev pub AreLocals : ℕ → ℕ → Variables → Variables → Type 0
AreLocals params returned variables locals =
    (length locals + params + 1 ≡ length variables)
    × ((i : ℕ) → params + i < returned → slice_get locals i ≡ slice_get variables (params + i))
    × ((i : ℕ) → returned ≤ params + i → slice_get locals i ≡ slice_get variables (params + i + 1))

module _ (resolved : Resolved) (number : ℕ) (fun : FunTree) (variables : Variables) (at : slice_get (resolved_setting resolved).funs number ≡ Some fun)
    (is : variables_at (resolved_setting resolved) number ≡ Some variables) where
  abbrev setting : Setting
  setting = resolved_setting resolved

  ends : end_variables setting fun ≡ variables
  ends = one (sym (ap (option_map (end_variables setting)) at) ∙ is)
    where
      one : {x y : Variables} → Some x ≡ Some y → x ≡ y
      one same = cc same

  known_fun : AreTypedTablesOf (program_tree resolved.program.now) resolved.tables → IsKnownFun setting fun
  known_fun are = each_at (IsKnownFun setting) setting.funs number fun (all_funs (program_tree resolved.program.now) resolved.tables are) at

  -- the returned variable is one of them
  pub returned_there : is_some (variable_type variables fun.returned.text) ≡ true
  returned_there =
      ∥∥₁_elim resolved.typed (Bool-set _ _)
      (λ are. ap (λ (v : Variables). is_some (variable_type v fun.returned.text)) (sym ends) ∙ ap is_some (known_fun are).returned ∙ (known_fun are).result)

  are_locals : (place : ℕ) → AreDifferent (texts_of variables) → position (bytes_eq fun.returned.text) (texts_of variables) ≡ Some place
      → AreLocals (length fun.params) place variables (locals_at setting number)
  are_locals place different found = ∥∥₁_elim resolved.typed (hlevel (ℕ_set, found_variable)) (λ are. by (known_fun are))
    where
      by : IsKnownFun setting fun → AreLocals (length fun.params) place variables (locals_at setting number)
      by here =
          let first = param_variables setting fun.params in
          let more = end_after_params setting fun in
          let split : variables ≡ first ++ more.0 = sym ends ∙ more.1 in
          let params = map (λ param. param.name.text) fun.params in
          let differ = subst (λ (v : Variables). AreDifferent (texts_of v)) split different in
          let place_in = ap (λ (v : Variables). position (bytes_eq fun.returned.text) (texts_of v)) (sym split) ∙ found in
          let count : length params ≡ length fun.params = length-map fun.params (λ param. param.name.text) in
          let locals_same : locals_at setting number ≡ filter (locals params fun.returned.text) (first ++ more.0)
          = ap (locals_of setting) at ∙ ap (filter (is_local fun)) more.1 in
          let whole : AreLocals (length params) place (first ++ more.0) (filter (locals params fun.returned.text) (first ++ more.0)) = (
            local_len params fun.returned.text first more.0 here.first.names differ here.own place place_in,
            local_before params fun.returned.text first more.0 here.first.names differ here.own place place_in,
            local_after params fun.returned.text first more.0 here.first.names differ here.own place place_in,
          ) in
          let kept = filter (locals params fun.returned.text) (first ++ more.0) in
          let one = subst (λ (n : ℕ). AreLocals n place (first ++ more.0) kept) count whole in
          let two = subst (λ (v : Variables). AreLocals (length fun.params) place v kept) (sym split) one in
          subst (λ (l : Variables). AreLocals (length fun.params) place variables l) (sym locals_same) two

-- the same of a function of the code
pub are_locals_of : (resolved : Resolved) (number : ℕ) (fun : Fun) (variables : Variables) (place : ℕ) (found : Option ℕ)
    → slice_get (resolved_setting resolved).funs number ≡ Some (fun_tree fun) → variables_at (resolved_setting resolved) number ≡ Some variables
    → AreDifferent (texts_of variables) → found ≡ position (bytes_eq (fun_tree fun).returned.text) (texts_of variables) → found ≡ Some place
    → AreLocals (length fun.params.now) place variables (locals_at (resolved_setting resolved) number)
are_locals_of resolved number fun variables place found at is different searched here =
    subst (λ (n : ℕ). AreLocals n place variables (locals_at (resolved_setting resolved) number)) (length-map fun.params.now param_tree)
    (are_locals resolved number (fun_tree fun) variables at is place different (sym searched ∙ here))
