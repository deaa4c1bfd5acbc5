-- The variables of a function have different names, and each has its type. So the sizes of local variables are those of their names.
use Rattle.std.proofs.Common.{◌≡◌, ◌∙◌, ◌+◌, refl, ap, ℕ, Bool, true, false, if◌then◌else◌, filter, List, [], ◌∷◌, ◌++◌, fold, Option, Some, None, is_some, bytes_eq}
use Rattle.std.specs.List.{AllByRecursion}
use Rattle.std.proofs.lemmas.List.{map-append}
use Rattle.tw_syntax.specs.Programs.{ParamTree, FunTree}
use Rattle.tw_syntax.specs.Statements.{StmtTree, Nothing, Then, Else, LetStmt, SwapStmt, MemSwapStmt, IfStmt, WithStmt, BlockStmt, SkipStmt}
use Rattle.tw_types.specs.Types.{Widths, Ty, size}
use Rattle.tw_resolve.specs.Declarations.{Name, AreDifferent}
use Rattle.tw_resolve.specs.Expressions.{Types, Variables, rhs_type, texts_of, variable_type}
use Rattle.tw_resolve.specs.Programs.{end_variables, is_local, local_variables, param_variables, with_param}
use Rattle.tw_resolve.specs.Setting.{Setting, type_of}
use Rattle.tw_resolve.specs.Statements.{variables_after, with_variable}
use Rattle.tw_resolve.proofs.Texts.{bytes_eq-sym}
use Rattle.tw_state.specs.Steps.{fun_types}
use Rattle.tw_state.proofs.Basics.{contradiction, name_test}
use Rattle.tw_frames.specs.Frames.{locals_size}
use Rattle.tw_frames.specs.Sizes.{names_size}

-- a name that is no variable differs from each variable
new_differs : (variables : Variables) (name : Name) → is_some (variable_type variables name) ≡ false → AllByRecursion (λ other. bytes_eq other name ≡ false) (texts_of variables)
new_differs [] name new = tt
new_differs (first ∷ variables) name new = by (bytes_eq name first.0) refl new (new_differs variables name)
  where
    by : (k : Bool) → bytes_eq name first.0 ≡ k → is_some (if k then Some first.1 else variable_type variables name) ≡ false
        → (is_some (variable_type variables name) ≡ false → AllByRecursion (λ other. bytes_eq other name ≡ false) (texts_of variables))
        → (bytes_eq first.0 name ≡ false) × AllByRecursion (λ other. bytes_eq other name ≡ false) (texts_of variables)
    by true is new deeper = contradiction {test = true} refl new
    by false is new deeper = (bytes_eq-sym first.0 name ∙ is, deeper new)

-- different names, and a last one that differs from them
each_last : (P : Name → Type 0) (names : List Name) (last : Name) → AllByRecursion P names → P last → AllByRecursion P (names ++ last ∷ [])
each_last P [] last all is = (is, tt)
each_last P (name ∷ names) last all is = (all.0, each_last P names last all.1 is)

different_last : (names : List Name) (last : Name) → AreDifferent names → AllByRecursion (λ other. bytes_eq other last ≡ false) names → AreDifferent (names ++ last ∷ [])
different_last [] last different new = (tt, tt)
different_last (name ∷ names) last different new =
    (each_last (λ other. bytes_eq name other ≡ false) names last different.0 new.0, different_last names last different.1 new.1)

with_different : (variables : Variables) (name : Name) (o : Option Ty) → AreDifferent (texts_of variables) → AreDifferent (texts_of (with_variable variables name o))
with_different variables name None different = different
with_different variables name (Some ty) different = by (is_some (variable_type variables name)) (new_differs variables name)
  where
    by : (k : Bool) → (k ≡ false → AllByRecursion (λ other. bytes_eq other name ≡ false) (texts_of variables)) → AreDifferent (texts_of (if k then variables else variables ++ (name, ty) ∷ []))
    by true new = different
    by false new = rw (map-append (λ variable. variable.0) variables ((name, ty) ∷ [])) (different_last (texts_of variables) name different (new refl))

module _ (setting : Setting) where
  after_different : (variables : Variables) (s : StmtTree) → AreDifferent (texts_of variables) → AreDifferent (texts_of (variables_after setting variables s))
  after_different variables Nothing different = different
  after_different variables (Then first rest) different = after_different (variables_after setting variables first) rest (after_different variables first different)
  after_different variables (Else at stmts) different = after_different variables stmts different
  after_different variables (LetStmt at true target rhs) different = with_different variables target.text (rhs_type setting variables rhs) different
  after_different variables (LetStmt at false target rhs) different = different
  after_different variables (SwapStmt at left right) different = different
  after_different variables (MemSwapStmt at pointer value) different = different
  after_different variables (IfStmt at cond first other) different = after_different (variables_after setting variables first) other (after_different variables first different)
  after_different variables (WithStmt at setup work) different = after_different (variables_after setting variables setup) work (after_different variables setup different)
  after_different variables (BlockStmt at body) different = after_different variables body different
  after_different variables (SkipStmt at) different = different

  params_different : (variables : Variables) (params : List ParamTree) → AreDifferent (texts_of variables) → AreDifferent (texts_of (fold (with_param setting) variables params))
  params_different variables [] different = different
  params_different variables (param ∷ params) different =
      params_different (with_param setting variables param) params (with_different variables param.name.text (type_of setting param.ty) different)

  -- the variables of a function have different names
  pub variables_different : (fun : FunTree) → AreDifferent (texts_of (end_variables setting fun))
  variables_different fun = after_different (param_variables setting fun.params) fun.body (params_different [] fun.params tt)

-- variables that have their types among these ones
abbrev pub HaveTypes : Types → Variables → Type 0
HaveTypes types variables = AllByRecursion (λ variable. types variable.0 ≡ Some variable.1) variables

types_after : (first : Name × Ty) (all rest : Variables) → AllByRecursion (λ other. bytes_eq first.0 other ≡ false) (texts_of rest) → HaveTypes (variable_type all) rest → HaveTypes (variable_type (first ∷ all)) rest
types_after first all [] new have = tt
types_after first all (variable ∷ rest) new have =
    (ap (λ k. if k then Some first.1 else variable_type all variable.0) (bytes_eq-sym variable.0 first.0 ∙ new.0) ∙ have.0, types_after first all rest new.1 have.1)

own_types : (variables : Variables) → AreDifferent (texts_of variables) → HaveTypes (variable_type variables) variables
own_types [] different = tt
own_types (first ∷ variables) different =
    (ap (λ k. if k then Some first.1 else variable_type variables first.0) (name_test first.0), types_after first variables variables different.0 (own_types variables different.1))

filter_types : (types : Types) (test : Name × Ty → Bool) (variables : Variables) → HaveTypes types variables → HaveTypes types (filter test variables)
filter_types types test [] have = tt
filter_types types test (variable ∷ variables) have = by (test variable) (filter_types types test variables have.1)
  where
    by : (k : Bool) → HaveTypes types (filter test variables) → HaveTypes types (if k then variable ∷ filter test variables else filter test variables)
    by true rest = (have.0, rest)
    by false rest = rest

-- each local variable has its type
pub locals_typed : (setting : Setting) (fun : FunTree) → HaveTypes (fun_types setting fun) (local_variables setting fun)
locals_typed setting fun = filter_types (fun_types setting fun) (is_local fun) (end_variables setting fun) (own_types (end_variables setting fun) (variables_different setting fun))

-- the bits of variables
abbrev pub variables_size : Widths → Variables → ℕ
variables_size widths [] = 0
variables_size widths (variable ∷ variables) = size widths variable.1 + variables_size widths variables

sizes_typed : (widths : Widths) (types : Types) (variables : Variables) → HaveTypes types variables → names_size widths types (texts_of variables) ≡ variables_size widths variables
sizes_typed widths types [] have = refl
sizes_typed widths types (variable ∷ variables) have = rw (have.0, sizes_typed widths types variables have.1) refl

pub locals_sizes : (setting : Setting) (fun : FunTree) → locals_size setting fun ≡ variables_size setting.widths (local_variables setting fun)
locals_sizes setting fun = sizes_typed setting.widths (fun_types setting fun) (local_variables setting fun) (locals_typed setting fun)
