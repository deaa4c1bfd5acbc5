-- What the numbers in statements are: those of the variables of a function, of the targets, and of the functions.
use Rattle.std.specs.Prelude.{◌≡◌, ℕ, true, List, [], ◌∷◌, ◌++◌, Option, Some, None, is_some, length, map, option_map, position, slice_get}
use Rattle.std.specs.List.{AllByRecursion}
use Rattle.std.specs.Option.{unwrap_or}
use Rattle.std.specs.Str.{bytes_eq}
use Rattle.tw_syntax.specs.Programs.{FunTree}
use Rattle.tw_syntax.specs.Statements.{StmtTree}
use Rattle.tw_syntax.specs.Types.{written_tree}
use Rattle.tw_types.specs.Types.{Ty, Pointer}
use Rattle.tw_resolve.specs.Declarations.{Name, AreDifferent, number_of, target_number}
use Rattle.tw_resolve.specs.Expressions.{texts_of, type_at_path}
use Rattle.tw_resolve.specs.Resolved.{type_at, variables_at}
use Rattle.tw_resolve.specs.Setting.{Setting}
use Rattle.tw_check.specs.Liveness.{names_of}
use Rattle.tw_interp.specs.declared.runner.Body.{Body}
use Rattle.tw_interp.specs.declared.formula.Formula.{Formula}
use Rattle.tw_interp.specs.declared.formula.FormulaKind.{FormulaKind}
use Rattle.tw_interp.specs.declared.formula.FormulaKind.TheVariants as formula
use Rattle.tw_interp.specs.declared.formula.Operand.{Operand}
use Rattle.tw_interp.specs.declared.formula.OperandKind.{OperandKind}
use Rattle.tw_interp.specs.declared.formula.OperandKind.TheVariants as operand
use Rattle.tw_interp.specs.declared.numbered.Action.{Action, Row_of-Step, end_of-Step, more_of-Step}
use Rattle.tw_interp.specs.declared.numbered.Action as action
use Rattle.tw_interp.specs.declared.numbered.Other.{Other, Other'}
use Rattle.tw_interp.specs.declared.numbered.Source.{Source}
use Rattle.tw_interp.specs.declared.numbered.Source.TheVariants as source
use Rattle.tw_interp.specs.declared.numbered.Step.{Step}
use Rattle.tw_interp.specs.declared.variable.Var.{Var}
use Rattle.tw_interp.specs.NumberedTrees.{var_tree, var_path_tree, steps_tree}

-- the names of the variables of the function of this number, in the order of their numbers
abbrev pub numbered_names : Setting → ℕ → List Name
numbered_names setting fun = texts_of (unwrap_or (variables_at setting fun) [])

-- a name has the number of its variable, or none if it is no variable
abbrev pub IsVar : List Name → Var → Type 0
IsVar names var = var.slot ≡ position (bytes_eq var.name.text.now) names

-- a name has the number of its variable
abbrev pub IsTarget : List Name → Var → Type 0
IsTarget names var = IsVar names var × (is_some var.slot ≡ true)

-- so do the names of an atom and of an expression
abbrev pub IsOperandKind : List Name → OperandKind → Type 0
IsOperandKind names (operand.Place path) = IsVar names path.root
IsOperandKind names kind = Unit {0}

abbrev pub IsOperand : List Name → Operand → Type 0
IsOperand names x = IsOperandKind names x.kind

abbrev pub IsFormulaKind : List Name → FormulaKind → Type 0
IsFormulaKind names (formula.One x) = IsOperand names x
IsFormulaKind names (formula.Two x y) = IsOperand names x × IsOperand names y
IsFormulaKind names (formula.Not x) = IsOperand names x
IsFormulaKind names (formula.Op operator x y) = IsOperand names x × IsOperand names y

abbrev pub IsFormula : List Name → Formula → Type 0
IsFormula names x = IsFormulaKind names x.kind

-- a right side has the numbers of its variables, of its function, and of its target
abbrev pub IsSource : Setting → List Name → Source → Type 0
IsSource setting names (source.Formula x) = IsFormula names x
IsSource setting names (source.Call callee number bound args) = (number ≡ number_of setting.funs callee.text.now) × AllByRecursion (IsTarget names) args.now
IsSource setting names (source.Alloc written target) = option_map (λ id. id.0) target ≡ target_number setting.scope.targets (written_tree written.now)

-- the number of the target of pointers of a type
abbrev pub target_of : Option Ty → Option ℕ
target_of (Some (Pointer target)) = Some target
target_of ty = None

abbrev mutual
  -- a statement in the function of this number has the numbers of its variables, functions and targets
  pub IsAction : Setting → ℕ → Action → Type 0
  IsAction setting fun (action.Let forward target source) = IsTarget (numbered_names setting fun) target × IsSource setting (numbered_names setting fun) source
  IsAction setting fun (action.Swap left right) = IsVar (numbered_names setting fun) left.root × IsVar (numbered_names setting fun) right.root
  IsAction setting fun (action.MemSwap pointer place target) =
      IsVar (numbered_names setting fun) pointer.root
      × IsVar (numbered_names setting fun) place.root
      × (option_map (λ id. id.0) target ≡ target_of (type_at_path (type_at setting fun) (var_path_tree pointer)))
  IsAction setting fun (action.If' cond p shape row other) = IsVar (numbered_names setting fun) cond.root × AreInRow setting fun row × IsHeld setting fun other
  IsAction setting fun (action.With' p shape row q shape2 row2) = AreInRow setting fun row × AreInRow setting fun row2
  IsAction setting fun (action.Block' p shape row) = AreInRow setting fun row
  IsAction setting fun action.Skip = Unit {0}

  -- so have the statements of a slice in a statement
  pub AreInRow : Setting → ℕ → {n : _} → Row_of-Step n → Type 0
  AreInRow setting fun end_of-Step = Unit {0}
  AreInRow setting fun (more_of-Step at kind rest) = IsAction setting fun kind × AreInRow setting fun rest

  -- and those of an `else`
  pub IsHeld : Setting → ℕ → action.Held-Action-If-2 → Type 0
  IsHeld setting fun action.None' = Unit {0}
  IsHeld setting fun (action.Some' other) = IsOther setting fun other

  pub IsOther : Setting → ℕ → Other → Type 0
  IsOther setting fun (Other' at p shape row) = AreInRow setting fun row

abbrev pub IsNumbered : Setting → ℕ → Step → Type 0
IsNumbered setting fun step = IsAction setting fun step.action

abbrev pub AreNumbered : Setting → ℕ → List Step → Type 0
AreNumbered setting fun steps = AllByRecursion (IsNumbered setting fun) steps

abbrev pub IsElse : Setting → ℕ → Option Other → Type 0
IsElse setting fun None = Unit {0}
IsElse setting fun (Some other) = IsOther setting fun other

-- the names that a callee shares with its caller, each with that of the caller: the result with the target, and the parameters with the
-- arguments
abbrev pub shared_vars : List Var → List Var → List (Name × Name)
shared_vars [] args = []
shared_vars (param ∷ params) [] = []
shared_vars (param ∷ params) (arg ∷ args) = (param.name.text.now, arg.name.text.now) ∷ shared_vars params args

abbrev pub shared_names : Body → Var → List Var → List (Name × Name)
shared_names body target args = (body.returned.name.text.now, target.name.text.now) ∷ shared_vars body.params.now args

-- the variables of a function that are listed in the states of an entry: the parameters, and then the result; and their names
abbrev pub listed_vars : Body → List Var
listed_vars body = body.params.now ++ body.returned ∷ []

abbrev pub listed_names : Body → List Name
listed_names body = map (λ var. var.name.text.now) (listed_vars body)

-- a name is one of these, and so is each name in a statement
abbrev pub IsKnown : List Name → Name → Type 0
IsKnown names name = is_some (position (bytes_eq name) names) ≡ true

abbrev pub AreKnown : List Name → StmtTree → Type 0
AreKnown names s = AllByRecursion (IsKnown names) (names_of s)

-- the numbered function is the one of this number
pub record IsBodyOf (setting : Setting) (number : ℕ) (fun : FunTree) (body : Body) : Type 0 where
  pub params : map var_tree body.params.now ≡ map (λ param. param.name) fun.params
  pub returned : var_tree body.returned ≡ fun.returned
  pub steps : steps_tree body.steps.now ≡ fun.body
  pub are_params : AllByRecursion (IsTarget (numbered_names setting number)) body.params.now
  pub is_returned : IsTarget (numbered_names setting number) body.returned
  pub are_numbered : AreNumbered setting number body.steps.now
  pub different : AreDifferent (numbered_names setting number)

-- the numbered functions are those of a program
pub record AreBodies (setting : Setting) (bodies : List Body) : Type 0 where
  pub counted : length bodies ≡ length setting.funs
  pub each : (number : ℕ) (fun : FunTree) (body : Body) → slice_get setting.funs number ≡ Some fun
      → slice_get bodies number ≡ Some body → IsBodyOf setting number fun body
