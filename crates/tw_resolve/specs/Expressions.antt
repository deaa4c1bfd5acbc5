-- The types of paths, atoms, expressions and right sides, and their rules.
use Rattle.std.specs.Prelude.{ℕ, zero, suc, ◌^◌, ◌-◌, Bool, true, false, not, ◌&&◌, ◌||◌, ◌==◌, ltb, List, [], ◌∷◌, ◌++◌, length, map, slice_get, Option, Some, None, is_some, option_and_then}
use Rattle.std.proofs.Math.Bool.{beq}
use Rattle.std.specs.Map.{lookup}
use Rattle.std.specs.Str.{bytes_eq}
use Rattle.tw_text.specs.declared.refusal.Rule.TheVariants as rule
use Rattle.tw_syntax.specs.declared.term.OpKind.{OpKind}
use Rattle.tw_syntax.specs.declared.term.OpKind.TheVariants as op
use Rattle.tw_syntax.specs.Names.{NameTree, PathTree}
use Rattle.tw_syntax.specs.Programs.{FunTree, ParamTree}
use Rattle.tw_syntax.specs.Terms.{AtomTree, PlaceAtom, NumberAtom, TrueAtom, FalseAtom, UnitAtom, NullAtom, ZeroAtom, ExprTree, OneExpr, TwoExpr, NotExpr, OpExpr, BoundTree, SameBound, LessBound, RhsTree, ExprRhs, CallRhs, AllocRhs}
use Rattle.tw_types.specs.Types.{Ty, UnitTy, Word, Boolean, PairTy}
use Rattle.tw_resolve.specs.Demands.{Demand, demand, demand_within}
use Rattle.tw_resolve.specs.Declarations.{Name, is_one_of, number_of}
use Rattle.tw_resolve.specs.Setting.{Setting, type_of, pointer_to, pair_of, size_rules, written_rules, fits}

-- the variables that are declared so far, with their types, in the order of their declarations
abbrev pub Variables : Type 0
Variables = List (Name × Ty)

-- the names of variables
abbrev pub texts_of : Variables → List Name
texts_of variables = map (λ variable. variable.0) variables

-- the type of a variable
abbrev pub variable_type : Variables → Name → Option Ty
variable_type variables name = lookup (bytes_eq name) variables

-- the half of a pair that a step leads to
abbrev pub half : ℕ → Ty → Option Ty
half (suc zero) (PairTy first second) = Some first
half (suc (suc zero)) (PairTy first second) = Some second
half step ty = None

-- the type of the part that steps lead to
abbrev pub part : List ℕ → Option Ty → Option Ty
part [] ty = ty
part (step ∷ steps) ty = part steps (option_and_then (half step) ty)

-- the types of names
abbrev pub Types : Type 0
Types = Name → Option Ty

-- the type of a path, by the types of names, and by variables
abbrev pub type_at_path : Types → PathTree → Option Ty
type_at_path types path = part path.steps (types path.root.text)

abbrev pub path_type : Variables → PathTree → Option Ty
path_type variables path = type_at_path (variable_type variables) path

abbrev pub atom_type : Setting → Variables → AtomTree → Option Ty
atom_type setting variables (PlaceAtom at path) = path_type variables path
atom_type setting variables (NumberAtom at number) = Some Word
atom_type setting variables (TrueAtom at) = Some Boolean
atom_type setting variables (FalseAtom at) = Some Boolean
atom_type setting variables (UnitAtom at) = Some UnitTy
atom_type setting variables (NullAtom at to) = pointer_to setting.scope to
atom_type setting variables (ZeroAtom at ty) = type_of setting ty

-- the type of the result of an operator
abbrev pub result_type : OpKind → Ty
result_type op.Add = Word
result_type op.Sub = Word
result_type op.Mul = Word
result_type other = Boolean

-- the type that an operator needs on its left; `==` and `!=` take any
abbrev pub left_type : OpKind → Option Ty
left_type op.And = Some Boolean
left_type op.Or = Some Boolean
left_type op.Eq = None
left_type op.Ne = None
left_type other = Some Word

-- the type that an operator needs on its right, after a left operand of this type
abbrev pub right_type : OpKind → Option Ty → Option Ty
right_type op.Eq left = left
right_type op.Ne left = left
right_type other left = left_type other

abbrev pub expr_type : Setting → Variables → ExprTree → Option Ty
expr_type setting variables (OneExpr at x) = atom_type setting variables x
expr_type setting variables (TwoExpr at x y) = pair_of (atom_type setting variables x) (atom_type setting variables y)
expr_type setting variables (NotExpr at x) = Some Boolean
expr_type setting variables (OpExpr at operator x y) = Some (result_type operator)

-- a path begins at a variable, its steps lead to halves of pairs, and its part has the needed type
abbrev pub path_rules : Variables → Option Ty → PathTree → List Demand
path_rules variables needed path =
    demand rule.UnknownName path.root.at (is_some (variable_type variables path.root.text))
    ∷ demand rule.TypeMismatch path.root.at (is_some (path_type variables path) && fits needed (path_type variables path))
    ∷ []

-- an atom has the needed type, and a number fits into a word
abbrev pub atom_rules : Setting → Variables → Option Ty → AtomTree → List Demand
atom_rules setting variables needed (PlaceAtom at path) = path_rules variables needed path
atom_rules setting variables needed (NumberAtom at number) =
    demand_within rule.LiteralTooWide at number (2 ^ setting.widths.word - 1) ∷ demand rule.TypeMismatch at (fits needed (Some Word)) ∷ []
atom_rules setting variables needed (TrueAtom at) = demand rule.TypeMismatch at (fits needed (Some Boolean)) ∷ []
atom_rules setting variables needed (FalseAtom at) = demand rule.TypeMismatch at (fits needed (Some Boolean)) ∷ []
atom_rules setting variables needed (UnitAtom at) = demand rule.TypeMismatch at (fits needed (Some UnitTy)) ∷ []
atom_rules setting variables needed (NullAtom at to) =
    demand rule.TypeMismatch at (fits needed (pointer_to setting.scope to)) ∷ written_rules setting to
atom_rules setting variables needed (ZeroAtom at ty) =
    demand rule.TypeMismatch at (fits needed (type_of setting ty)) ∷ written_rules setting ty

-- a pair is not too deep and not too large, and operands have the types that their operator needs
abbrev pub expr_rules : Setting → Variables → ExprTree → List Demand
expr_rules setting variables (OneExpr at x) = atom_rules setting variables None x
expr_rules setting variables (TwoExpr at x y) =
    size_rules setting at (expr_type setting variables (TwoExpr at x y)) ++ (atom_rules setting variables None x ++ atom_rules setting variables None y)
expr_rules setting variables (NotExpr at x) = atom_rules setting variables (Some Boolean) x
expr_rules setting variables (OpExpr at operator x y) =
    atom_rules setting variables (left_type operator) x
    ++ atom_rules setting variables (right_type operator (atom_type setting variables x)) y

-- a function of the program, if one has this name
abbrev pub fun_named : Setting → Name → Option FunTree
fun_named setting name = option_and_then (slice_get setting.funs) (number_of setting.funs name)

-- whether a name is the bound of the caller
abbrev pub is_own : Option NameTree → NameTree → Bool
is_own None name = false
is_own (Some own) name = bytes_eq own.text name.text

-- whether a bound is the caller's own, less a positive number
abbrev pub is_smaller : FunTree → Option BoundTree → Bool
is_smaller caller (Some (LessBound name number)) = is_own caller.bound name && ltb 0 number
is_smaller caller bound = false

-- whether a function may call another: an earlier one, or itself with a smaller bound. Functions are numbered in text order
abbrev pub may_call : ℕ → ℕ → Bool → Bool
may_call caller callee smaller = ltb callee caller || ((callee == caller) && smaller)

-- whether a call has a bound and arguments as its callee declares them
abbrev pub matches_declared : Option BoundTree → List NameTree → FunTree → Bool
matches_declared bound args callee = beq (is_some bound) (is_some callee.bound) && (length args == length callee.params)

-- whether a test holds of what is there
abbrev pub if_there : {A : Type 0} → Option A → (A → Bool) → Bool
if_there None test = true
if_there (Some x) test = test x

-- a name in the bound of a call is the bound of the caller
abbrev pub bound_rules : FunTree → Option BoundTree → List Demand
bound_rules caller (Some (SameBound name)) = demand rule.UnknownName name.at (is_own caller.bound name) ∷ []
bound_rules caller (Some (LessBound name number)) = demand rule.UnknownName name.at (is_own caller.bound name) ∷ []
bound_rules caller other = []

-- the types of the parameters of a callee, as far as they are known
abbrev pub param_type : Setting → List ParamTree → Option Ty
param_type setting [] = None
param_type setting (param ∷ params) = type_of setting param.ty

abbrev pub next_params : List ParamTree → List ParamTree
next_params [] = []
next_params (param ∷ params) = params

-- an argument is a variable, occurs once, and has the type of its parameter
abbrev pub arg_rules : Variables → List Name → Option Ty → NameTree → List Demand
arg_rules variables earlier needed arg =
    demand rule.UnknownName arg.at (is_some (variable_type variables arg.text))
    ∷ demand rule.RepeatedArgument arg.at (not (is_one_of arg.text earlier))
    ∷ demand rule.TypeMismatch arg.at (fits needed (variable_type variables arg.text))
    ∷ []

-- the rules of arguments, after these names
abbrev pub args_rules : Setting → Variables → List Name → List ParamTree → List NameTree → List Demand
args_rules setting variables earlier params [] = []
args_rules setting variables earlier params (arg ∷ args) =
    arg_rules variables earlier (param_type setting params) arg
    ++ args_rules setting variables (earlier ++ arg.text ∷ []) (next_params params) args

-- the parameters of the callee; none if it is not there
abbrev pub params_of : Option FunTree → List ParamTree
params_of None = []
params_of (Some fun) = fun.params

-- the callee is there, may be called, and has such a bound and so many arguments
abbrev pub callee_rules : Setting → ℕ → FunTree → NameTree → Option BoundTree → List NameTree → List Demand
callee_rules setting number caller callee bound args =
    demand rule.UnknownName callee.at (is_some (number_of setting.funs callee.text))
    ∷ demand rule.CallOrder callee.at (if_there (number_of setting.funs callee.text) (λ other. may_call number other (is_smaller caller bound)))
    ∷ demand rule.BadCall callee.at (if_there (fun_named setting callee.text) (matches_declared bound args))
    ∷ []

-- the rules of a call: those of the callee, then the bound, and then the arguments
abbrev pub call_rules : Setting → ℕ → FunTree → Variables → NameTree → Option BoundTree → List NameTree → List Demand
call_rules setting number caller variables callee bound args =
    callee_rules setting number caller callee bound args
    ++ (bound_rules caller bound ++ args_rules setting variables [] (params_of (fun_named setting callee.text)) args)

-- the rules of a right side in the function of this number
abbrev pub rhs_rules : Setting → ℕ → FunTree → Variables → RhsTree → List Demand
rhs_rules setting number caller variables (ExprRhs expr) = expr_rules setting variables expr
rhs_rules setting number caller variables (CallRhs callee bound args) = call_rules setting number caller variables callee bound args
rhs_rules setting number caller variables (AllocRhs to) = written_rules setting to

-- the type of a right side
abbrev pub rhs_type : Setting → Variables → RhsTree → Option Ty
rhs_type setting variables (ExprRhs expr) = expr_type setting variables expr
rhs_type setting variables (CallRhs callee bound args) = option_and_then (λ fun. type_of setting fun.result) (fun_named setting callee.text)
rhs_type setting variables (AllocRhs to) = pointer_to setting.scope to
