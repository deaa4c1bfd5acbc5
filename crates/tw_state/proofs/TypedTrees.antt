-- Typed expressions, statements and functions, by the types of a function's variables at its end.
use Rattle.std.proofs.Common.{◌≡◌, ◌<◌, ◌^◌, ℕ, List, [], ◌∷◌, map, Some}
use Rattle.tw_state.specs.Steps.{fun_types}
use Rattle.std.specs.List.{AllByRecursion}
use Rattle.tw_syntax.specs.declared.term.OpKind.{OpKind}
use Rattle.tw_syntax.specs.declared.term.OpKind.TheVariants as op
use Rattle.tw_syntax.specs.Names.{NameTree}
use Rattle.tw_syntax.specs.Programs.{ParamTree, FunTree}
use Rattle.tw_syntax.specs.Statements.{StmtTree, Nothing, Then, Else, LetStmt, SwapStmt, MemSwapStmt, IfStmt, WithStmt, BlockStmt, SkipStmt}
use Rattle.tw_syntax.specs.Terms.{AtomTree, PlaceAtom, NumberAtom, TrueAtom, FalseAtom, UnitAtom, NullAtom, ZeroAtom, ExprTree, OneExpr, TwoExpr, NotExpr, OpExpr, RhsTree, ExprRhs, CallRhs, AllocRhs}
use Rattle.tw_types.specs.Types.{Ty, UnitTy, Word, Boolean, Pointer, PairTy}
use Rattle.tw_resolve.specs.Declarations.{target_number}
use Rattle.tw_resolve.specs.Expressions.{Types, type_at_path, fun_named}
use Rattle.tw_resolve.specs.Setting.{Setting, type_of, pointee}
use Rattle.tw_check.specs.Liveness.{param_names}
use Rattle.tw_check.specs.Reverse.{reverse_of}
use Rattle.tw_state.proofs.Calls.{AreDifferent, HaveDifferentNames}

module _ (setting : Setting) where
  -- the atom has this type, and a number fits into a word
  abbrev pub AtomFits : Types → AtomTree → Ty → Type 0
  AtomFits types (PlaceAtom at path) ty = type_at_path types path ≡ Some ty
  AtomFits types (NumberAtom at number) ty = (number < 2 ^ setting.widths.word) × (ty ≡ Word)
  AtomFits types (TrueAtom at) ty = ty ≡ Boolean
  AtomFits types (FalseAtom at) ty = ty ≡ Boolean
  AtomFits types (UnitAtom at) ty = ty ≡ UnitTy
  AtomFits types (NullAtom at to) ty = (target : ℕ) × (ty ≡ Pointer target)
  AtomFits types (ZeroAtom at written) ty = type_of setting written ≡ Some ty

  -- the operator takes these types to the third
  abbrev pub OpFits : OpKind → Ty → Ty → Ty → Type 0
  OpFits op.Add left right ty = (left ≡ Word) × (right ≡ Word) × (ty ≡ Word)
  OpFits op.Sub left right ty = (left ≡ Word) × (right ≡ Word) × (ty ≡ Word)
  OpFits op.Mul left right ty = (left ≡ Word) × (right ≡ Word) × (ty ≡ Word)
  OpFits op.Lt left right ty = (left ≡ Word) × (right ≡ Word) × (ty ≡ Boolean)
  OpFits op.Eq left right ty = (left ≡ right) × (ty ≡ Boolean)
  OpFits op.Ne left right ty = (left ≡ right) × (ty ≡ Boolean)
  OpFits op.And left right ty = (left ≡ Boolean) × (right ≡ Boolean) × (ty ≡ Boolean)
  OpFits op.Or left right ty = (left ≡ Boolean) × (right ≡ Boolean) × (ty ≡ Boolean)

  abbrev pub ExprFits : Types → ExprTree → Ty → Type 0
  ExprFits types (OneExpr at x) ty = AtomFits types x ty
  ExprFits types (TwoExpr at x y) ty = (first second : Ty) × AtomFits types x first × AtomFits types y second × (ty ≡ PairTy first second)
  ExprFits types (NotExpr at x) ty = AtomFits types x Boolean × (ty ≡ Boolean)
  ExprFits types (OpExpr at operator x y) ty = (left right : Ty) × AtomFits types x left × AtomFits types y right × OpFits operator left right ty

  -- each argument has the type of its parameter, and there are as many
  abbrev pub ArgsFit : Types → List ParamTree → List NameTree → Type 0
  ArgsFit types [] [] = Unit {0}
  ArgsFit types (param ∷ params) (arg ∷ args) = ((ty : Ty) × (type_of setting param.ty ≡ Some ty) × (types arg.text ≡ Some ty)) × ArgsFit types params args
  ArgsFit types params args = ⊥

  -- the callee is there, the call has its result and its parameters, and no argument is repeated
  pub record CallFits (types : Types) (callee : NameTree) (args : List NameTree) (ty : Ty) : Type 0 where
    pub fun : FunTree
    pub named : fun_named setting callee.text ≡ Some fun
    pub result : type_of setting fun.result ≡ Some ty
    pub fit : ArgsFit types fun.params args
    pub once : AreDifferent (map (λ arg. arg.text) args)

  -- the target of an allocation is one of the program's, and denotes a type
  pub record AllocFits (to : _) (ty : Ty) : Type 0 where
    pub target : ℕ
    pub content : Ty
    pub numbered : target_number setting.scope.targets to ≡ Some target
    pub denotes : pointee setting (Some (Pointer target)) ≡ Some content
    pub pointer : ty ≡ Pointer target

  abbrev pub RhsFits : Types → RhsTree → Ty → Type 0
  RhsFits types (ExprRhs expr) ty = ExprFits types expr ty
  RhsFits types (CallRhs callee bound args) ty = CallFits types callee args ty
  RhsFits types (AllocRhs to) ty = AllocFits to ty

  -- each part of the statement has the type that it needs
  abbrev pub StmtFits : Types → StmtTree → Type 0
  StmtFits types Nothing = Unit {0}
  StmtFits types (Then first rest) = StmtFits types first × StmtFits types rest
  StmtFits types (Else at stmts) = StmtFits types stmts
  StmtFits types (LetStmt at forward target rhs) = (ty : Ty) × (types target.text ≡ Some ty) × RhsFits types rhs ty
  StmtFits types (SwapStmt at left right) = (ty : Ty) × (type_at_path types left ≡ Some ty) × (type_at_path types right ≡ Some ty)
  StmtFits types (MemSwapStmt at pointer value) =
      (target : ℕ) × (ty : Ty) × (type_at_path types pointer ≡ Some (Pointer target)) × (pointee setting (Some (Pointer target)) ≡ Some ty) × (type_at_path types value ≡ Some ty)
  StmtFits types (IfStmt at cond first other) = (type_at_path types cond ≡ Some Boolean) × StmtFits types first × StmtFits types other
  StmtFits types (WithStmt at setup work) = StmtFits types setup × StmtFits types work
  StmtFits types (BlockStmt at body) = StmtFits types body
  StmtFits types (SkipStmt at) = Unit {0}

  -- the reverse has the same parts
  pub reverse_fits : (types : Types) (s : StmtTree) → StmtFits types s → StmtFits types (reverse_of s)
  reverse_fits types Nothing fits = tt
  reverse_fits types (Then first rest) fits = (reverse_fits types rest fits.1, reverse_fits types first fits.0)
  reverse_fits types (Else at stmts) fits = reverse_fits types stmts fits
  reverse_fits types (LetStmt at forward target rhs) fits = fits
  reverse_fits types (SwapStmt at left right) fits = fits
  reverse_fits types (MemSwapStmt at pointer value) fits = fits
  reverse_fits types (IfStmt at cond first other) fits = (fits.0, reverse_fits types first fits.1, reverse_fits types other fits.2)
  reverse_fits types (WithStmt at setup work) fits = (fits.0, reverse_fits types work fits.1)
  reverse_fits types (BlockStmt at body) fits = reverse_fits types body fits
  reverse_fits types (SkipStmt at) fits = tt

  -- a parameter keeps its type to the end of the function
  abbrev pub ParamFits : Types → ParamTree → Type 0
  ParamFits types param = (ty : Ty) × (type_of setting param.ty ≡ Some ty) × (types param.name.text ≡ Some ty)

  pub record FunFits (fun : FunTree) : Type 0 where
    pub body : StmtFits (fun_types setting fun) fun.body
    pub params : AllByRecursion (ParamFits (fun_types setting fun)) fun.params
    pub result : (ty : Ty) × (type_of setting fun.result ≡ Some ty) × (fun_types setting fun fun.returned.text ≡ Some ty)
    pub different : AreDifferent (fun.returned.text ∷ param_names fun)

  -- each function of the program is typed
  abbrev pub FunsFit : Type 0
  FunsFit = (name : List ℕ) (fun : FunTree) → fun_named setting name ≡ Some fun → FunFits fun

  pub funs_different : FunsFit → HaveDifferentNames setting
  funs_different funs name fun named = (funs name fun named).different
