-- The tree of each form of the grammar. The place of a type, an atom, an expression or a statement is that of its first token.
use Rattle.std.specs.Prelude.{◌≡◌, ℕ, true, false, List, [], ◌∷◌, Option, Some, None, codes, refl}
use Rattle.tw_text.specs.declared.place.Pos.{Pos}
use Rattle.tw_syntax.specs.declared.term.OpKind.{OpKind}
use Rattle.tw_syntax.specs.declared.term.OpKind.TheVariants as kind
use Rattle.tw_syntax.specs.Names.{NameTree, PathTree}
use Rattle.tw_syntax.specs.Types.{WrittenTree, UnitType, UintType, BoolType, PairType, PtrType, NamedType}
use Rattle.tw_syntax.specs.Terms.{AtomTree, PlaceAtom, NumberAtom, TrueAtom, FalseAtom, UnitAtom, NullAtom, ZeroAtom, ExprTree, OneExpr, TwoExpr, NotExpr, OpExpr, BoundTree, FixedBound, SameBound, LessBound, RhsTree, ExprRhs, CallRhs, AllocRhs}
use Rattle.tw_syntax.specs.Statements as tree
use Rattle.tw_syntax.specs.Statements.{StmtTree}
use Rattle.tw_syntax.specs.Programs.{ParamTree, FunTree, DeclTree, AliasDecl, FunDecl, ProgramTree}
use Rattle.tw_parse.specs.Grammar as form
use Rattle.tw_parse.specs.Grammar.{TypeForm, StepsForm, PathForm, AtomForm, OpForm, ExprForm, BoundForm, CallBoundForm, MoreNamesForm, NamesForm, RhsForm}
use Rattle.tw_parse.specs.Statements as form_of
use Rattle.tw_parse.specs.Statements.{StmtForm, BlockForm, StmtsForm, ParamForm, MoreParamsForm, ParamsForm, FunBoundForm, FunForm, DeclForm, ProgramForm}
use Rattle.tw_lex.specs.declared.symbol.Symbol.TheVariants as symbols
use Rattle.tw_lex.specs.Tokens.{Lexed, name_at, sign_at}
use Rattle.tw_parse.specs.Prefixes.{IsProgram}

-- a name at a place
abbrev pub named : List ℕ → Pos → NameTree
named text at = record { text = text; at = at }

abbrev pub type_tree : TypeForm → WrittenTree
type_tree (form.Uint p) = UintType p
type_tree (form.Bool p) = BoolType p
type_tree (form.Named p name) = NamedType p name
type_tree (form.Ptr p q to r) = PtrType p (type_tree to)
type_tree (form.Unit p q) = UnitType p
type_tree (form.Pair p first q second r) = PairType p (type_tree first) (type_tree second)

abbrev pub steps_tree : StepsForm → List ℕ
steps_tree form.NoSteps = []
steps_tree (form.First p q rest) = 1 ∷ steps_tree rest
steps_tree (form.Second p q rest) = 2 ∷ steps_tree rest

abbrev pub path_tree : PathForm → PathTree
path_tree path = record { root = named path.root path.at; steps = steps_tree path.steps }

abbrev pub atom_place : AtomForm → Pos
atom_place (form.Place path) = path.at
atom_place (form.Number p value) = p
atom_place (form.True p) = p
atom_place (form.False p) = p
atom_place (form.Nothing p q) = p
atom_place (form.Null p q to r) = p
atom_place (form.Default p q of r) = p

abbrev pub atom_tree : AtomForm → AtomTree
atom_tree (form.Place path) = PlaceAtom path.at (path_tree path)
atom_tree (form.Number p value) = NumberAtom p value
atom_tree (form.True p) = TrueAtom p
atom_tree (form.False p) = FalseAtom p
atom_tree (form.Nothing p q) = UnitAtom p
atom_tree (form.Null p q to r) = NullAtom p (type_tree to)
atom_tree (form.Default p q of r) = ZeroAtom p (type_tree of)

abbrev pub op_kind : OpForm → OpKind
op_kind form.Add = kind.Add
op_kind form.Sub = kind.Sub
op_kind form.Mul = kind.Mul
op_kind form.Lt = kind.Lt
op_kind form.Eq = kind.Eq
op_kind form.Ne = kind.Ne
op_kind form.And = kind.And
op_kind form.Or = kind.Or

abbrev pub expr_tree : ExprForm → ExprTree
expr_tree (form.Not p atom) = NotExpr p (atom_tree atom)
expr_tree (form.Two p first q second r) = TwoExpr p (atom_tree first) (atom_tree second)
expr_tree (form.One atom) = OneExpr (atom_place atom) (atom_tree atom)
expr_tree (form.Op left op p right) = OpExpr (atom_place left) (op_kind op) (atom_tree left) (atom_tree right)

abbrev pub bound_tree : BoundForm → BoundTree
bound_tree (form.Fixed p value small) = FixedBound value
bound_tree (form.Named p name) = SameBound (named name p)
bound_tree (form.Less p name q r value small) = LessBound (named name p) value

abbrev pub call_bound_tree : CallBoundForm → Option BoundTree
call_bound_tree form.NoBound = None
call_bound_tree (form.Bound p bound q) = Some (bound_tree bound)

abbrev pub more_names_tree : MoreNamesForm → List NameTree
more_names_tree form.NoMore = []
more_names_tree (form.More q p name rest) = named name p ∷ more_names_tree rest

abbrev pub names_tree : NamesForm → List NameTree
names_tree form.NoNames = []
names_tree (form.Names p name rest) = named name p ∷ more_names_tree rest

abbrev pub rhs_tree : RhsForm → RhsTree
rhs_tree (form.Alloc p q of r) = AllocRhs (type_tree of)
rhs_tree (form.Call p callee bound q args r) = CallRhs (named callee p) (call_bound_tree bound) (names_tree args)
rhs_tree (form.Plain expr) = ExprRhs (expr_tree expr)

abbrev mutual
  pub stmt_tree : StmtForm → StmtTree
  stmt_tree (form_of.Let p n name q rhs r) = tree.LetStmt p true (named name n) (rhs_tree rhs)
  stmt_tree (form_of.Unlet p n name q rhs r) = tree.LetStmt p false (named name n) (rhs_tree rhs)
  stmt_tree (form_of.Swap left p right q) = tree.SwapStmt left.at (path_tree left) (path_tree right)
  stmt_tree (form_of.MemSwap p left q right r) = tree.MemSwapStmt p (path_tree left) (path_tree right)
  stmt_tree (form_of.If p cond body) = tree.IfStmt p (path_tree cond) (block_tree body) tree.Nothing
  stmt_tree (form_of.IfElse p cond body q other) = tree.IfStmt p (path_tree cond) (block_tree body) (tree.Else q (block_tree other))
  stmt_tree (form_of.With p setup q work) = tree.WithStmt p (block_tree setup) (block_tree work)
  stmt_tree (form_of.Block block) = tree.BlockStmt (block_place block) (block_tree block)
  stmt_tree (form_of.Skip p q) = tree.SkipStmt p

  -- the place of a block
  pub block_place : BlockForm → Pos
  block_place (form_of.Braces p stmts q) = p

  -- the statements of a block
  pub block_tree : BlockForm → StmtTree
  block_tree (form_of.Braces p stmts q) = stmts_tree stmts

  pub stmts_tree : StmtsForm → StmtTree
  stmts_tree form_of.NoStmts = tree.Nothing
  stmts_tree (form_of.Stmts first rest) = tree.Then (stmt_tree first) (stmts_tree rest)

abbrev pub param_tree : ParamForm → ParamTree
param_tree param = record { name = named param.name param.at; ty = type_tree param.ty }

abbrev pub more_params_tree : MoreParamsForm → List ParamTree
more_params_tree form_of.NoMoreParams = []
more_params_tree (form_of.MoreParams p param rest) = param_tree param ∷ more_params_tree rest

abbrev pub params_tree : ParamsForm → List ParamTree
params_tree form_of.NoParams = []
params_tree (form_of.Params param rest) = param_tree param ∷ more_params_tree rest

abbrev pub fun_bound_tree : FunBoundForm → Option NameTree
fun_bound_tree form_of.NoFunBound = None
fun_bound_tree (form_of.FunBound p n name q) = Some (named name n)

abbrev pub fun_tree : FunForm → FunTree
fun_tree fun = record {
  name = named fun.name fun.name_at;
  bound = fun_bound_tree fun.bound;
  params = params_tree fun.params;
  result = type_tree fun.result;
  body = stmts_tree fun.body;
  return_at = fun.return_at;
  returned = named fun.returned fun.returned_at;
}

abbrev pub decl_tree : DeclForm → DeclTree
decl_tree (form_of.Alias p n name q body r) = AliasDecl (record { name = named name n; body = type_tree body })
decl_tree (form_of.Fun fun) = FunDecl (fun_tree fun)

abbrev pub decls_tree : ProgramForm → List DeclTree
decls_tree (form_of.Last decl) = decl_tree decl ∷ []
decls_tree (form_of.Decls decl rest) = decl_tree decl ∷ decls_tree rest

-- the tokens are a program with this tree
abbrev pub HasTree : List Lexed → ProgramTree → Type 0
HasTree toks tree = (program : IsProgram toks) × (tree ≡ record { decls = decls_tree program.0 })

-- the tree of `type t = uint;`
pub alias-has_tree : (p q r s t : Pos) → HasTree (sign_at symbols.Type p ∷ name_at (codes "t") q ∷ sign_at symbols.Define r ∷ sign_at symbols.Uint s ∷ sign_at symbols.Semicolon t ∷ [])
    (record { decls = AliasDecl (record { name = named (codes "t") q; body = UintType s }) ∷ [] })
alias-has_tree p q r s t = ((form_of.Last (form_of.Alias p q (codes "t") r (form.Uint s) t), refl), refl)

-- the place of `x + 1` is that of `x`
pub expr_tree-place : (p q r : Pos) → expr_tree (form.Op (form.Place (record { at = p; root = codes "x"; steps = form.NoSteps })) form.Add q (form.Number r 1))
    ≡ OpExpr p kind.Add (PlaceAtom p (record { root = named (codes "x") p; steps = [] })) (NumberAtom r 1)
expr_tree-place p q r = refl
