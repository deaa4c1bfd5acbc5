-- The text of a form is longer than what follows it.
use Rattle.std.proofs.Common.{◌<◌, ◌≤◌, List, ◌∷◌, length, arith}
use Rattle.tw_lex.specs.declared.symbol.Symbol.TheVariants as symbols
use Rattle.tw_lex.specs.Tokens.{Lexed, name_at, sign_at}
use Rattle.tw_parse.specs.Grammar as form
use Rattle.tw_parse.specs.Grammar.{TypeForm, type_text, StepsForm, steps_text, PathForm, path_text, AtomForm, atom_text, ExprForm, expr_text, BoundForm, bound_text, CallBoundForm, call_bound_text, MoreNamesForm, more_names_text, NamesForm, names_text, RhsForm, rhs_text}
use Rattle.tw_parse.specs.Statements as form_of
use Rattle.tw_parse.specs.Statements.{StmtForm, stmt_text, BlockForm, block_text, StmtsForm, stmts_text, ParamForm, param_text, MoreParamsForm, more_params_text, ParamsForm, params_text, FunBoundForm, fun_bound_text, FunForm, fun_text, DeclForm, decl_text}

type_grows : (c : TypeForm) (k : List Lexed) → length k < length (type_text c k)
type_grows (form.Uint p) k = omega arith
type_grows (form.Bool p) k = omega arith
type_grows (form.Named p name) k = omega arith
type_grows (form.Ptr p q to r) k = omega (arith, type_grows to (sign_at symbols.Greater r ∷ k))
type_grows (form.Unit p q) k = omega arith
type_grows (form.Pair p first q second r) k =
    omega (arith, type_grows first (sign_at symbols.Comma q ∷ type_text second (sign_at symbols.CloseParen r ∷ k)), type_grows second (sign_at symbols.CloseParen r ∷ k))

steps_keep : (c : StepsForm) (k : List Lexed) → length k ≤ length (steps_text c k)
steps_keep form.NoSteps k = omega arith
steps_keep (form.First p q rest) k = omega (arith, steps_keep rest k)
steps_keep (form.Second p q rest) k = omega (arith, steps_keep rest k)

path_grows : (c : PathForm) (k : List Lexed) → length k < length (path_text c k)
path_grows c k = omega (arith, steps_keep c.steps k)

atom_grows : (c : AtomForm) (k : List Lexed) → length k < length (atom_text c k)
atom_grows (form.Place path) k = path_grows path k
atom_grows (form.Null p q to r) k = omega (arith, type_grows to (sign_at symbols.Greater r ∷ k))
atom_grows (form.Default p q of r) k = omega (arith, type_grows of (sign_at symbols.Greater r ∷ k))
atom_grows c k = omega arith

expr_grows : (c : ExprForm) (k : List Lexed) → length k < length (expr_text c k)
expr_grows (form.Not p atom) k = omega (arith, atom_grows atom k)
expr_grows (form.Two p first q second r) k =
    omega (arith, atom_grows first (sign_at symbols.Comma q ∷ atom_text second (sign_at symbols.CloseParen r ∷ k)), atom_grows second (sign_at symbols.CloseParen r ∷ k))
expr_grows (form.One atom) k = atom_grows atom k
expr_grows (form.Op left op p right) k = omega (arith, atom_grows left (sign_at (form.op_symbol op) p ∷ atom_text right k), atom_grows right k)

bound_grows : (c : BoundForm) (k : List Lexed) → length k < length (bound_text c k)
bound_grows (form.Fixed p value small) k = omega arith
bound_grows c k = omega arith

call_bound_keep : (c : CallBoundForm) (k : List Lexed) → length k ≤ length (call_bound_text c k)
call_bound_keep form.NoBound k = omega arith
call_bound_keep (form.Bound p bound q) k = omega (arith, bound_grows bound (sign_at symbols.CloseBracket q ∷ k))

more_names_keep : (c : MoreNamesForm) (k : List Lexed) → length k ≤ length (more_names_text c k)
more_names_keep form.NoMore k = omega arith
more_names_keep (form.More q p name rest) k = omega (arith, more_names_keep rest k)

names_keep : (c : NamesForm) (k : List Lexed) → length k ≤ length (names_text c k)
names_keep form.NoNames k = omega arith
names_keep (form.Names p name rest) k = omega (arith, more_names_keep rest k)

rhs_grows : (c : RhsForm) (k : List Lexed) → length k < length (rhs_text c k)
rhs_grows (form.Alloc p q of r) k = omega (arith, type_grows of (sign_at symbols.Greater r ∷ k))
rhs_grows (form.Call p callee bound q args r) k =
    omega (arith, call_bound_keep bound (sign_at symbols.OpenParen q ∷ names_text args (sign_at symbols.CloseParen r ∷ k)), names_keep args (sign_at symbols.CloseParen r ∷ k))
rhs_grows (form.Plain expr) k = expr_grows expr k

mutual
  pub stmt_grows : (c : StmtForm) (k : List Lexed) → length k < length (stmt_text c k)
  stmt_grows (form_of.Let p n name q rhs r) k = omega (arith, rhs_grows rhs (sign_at symbols.Semicolon r ∷ k))
  stmt_grows (form_of.Unlet p n name q rhs r) k = omega (arith, rhs_grows rhs (sign_at symbols.Semicolon r ∷ k))
  stmt_grows (form_of.Swap left p right q) k =
      omega (arith, path_grows left (sign_at symbols.Swap p ∷ path_text right (sign_at symbols.Semicolon q ∷ k)), path_grows right (sign_at symbols.Semicolon q ∷ k))
  stmt_grows (form_of.MemSwap p left q right r) k =
      omega (arith, path_grows left (sign_at symbols.Swap q ∷ path_text right (sign_at symbols.Semicolon r ∷ k)), path_grows right (sign_at symbols.Semicolon r ∷ k))
  stmt_grows (form_of.If p cond body) k = omega (arith, path_grows cond (block_text body k), block_grows body k)
  stmt_grows (form_of.IfElse p cond body q other) k =
      omega (arith, path_grows cond (block_text body (sign_at symbols.Else q ∷ block_text other k)), block_grows body (sign_at symbols.Else q ∷ block_text other k), block_grows other k)
  stmt_grows (form_of.With p setup q work) k = omega (arith, block_grows setup (sign_at symbols.Do q ∷ block_text work k), block_grows work k)
  stmt_grows (form_of.Block block) k = block_grows block k
  stmt_grows (form_of.Skip p q) k = omega arith

  block_grows : (c : BlockForm) (k : List Lexed) → length k < length (block_text c k)
  block_grows (form_of.Braces p stmts q) k = omega (arith, stmts_keep stmts (sign_at symbols.CloseBrace q ∷ k))

  stmts_keep : (c : StmtsForm) (k : List Lexed) → length k ≤ length (stmts_text c k)
  stmts_keep form_of.NoStmts k = omega arith
  stmts_keep (form_of.Stmts first rest) k = omega (arith, stmt_grows first (stmts_text rest k), stmts_keep rest k)

pub param_grows : (c : ParamForm) (k : List Lexed) → length k < length (param_text c k)
param_grows c k = omega (arith, type_grows c.ty k)

more_params_keep : (c : MoreParamsForm) (k : List Lexed) → length k ≤ length (more_params_text c k)
more_params_keep form_of.NoMoreParams k = omega arith
more_params_keep (form_of.MoreParams p param rest) k = omega (arith, param_grows param (more_params_text rest k), more_params_keep rest k)

params_keep : (c : ParamsForm) (k : List Lexed) → length k ≤ length (params_text c k)
params_keep form_of.NoParams k = omega arith
params_keep (form_of.Params param rest) k = omega (arith, param_grows param (more_params_text rest k), more_params_keep rest k)

fun_bound_keep : (c : FunBoundForm) (k : List Lexed) → length k ≤ length (fun_bound_text c k)
fun_bound_keep form_of.NoFunBound k = omega arith
fun_bound_keep (form_of.FunBound p n name q) k = omega arith

fun_grows : (c : FunForm) (k : List Lexed) → length k < length (fun_text c k)
fun_grows c k = omega (arith, stmts_keep c.body last, type_grows c.result (sign_at symbols.OpenBrace c.begin ∷ stmts_text c.body last), params_keep c.params arrow, fun_bound_keep c.bound (sign_at symbols.OpenParen c.paren ∷ params_text c.params arrow))
  where
    last : List Lexed
    last = sign_at symbols.Return c.return_at ∷ name_at c.returned c.returned_at ∷ sign_at symbols.Semicolon c.semicolon ∷ sign_at symbols.CloseBrace c.end ∷ k

    arrow : List Lexed
    arrow = sign_at symbols.CloseParen c.paren_end ∷ sign_at symbols.Arrow c.arrow ∷ type_text c.result (sign_at symbols.OpenBrace c.begin ∷ stmts_text c.body last)

pub decl_grows : (c : DeclForm) (k : List Lexed) → length k < length (decl_text c k)
decl_grows (form_of.Alias p n name q body r) k = omega (arith, type_grows body (sign_at symbols.Semicolon r ∷ k))
decl_grows (form_of.Fun fun) k = fun_grows fun k
