-- What statements, functions, declarations and programs take from the tokens.
use Rattle.tw_parse.specs.Trees.{named}
use Rattle.std.specs.Prelude.{ℕ, zero, suc, Bool, true, false, not, if◌then◌else◌, List, [], ◌∷◌, Option, Some, None, Result, Ok, Err, ◌≡◌, codes, refl}
use Rattle.tw_text.specs.declared.refusal.Counted.TheVariants as counted
use Rattle.tw_text.specs.Limits.{limit_of}
use Rattle.tw_text.specs.declared.place.Pos.{Pos}
use Rattle.tw_lex.specs.declared.symbol.Symbol.{Symbol}
use Rattle.tw_lex.specs.declared.symbol.Symbol.TheVariants as symbols
use Rattle.tw_parse.specs.declared.error.Rejection.{Rejection}
use Rattle.tw_parse.specs.declared.error.Rejection.TheVariants.{Syntax, Nesting}
use Rattle.tw_syntax.specs.Names.{NameTree, PathTree}
use Rattle.tw_syntax.specs.Types.{WrittenTree, UintType}
use Rattle.tw_syntax.specs.Terms.{RhsTree}
use Rattle.tw_syntax.specs.Statements.{StmtTree, Nothing, Then, Else, LetStmt, SwapStmt, MemSwapStmt, IfStmt, WithStmt, BlockStmt, SkipStmt}
use Rattle.tw_syntax.specs.Programs.{ParamTree, FunTree, AliasTree, DeclTree, AliasDecl, FunDecl, ProgramTree}
use Rattle.tw_lex.specs.Tokens.{Lexed, name_at, sign_at}
use Rattle.tw_parse.specs.reading.Steps.{Reader, ◌>>=◌, leads, leads_name, place_at, take_symbol, take_open, bracketed_with, take_name, all_at, many_at}
use Rattle.tw_parse.specs.reading.Terms.{type_at, path_at, rhs_at, type_with, plain_type_at}

-- "<-", which is true, or "->", which is false
unfoldable pub direction_at : Reader Bool
direction_at ts = if leads symbols.Assign ts then (do
  gets ← take_symbol symbols.Assign ts
  Ok (true, gets.1))
    else (do
      arrow ← take_symbol symbols.Arrow ts
      Ok (false, arrow.1))

-- rhs ";"
unfoldable pub rhs_end_at : ℕ → Reader RhsTree
rhs_end_at room ts = do
  rhs ← rhs_at room ts
  end ← take_symbol symbols.Semicolon rhs.1
  Ok (rhs.0, end.1)

-- "let" name ( "<-" | "->" ) rhs ";"
unfoldable pub let_at : ℕ → Reader StmtTree
let_at room ts = do
  at ← take_symbol symbols.Let ts
  name ← take_name at.1
  forward ← direction_at name.1
  rhs ← rhs_end_at room forward.1
  Ok (LetStmt at.0 forward.0 name.0 rhs.0, rhs.1)

-- "<->" path ";"
unfoldable pub exchange_at : Reader PathTree
exchange_at ts = do
  exchange ← take_symbol symbols.Swap ts
  path ← path_at exchange.1
  end ← take_symbol symbols.Semicolon path.1
  Ok (path.0, end.1)

-- path "<->" path ";"
unfoldable pub swap_at : Reader StmtTree
swap_at ts = do
  left ← path_at ts
  right ← exchange_at left.1
  Ok (SwapStmt left.0.root.at left.0 right.0, right.1)

-- "*" path "<->" path ";"
unfoldable pub mem_swap_at : Reader StmtTree
mem_swap_at ts = do
  at ← take_symbol symbols.Star ts
  pointer ← path_at at.1
  value ← exchange_at pointer.1
  Ok (MemSwapStmt at.0 pointer.0 value.0, value.1)

-- "skip" ";"
unfoldable pub skip_at : Reader StmtTree
skip_at ts = do
  at ← take_symbol symbols.Skip ts
  end ← take_symbol symbols.Semicolon at.1
  Ok (SkipStmt at.0, end.1)

-- statements as one tree
abbrev pub chain : List StmtTree → StmtTree
chain [] = Nothing
chain (first ∷ rest) = Then first (chain rest)

-- statements go on up to this mark: `}` in a block, `return` in a function
abbrev pub goes_before : Symbol → List Lexed → Bool
goes_before end ts = not (leads end ts)

-- "{" { stmt } "}"
unfoldable pub block_with : Reader StmtTree → ℕ → Reader (List StmtTree)
block_with inner room ts = do
  begin ← take_open symbols.OpenBrace room ts
  stmts ← all_at (goes_before symbols.CloseBrace) inner begin.1
  close ← take_symbol symbols.CloseBrace stmts.1
  Ok (stmts.0, close.1)

unfoldable pub block_stmt_with : Reader StmtTree → ℕ → Reader StmtTree
block_stmt_with inner room ts = do
  at ← place_at ts
  block ← block_with inner room ts
  Ok (BlockStmt at (chain block.0), block.1)

-- [ "else" block ]
unfoldable pub else_with : Reader StmtTree → ℕ → Reader StmtTree
else_with inner room ts = if leads symbols.Else ts then (do
  at ← take_symbol symbols.Else ts
  block ← block_with inner room at.1
  Ok (Else at.0 (chain block.0), block.1)) else Ok (Nothing, ts)

-- "if" path block [ "else" block ]
unfoldable pub if_with : Reader StmtTree → ℕ → Reader StmtTree
if_with inner room ts = do
  at ← take_symbol symbols.If ts
  cond ← path_at at.1
  body ← block_with inner room cond.1
  other ← else_with inner room body.1
  Ok (IfStmt at.0 cond.0 (chain body.0) other.0, other.1)

-- "with" block "do" block
unfoldable pub with_with : Reader StmtTree → ℕ → Reader StmtTree
with_with inner room ts = do
  at ← take_symbol symbols.With ts
  setup ← block_with inner room at.1
  mid ← take_symbol symbols.Do setup.1
  work ← block_with inner room mid.1
  Ok (WithStmt at.0 (chain setup.0) (chain work.0), work.1)

-- the statements that hold no others
unfoldable pub plain_stmt_at : ℕ → Reader StmtTree
plain_stmt_at room ts = if leads symbols.Let ts then let_at room ts
    else if leads symbols.Star ts then mem_swap_at ts
    else if leads symbols.Skip ts then skip_at ts
    else swap_at ts

unfoldable pub stmt_with : Reader StmtTree → ℕ → Reader StmtTree
stmt_with inner room ts = if leads symbols.If ts then if_with inner room ts
    else if leads symbols.With ts then with_with inner room ts
    else if leads symbols.OpenBrace ts then block_stmt_with inner room ts
    else plain_stmt_at room ts

-- a statement; one more than the room is given, so that statements in brackets have it
unfoldable pub stmt_at : ℕ → Reader StmtTree
stmt_at zero ts = Err (Nesting 0)
stmt_at (suc room) ts = stmt_with (stmt_at room) room ts

-- name ":" type
unfoldable pub param_with : Reader WrittenTree → Reader ParamTree
param_with inner ts = do
  name ← take_name ts
  colon ← take_symbol symbols.Colon name.1
  ty ← inner colon.1
  Ok (record { name = name.0; ty = ty.0 }, ty.1)

-- "," param
unfoldable pub comma_param_with : Reader WrittenTree → Reader ParamTree
comma_param_with inner ts = do
  comma ← take_symbol symbols.Comma ts
  param_with inner comma.1

-- [ param { "," param } ]
unfoldable pub param_list_with : Reader WrittenTree → Reader (List ParamTree)
param_list_with inner ts = if leads_name ts then (do
  first ← param_with inner ts
  more ← all_at (leads symbols.Comma) (comma_param_with inner) first.1
  Ok (first.0 ∷ more.0, more.1)) else Ok ([], ts)

-- "(" [ param { "," param } ] ")"
unfoldable pub params_at : ℕ → Reader (List ParamTree)
params_at room ts = bracketed_with symbols.OpenParen symbols.CloseParen (param_list_with (type_at room)) room ts

-- [ "[" name "]" ]
unfoldable pub fun_bound_at : Reader (Option NameTree)
fun_bound_at ts = if leads symbols.OpenBracket ts then (do
  begin ← take_symbol symbols.OpenBracket ts
  name ← take_name begin.1
  close ← take_symbol symbols.CloseBracket name.1
  Ok (Some name.0, close.1)) else Ok (None, ts)

-- a function's name and bound
pub record Title : Type 0 where
  pub name : NameTree
  pub bound : Option NameTree

-- a function's parameters and the type of its result
pub record Interface : Type 0 where
  pub params : List ParamTree
  pub result : WrittenTree

-- the end of a function's body
pub record Return : Type 0 where
  pub at : Pos
  pub name : NameTree

-- a function's body
pub record Body : Type 0 where
  pub stmts : List StmtTree
  pub last : Return

-- "fun" name [ "[" name "]" ]
unfoldable pub title_at : Reader Title
title_at ts = do
  at ← take_symbol symbols.Fun ts
  name ← take_name at.1
  bound ← fun_bound_at name.1
  Ok (record { name = name.0; bound = bound.0 }, bound.1)

-- "(" [ param { "," param } ] ")" "->" type
unfoldable pub interface_at : ℕ → Reader Interface
interface_at room ts = do
  params ← params_at room ts
  arrow ← take_symbol symbols.Arrow params.1
  result ← type_at (suc room) arrow.1
  Ok (record { params = params.0; result = result.0 }, result.1)

-- "return" name ";"
unfoldable pub return_at : Reader Return
return_at ts = do
  at ← take_symbol symbols.Return ts
  name ← take_name at.1
  end ← take_symbol symbols.Semicolon name.1
  Ok (record { at = at.0; name = name.0 }, end.1)

-- "{" { stmt } "return" name ";" "}"
unfoldable pub body_at : ℕ → Reader Body
body_at room ts = do
  begin ← take_open symbols.OpenBrace room ts
  stmts ← all_at (goes_before symbols.Return) (stmt_at room) begin.1
  last ← return_at stmts.1
  close ← take_symbol symbols.CloseBrace last.1
  Ok (record { stmts = stmts.0; last = last.0 }, close.1)

abbrev pub fun_from : Title → Interface → Body → FunTree
fun_from title interface body = record {
  name = title.name;
  bound = title.bound;
  params = interface.params;
  result = interface.result;
  body = chain body.stmts;
  return_at = body.last.at;
  returned = body.last.name;
}

-- "fun" name [ "[" name "]" ] "(" [ param { "," param } ] ")" "->" type "{" { stmt } "return" name ";" "}"
unfoldable pub fun_at : ℕ → Reader FunTree
fun_at room ts = do
  title ← title_at ts
  interface ← interface_at room title.1
  body ← body_at room interface.1
  Ok (fun_from title.0 interface.0 body.0, body.1)

-- type ";"
unfoldable pub type_end_at : ℕ → Reader WrittenTree
type_end_at room ts = do
  body ← type_at (suc room) ts
  end ← take_symbol symbols.Semicolon body.1
  Ok (body.0, end.1)

-- "type" name "=" type ";"
unfoldable pub alias_at : ℕ → Reader AliasTree
alias_at room ts = do
  at ← take_symbol symbols.Type ts
  name ← take_name at.1
  is ← take_symbol symbols.Define name.1
  body ← type_end_at room is.1
  Ok (record { name = name.0; body = body.0 }, body.1)

unfoldable pub decl_at : ℕ → Reader DeclTree
decl_at room ts = if leads symbols.Type ts then (do
  alias ← alias_at room ts
  Ok (AliasDecl alias.0, alias.1))
    else (do
      fun ← fun_at room ts
      Ok (FunDecl fun.0, fun.1))

-- whether a token is left
abbrev pub is_more : List Lexed → Bool
is_more [] = false
is_more (t ∷ ts) = true

-- decl { decl }, up to the end
unfoldable pub program_at : ℕ → List Lexed → Result ProgramTree Rejection
program_at room ts = do
  first ← decl_at room ts
  more ← all_at is_more (decl_at room) first.1
  Ok (record { decls = first.0 ∷ more.0 })

-- a program, in which brackets may be open up to their limit
abbrev pub whole_at : List Lexed → Result ProgramTree Rejection
whole_at ts = program_at (limit_of counted.Nesting) ts

pub stmt_at-block : (p q r s : Pos) → stmt_at 2 (sign_at symbols.OpenBrace p ∷ sign_at symbols.Skip q ∷ sign_at symbols.Semicolon r ∷ sign_at symbols.CloseBrace s ∷ [])
    ≡ Ok (BlockStmt p (Then (SkipStmt q) Nothing), [])
unfolding stmt_at stmt_with block_stmt_with block_with plain_stmt_at skip_at many_at
stmt_at-block p q r s = refl

pub stmt_at-full : (p : Pos) → stmt_at 1 (sign_at symbols.OpenBrace p ∷ []) ≡ Err (Nesting 1)
unfolding stmt_at stmt_with block_stmt_with block_with
stmt_at-full p = refl

pub whole_at-nothing : whole_at [] ≡ Err (Syntax 0)
unfolding program_at decl_at fun_at title_at
whole_at-nothing = refl

pub whole_at-alias : (p q r s t : Pos) → whole_at (sign_at symbols.Type p ∷ name_at (codes "t") q ∷ sign_at symbols.Define r ∷ sign_at symbols.Uint s ∷ sign_at symbols.Semicolon t ∷ [])
    ≡ Ok (record { decls = AliasDecl (record { name = named (codes "t") q; body = UintType s }) ∷ [] })
unfolding program_at decl_at alias_at type_end_at type_at type_with plain_type_at many_at
whole_at-alias p q r s t = refl
