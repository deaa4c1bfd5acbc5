-- The grammar of statements, functions and programs, as Grammar has that of types and expressions.
use Rattle.std.specs.Prelude.{ℕ, List, ◌∷◌}
use Rattle.tw_text.specs.declared.place.Pos.{Pos}
use Rattle.tw_lex.specs.declared.symbol.Symbol.TheVariants as symbols
use Rattle.tw_lex.specs.Tokens.{Lexed, name_at as a_name, sign_at}
use Rattle.tw_parse.specs.Grammar.{TypeForm, type_text, PathForm, path_text, RhsForm, rhs_text}

mutual
  -- stmt = "let" name ( "<-" | "->" ) rhs ";" | path "<->" path ";" | "*" path "<->" path ";"
  --      | "if" path block [ "else" block ] | "with" block "do" block | block | "skip" ";"
  pub data StmtForm : Type 0 where
    Let : (p n : Pos) (name : List ℕ) (q : Pos) (rhs : RhsForm) (r : Pos) → StmtForm
    Unlet : (p n : Pos) (name : List ℕ) (q : Pos) (rhs : RhsForm) (r : Pos) → StmtForm
    Swap : (left : PathForm) (p : Pos) (right : PathForm) (q : Pos) → StmtForm
    MemSwap : (p : Pos) (left : PathForm) (q : Pos) (right : PathForm) (r : Pos) → StmtForm
    If : (p : Pos) (cond : PathForm) (body : BlockForm) → StmtForm
    IfElse : (p : Pos) (cond : PathForm) (body : BlockForm) (q : Pos) (other : BlockForm) → StmtForm
    With : (p : Pos) (setup : BlockForm) (q : Pos) (work : BlockForm) → StmtForm
    Block : (block : BlockForm) → StmtForm
    Skip : (p q : Pos) → StmtForm

  -- block = "{" { stmt } "}"
  pub data BlockForm : Type 0 where
    Braces : (p : Pos) (stmts : StmtsForm) (q : Pos) → BlockForm

  -- { stmt }
  pub data StmtsForm : Type 0 where
    NoStmts : StmtsForm
    Stmts : (first : StmtForm) (rest : StmtsForm) → StmtsForm

abbrev mutual
  pub stmt_text : StmtForm → List Lexed → List Lexed
  stmt_text (Let p n name q rhs r) k = sign_at symbols.Let p ∷ a_name name n ∷ sign_at symbols.Assign q ∷ rhs_text rhs (sign_at symbols.Semicolon r ∷ k)
  stmt_text (Unlet p n name q rhs r) k = sign_at symbols.Let p ∷ a_name name n ∷ sign_at symbols.Arrow q ∷ rhs_text rhs (sign_at symbols.Semicolon r ∷ k)
  stmt_text (Swap left p right q) k = path_text left (sign_at symbols.Swap p ∷ path_text right (sign_at symbols.Semicolon q ∷ k))
  stmt_text (MemSwap p left q right r) k =
      sign_at symbols.Star p ∷ path_text left (sign_at symbols.Swap q ∷ path_text right (sign_at symbols.Semicolon r ∷ k))
  stmt_text (If p cond body) k = sign_at symbols.If p ∷ path_text cond (block_text body k)
  stmt_text (IfElse p cond body q other) k = sign_at symbols.If p ∷ path_text cond (block_text body (sign_at symbols.Else q ∷ block_text other k))
  stmt_text (With p setup q work) k = sign_at symbols.With p ∷ block_text setup (sign_at symbols.Do q ∷ block_text work k)
  stmt_text (Block block) k = block_text block k
  stmt_text (Skip p q) k = sign_at symbols.Skip p ∷ sign_at symbols.Semicolon q ∷ k

  pub block_text : BlockForm → List Lexed → List Lexed
  block_text (Braces p stmts q) k = sign_at symbols.OpenBrace p ∷ stmts_text stmts (sign_at symbols.CloseBrace q ∷ k)

  pub stmts_text : StmtsForm → List Lexed → List Lexed
  stmts_text NoStmts k = k
  stmts_text (Stmts first rest) k = stmt_text first (stmts_text rest k)

-- param = name ":" type
pub record ParamForm : Type 0 where
  pub at : Pos
  pub name : List ℕ
  pub colon : Pos
  pub ty : TypeForm

abbrev pub param_text : ParamForm → List Lexed → List Lexed
param_text param k = a_name param.name param.at ∷ sign_at symbols.Colon param.colon ∷ type_text param.ty k

-- { "," param }
pub data MoreParamsForm : Type 0 where
  NoMoreParams : MoreParamsForm
  MoreParams : (p : Pos) (param : ParamForm) (rest : MoreParamsForm) → MoreParamsForm

-- [ param { "," param } ]
pub data ParamsForm : Type 0 where
  NoParams : ParamsForm
  Params : (param : ParamForm) (rest : MoreParamsForm) → ParamsForm

abbrev pub more_params_text : MoreParamsForm → List Lexed → List Lexed
more_params_text NoMoreParams k = k
more_params_text (MoreParams p param rest) k = sign_at symbols.Comma p ∷ param_text param (more_params_text rest k)

abbrev pub params_text : ParamsForm → List Lexed → List Lexed
params_text NoParams k = k
params_text (Params param rest) k = param_text param (more_params_text rest k)

-- [ "[" name "]" ]
pub data FunBoundForm : Type 0 where
  NoFunBound : FunBoundForm
  FunBound : (p n : Pos) (name : List ℕ) (q : Pos) → FunBoundForm

abbrev pub fun_bound_text : FunBoundForm → List Lexed → List Lexed
fun_bound_text NoFunBound k = k
fun_bound_text (FunBound p n name q) k = sign_at symbols.OpenBracket p ∷ a_name name n ∷ sign_at symbols.CloseBracket q ∷ k

-- fun = "fun" name [ "[" name "]" ] "(" [ param { "," param } ] ")" "->" type "{" { stmt } "return" name ";" "}"
pub record FunForm : Type 0 where
  pub at : Pos
  pub name_at : Pos
  pub name : List ℕ
  pub bound : FunBoundForm
  pub paren : Pos
  pub params : ParamsForm
  pub paren_end : Pos
  pub arrow : Pos
  pub result : TypeForm
  pub begin : Pos
  pub body : StmtsForm
  pub return_at : Pos
  pub returned_at : Pos
  pub returned : List ℕ
  pub semicolon : Pos
  pub end : Pos

abbrev pub fun_text : FunForm → List Lexed → List Lexed
fun_text fun k =
    sign_at symbols.Fun fun.at ∷ a_name fun.name fun.name_at ∷ fun_bound_text fun.bound (sign_at symbols.OpenParen fun.paren ∷ params_text fun.params (
    sign_at symbols.CloseParen fun.paren_end ∷ sign_at symbols.Arrow fun.arrow ∷ type_text fun.result (sign_at symbols.OpenBrace fun.begin ∷ stmts_text fun.body (
    sign_at symbols.Return fun.return_at ∷ a_name fun.returned fun.returned_at ∷ sign_at symbols.Semicolon fun.semicolon ∷ sign_at symbols.CloseBrace fun.end ∷ k))))

-- decl = "type" name "=" type ";" | fun
pub data DeclForm : Type 0 where
  Alias : (p n : Pos) (name : List ℕ) (q : Pos) (body : TypeForm) (r : Pos) → DeclForm
  Fun : (fun : FunForm) → DeclForm

abbrev pub decl_text : DeclForm → List Lexed → List Lexed
decl_text (Alias p n name q body r) k = sign_at symbols.Type p ∷ a_name name n ∷ sign_at symbols.Define q ∷ type_text body (sign_at symbols.Semicolon r ∷ k)
decl_text (Fun fun) k = fun_text fun k

-- program = decl { decl }
pub data ProgramForm : Type 0 where
  Last : (decl : DeclForm) → ProgramForm
  Decls : (decl : DeclForm) (rest : ProgramForm) → ProgramForm

abbrev pub program_text : ProgramForm → List Lexed → List Lexed
program_text (Last decl) k = decl_text decl k
program_text (Decls decl rest) k = decl_text decl (program_text rest k)
