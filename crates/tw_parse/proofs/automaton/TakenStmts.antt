-- The automaton takes the text of each statement and block.
use Rattle.std.proofs.Common.{◌≡◌, refl, List, ◌∷◌, ◌∙◌}
use Rattle.tw_text.specs.declared.place.Pos.{Pos}
use Rattle.tw_lex.specs.declared.symbol.Symbol.TheVariants as symbols
use Rattle.tw_lex.specs.Tokens.{Lexed, sign_at}
use Rattle.tw_parse.specs.Grammar.{PathForm, path_text}
use Rattle.tw_parse.specs.Statements.{StmtForm, stmt_text, BlockForm, block_text, StmtsForm, stmts_text}
use Rattle.tw_parse.proofs.automaton.Transitions.{Expected, TheMark, Path', Steps', Stmt', Stmts', ElseTail', Block', Body'}
use Rattle.tw_parse.proofs.automaton.Walks.{walk}
use Rattle.tw_parse.proofs.automaton.TakenExprs.{IsEmptyBefore, EndsRhs, takes_path, takes_rhs}

-- a list of statements, up to what ends it, goes on with each statement
abbrev pub Absorbs : Expected → Type 0
Absorbs n = (c : StmtForm) (k : List Lexed) (st : List Expected) → walk (stmt_text c k) (n ∷ st) ≡ walk (stmt_text c k) (Stmt' ∷ n ∷ st)

pub stmts_absorb : Absorbs Stmts'
stmts_absorb (StmtForm.Block (BlockForm.Braces p stmts q)) k st = refl
stmts_absorb c k st = refl

pub body_absorbs : Absorbs Body'
body_absorbs (StmtForm.Block (BlockForm.Braces p stmts q)) k st = refl
body_absorbs c k st = refl

no_else : (c : StmtForm) (k : List Lexed) → IsEmptyBefore ElseTail' (stmt_text c k)
no_else (StmtForm.Block (BlockForm.Braces p stmts q)) k st = refl
no_else c k st = refl

no_else_in : (c : StmtsForm) (k : List Lexed) → IsEmptyBefore ElseTail' k → IsEmptyBefore ElseTail' (stmts_text c k)
no_else_in StmtsForm.NoStmts k ends = ends
no_else_in (StmtsForm.Stmts first rest) k ends = no_else first (stmts_text rest k)

block_ends : (c : BlockForm) (k : List Lexed) → IsEmptyBefore Steps' (block_text c k)
block_ends (BlockForm.Braces p stmts q) k st = refl

semicolon_ends : (p : Pos) (k : List Lexed) → EndsRhs (sign_at symbols.Semicolon p ∷ k)
semicolon_ends p k = record { path = λ st. refl; op = λ st. refl; name = λ st. refl }

takes_swap : (left : PathForm) (p : Pos) (right : PathForm) (q : Pos) (k : List Lexed) (st : List Expected)
    → walk (path_text left (sign_at symbols.Swap p ∷ path_text right (sign_at symbols.Semicolon q ∷ k))) (Path' ∷ TheMark symbols.Swap refl ∷ Path' ∷ TheMark symbols.Semicolon refl ∷ st) ≡ walk k st
takes_swap left p right q k st = takes_path left _ _ (λ s. refl) ∙ takes_path right (sign_at symbols.Semicolon q ∷ k) (TheMark symbols.Semicolon refl ∷ st) (λ s. refl)

mutual
  pub takes_stmt : (c : StmtForm) (k : List Lexed) (st : List Expected) → IsEmptyBefore ElseTail' k → walk (stmt_text c k) (Stmt' ∷ st) ≡ walk k st
  takes_stmt (StmtForm.Let p n name q rhs r) k st ends = takes_rhs rhs (sign_at symbols.Semicolon r ∷ k) (TheMark symbols.Semicolon refl ∷ st) (semicolon_ends r k)
  takes_stmt (StmtForm.Unlet p n name q rhs r) k st ends = takes_rhs rhs (sign_at symbols.Semicolon r ∷ k) (TheMark symbols.Semicolon refl ∷ st) (semicolon_ends r k)
  takes_stmt (StmtForm.Swap left p right q) k st ends = takes_swap left p right q k st
  takes_stmt (StmtForm.MemSwap p left q right r) k st ends = takes_swap left q right r k st
  takes_stmt (StmtForm.If p cond body) k st ends =
      takes_path cond (block_text body k) (Block' ∷ ElseTail' ∷ st) (block_ends body k) ∙ (takes_block body k (ElseTail' ∷ st) ∙ ends st)
  takes_stmt (StmtForm.IfElse p cond body q other) k st ends =
      takes_path cond (block_text body (sign_at symbols.Else q ∷ block_text other k)) (Block' ∷ ElseTail' ∷ st) (block_ends body _)
      ∙ (takes_block body (sign_at symbols.Else q ∷ block_text other k) (ElseTail' ∷ st) ∙ takes_block other k st)
  takes_stmt (StmtForm.With p setup q work) k st ends =
      takes_block setup (sign_at symbols.Do q ∷ block_text work k) (TheMark symbols.Do refl ∷ Block' ∷ st) ∙ takes_block work k st
  takes_stmt (StmtForm.Block (BlockForm.Braces p stmts q)) k st ends = takes_stmts stmts Stmts' (sign_at symbols.CloseBrace q ∷ k) st stmts_absorb (λ s. refl)
  takes_stmt (StmtForm.Skip p q) k st ends = refl

  pub takes_block : (c : BlockForm) (k : List Lexed) (st : List Expected) → walk (block_text c k) (Block' ∷ st) ≡ walk k st
  takes_block (BlockForm.Braces p stmts q) k st = takes_stmts stmts Stmts' (sign_at symbols.CloseBrace q ∷ k) st stmts_absorb (λ s. refl)

  pub takes_stmts : (c : StmtsForm) (n : Expected) (k : List Lexed) (st : List Expected) → Absorbs n → IsEmptyBefore ElseTail' k
      → walk (stmts_text c k) (n ∷ st) ≡ walk k (n ∷ st)
  takes_stmts StmtsForm.NoStmts n k st absorbs ends = refl
  takes_stmts (StmtsForm.Stmts first rest) n k st absorbs ends =
      absorbs first (stmts_text rest k) st ∙ (takes_stmt first (stmts_text rest k) (n ∷ st) (no_else_in rest k ends) ∙ takes_stmts rest n k st absorbs ends)
