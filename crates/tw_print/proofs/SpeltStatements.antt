-- The printed form of statements spells their tokens.
use Rattle.std.proofs.Common.{ℕ, zero, suc, List, ◌∷◌, ◌++◌, codes, refl}
use Rattle.tw_text.specs.declared.place.Pos.{Pos}
use Rattle.tw_lex.specs.declared.symbol.Symbol.TheVariants as symbols
use Rattle.tw_parse.specs.Grammar.{PathForm, path_text}
use Rattle.tw_parse.specs.Statements as form
use Rattle.tw_parse.specs.Statements.{StmtForm, stmt_text, StmtsForm, stmts_text}
use Rattle.tw_parse.specs.Trees.{path_tree, stmt_tree, stmts_tree}
use Rattle.tw_lex.specs.Tokens.{Lexed, sign_at}
use Rattle.tw_print.specs.Programs.{deeper, indent, line, swap_print, stmt_print}
use Rattle.tw_print.specs.Terms.{path_print}
use Rattle.tw_print.proofs.Spelling.{Edge, Clear, Spelt, ◌▹◌, spelt_none}
use Rattle.tw_print.proofs.SpeltMarks.{sign, name, space, newline}
use Rattle.tw_print.proofs.SpeltTerms.{path_spelt, rhs_spelt}

indent_spelt : {us : List Lexed} (depth : ℕ) → Spelt Clear Clear (indent depth) us us
indent_spelt zero = spelt_none
indent_spelt (suc depth) = (space ▹ space) ▹ indent_spelt depth

line_spelt : {b : Edge} {text : List ℕ} {ts us : List Lexed} (depth : ℕ) → Spelt Clear b text ts us → Spelt Clear Clear (line depth text) ts us
line_spelt depth s = indent_spelt depth ▹ s ▹ newline

swap_spelt : {us : List Lexed} (left : PathForm) (p : Pos) (right : PathForm) (q : Pos)
    → Spelt Clear Clear (swap_print (path_tree left) (path_tree right)) (path_text left (sign_at symbols.Swap p ∷ path_text right (sign_at symbols.Semicolon q ∷ us))) us
swap_spelt left p right q = path_spelt left ▹ (space ▹ sign symbols.Swap refl ▹ space) ▹ path_spelt right ▹ sign symbols.Semicolon refl

-- the line that opens a block, and the one that closes it
opening : {p : Pos} {us : List Lexed} (depth : ℕ) → Spelt Clear Clear (line depth (codes "{")) (sign_at symbols.OpenBrace p ∷ us) us
opening depth = line_spelt depth (sign symbols.OpenBrace refl)

closing : {p : Pos} {us : List Lexed} (depth : ℕ) → Spelt Clear Clear (line depth (codes "}")) (sign_at symbols.CloseBrace p ∷ us) us
closing depth = line_spelt depth (sign symbols.CloseBrace refl)

condition : {p : Pos} {us : List Lexed} (depth : ℕ) (cond : PathForm) (q : Pos)
    → Spelt Clear Clear (line depth (codes "if " ++ (path_print (path_tree cond) ++ codes " {"))) (sign_at symbols.If p ∷ path_text cond (sign_at symbols.OpenBrace q ∷ us)) us
condition depth cond q = line_spelt depth ((sign symbols.If refl ▹ space) ▹ path_spelt cond ▹ space ▹ sign symbols.OpenBrace refl)

mutual
  stmt_spelt : {us : List Lexed} (depth : ℕ) (f : StmtForm) → Spelt Clear Clear (stmt_print depth (stmt_tree f)) (stmt_text f us) us
  stmt_spelt depth (form.Let p n text q rhs r) =
      line_spelt depth ((sign symbols.Let refl ▹ space) ▹ name text refl ▹ (space ▹ sign symbols.Assign refl ▹ space) ▹ rhs_spelt rhs ▹ sign symbols.Semicolon refl)
  stmt_spelt depth (form.Unlet p n text q rhs r) =
      line_spelt depth ((sign symbols.Let refl ▹ space) ▹ name text refl ▹ (space ▹ sign symbols.Arrow refl ▹ space) ▹ rhs_spelt rhs ▹ sign symbols.Semicolon refl)
  stmt_spelt depth (form.Swap left p right q) = line_spelt depth (swap_spelt left p right q)
  stmt_spelt depth (form.MemSwap p left q right r) = line_spelt depth (sign symbols.Star refl ▹ swap_spelt left q right r)
  stmt_spelt depth (form.If p cond (form.Braces b stmts e)) = condition depth cond b ▹ stmts_spelt (deeper depth) stmts ▹ closing depth
  stmt_spelt depth (form.IfElse p cond (form.Braces b stmts e) q (form.Braces c others d)) =
      condition depth cond b ▹ stmts_spelt (deeper depth) stmts
      ▹ (line_spelt depth (sign symbols.CloseBrace refl ▹ space ▹ sign symbols.Else refl ▹ space ▹ sign symbols.OpenBrace refl) ▹ stmts_spelt (deeper depth) others) ▹ closing depth
  stmt_spelt depth (form.With p (form.Braces b setup e) q (form.Braces c work d)) =
      line_spelt depth (sign symbols.With refl ▹ space ▹ sign symbols.OpenBrace refl) ▹ stmts_spelt (deeper depth) setup
      ▹ line_spelt depth (sign symbols.CloseBrace refl ▹ space ▹ sign symbols.Do refl ▹ space ▹ sign symbols.OpenBrace refl) ▹ stmts_spelt (deeper depth) work ▹ closing depth
  stmt_spelt depth (form.Block (form.Braces b stmts e)) = opening depth ▹ stmts_spelt (deeper depth) stmts ▹ closing depth
  stmt_spelt depth (form.Skip p q) = line_spelt depth (sign symbols.Skip refl ▹ sign symbols.Semicolon refl)

  pub stmts_spelt : {us : List Lexed} (depth : ℕ) (f : StmtsForm) → Spelt Clear Clear (stmt_print depth (stmts_tree f)) (stmts_text f us) us
  stmts_spelt depth form.NoStmts = spelt_none
  stmts_spelt depth (form.Stmts first rest) = stmt_spelt depth first ▹ stmts_spelt depth rest
