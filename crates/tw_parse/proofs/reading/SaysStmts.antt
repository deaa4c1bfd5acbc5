-- What the readers of statements say.
use Rattle.std.proofs.Common.{◌≡◌, refl, ℕ, zero, suc, List, ◌∷◌, length, ap, sym, ◌∙◌, Bool, true, false}
use Rattle.tw_text.specs.declared.place.Pos.{Pos}
use Rattle.tw_syntax.specs.Names.{PathTree}
use Rattle.tw_syntax.specs.Terms.{RhsTree}
use Rattle.tw_syntax.specs.Statements as tree
use Rattle.tw_syntax.specs.Statements.{StmtTree, LetStmt}
use Rattle.tw_lex.specs.declared.symbol.Symbol.{Symbol}
use Rattle.tw_lex.specs.declared.symbol.Symbol.TheVariants as symbols
use Rattle.tw_lex.specs.Tokens.{Lexeme, Lexed, name_at, sign_at}
use Rattle.tw_parse.specs.Grammar.{PathForm, path_text, RhsForm, rhs_text}
use Rattle.tw_parse.specs.Statements as form
use Rattle.tw_parse.specs.Statements.{StmtForm, stmt_text, BlockForm, block_text, StmtsForm, stmts_text}
use Rattle.tw_parse.specs.Trees.{named, path_tree, rhs_tree, stmt_tree, block_place, block_tree, stmts_tree}
use Rattle.tw_parse.specs.reading.Steps.{Reader, leads, many_at}
use Rattle.tw_parse.specs.reading.Statements.{direction_at, rhs_end_at, let_at, exchange_at, swap_at, mem_swap_at, skip_at, chain, goes_before, block_with, block_stmt_with, else_with, if_with, with_with, plain_stmt_at, stmt_with, stmt_at}
use Rattle.tw_parse.proofs.tokens.Words.{tok}
use Rattle.tw_parse.proofs.reading.Says.{Says, says, says_ok, says_err, says_either, says_many, Got, Spells, says_place, first_at}
use Rattle.tw_parse.proofs.reading.SaysTypes.{says_mark, says_open, says_name}
use Rattle.tw_parse.proofs.reading.SaysPaths.{says_path}
use Rattle.tw_parse.proofs.reading.SaysRhs.{says_rhs}

abbrev direction_mark : Bool → Symbol
direction_mark true = symbols.Assign
direction_mark false = symbols.Arrow

record Directed (ts : List Lexed) (x : Bool × List Lexed) : Type 0 where
  pub at : Pos
  pub same : ts ≡ sign_at (direction_mark x.0) at ∷ x.1

record RhsEnd (ts : List Lexed) (x : RhsTree × List Lexed) : Type 0 where
  pub rhs : RhsForm
  pub semicolon : Pos
  pub same : ts ≡ rhs_text rhs (sign_at symbols.Semicolon semicolon ∷ x.1)
  pub value : x.0 ≡ rhs_tree rhs

record Exchanged (ts : List Lexed) (x : PathTree × List Lexed) : Type 0 where
  pub at : Pos
  pub path : PathForm
  pub semicolon : Pos
  pub same : ts ≡ sign_at symbols.Swap at ∷ path_text path (sign_at symbols.Semicolon semicolon ∷ x.1)
  pub value : x.0 ≡ path_tree path

says_direction : (ts : List Lexed) → Says (Directed ts) (direction_at ts)
unfolding direction_at
says_direction ts =
    says_either (leads symbols.Assign ts) (says (says_mark symbols.Assign ts) (λ gets p. says_ok (record { at = gets.0; same = p.same })))
    (says (says_mark symbols.Arrow ts) (λ arrow p. says_ok (record { at = arrow.0; same = p.same })))

says_rhs_end : (room : ℕ) (ts : List Lexed) → Says (RhsEnd ts) (rhs_end_at room ts)
unfolding rhs_end_at
says_rhs_end room ts =
    says (says_rhs room ts) (λ rhs c. says (says_mark symbols.Semicolon rhs.1) (λ end p. says_ok (record { rhs = c.form; semicolon = end.0; same = cc; value = c.value })))

let_got : (p n : Pos) (name : List ℕ) (ts us : List Lexed) (forward : Bool × List Lexed) (rhs : RhsTree × List Lexed)
    → ts ≡ sign_at symbols.Let p ∷ name_at name n ∷ us → Directed us forward → RhsEnd forward.1 rhs
    → Got stmt_text stmt_tree ts (LetStmt p forward.0 (named name n) rhs.0, rhs.1)
let_got p n name ts us (true, vs) rhs e d c = record { form = form.Let p n name d.at c.rhs c.semicolon; spelled = cc; value = cc }
let_got p n name ts us (false, vs) rhs e d c = record { form = form.Unlet p n name d.at c.rhs c.semicolon; spelled = cc; value = cc }

says_let : (room : ℕ) → Spells stmt_text stmt_tree (let_at room)
unfolding let_at
says_let room ts =
    says (says_mark symbols.Let ts) (λ at p. says (says_name at.1) (λ name q. says (says_direction name.1) (λ forward d. says (says_rhs_end room forward.1) (λ rhs c.
    says_ok (let_got at.0 name.0.at name.0.text ts name.1 forward rhs (cc) d c)))))

says_exchange : (ts : List Lexed) → Says (Exchanged ts) (exchange_at ts)
unfolding exchange_at
says_exchange ts =
    says (says_mark symbols.Swap ts) (λ exchange p. says (says_path exchange.1) (λ path c. says (says_mark symbols.Semicolon path.1) (λ end q.
    says_ok (record { at = exchange.0; path = c.form; semicolon = end.0; same = cc; value = c.value }))))

swap_value : (p : PathTree) (q : PathTree) (left right : PathForm) → p ≡ path_tree left → q ≡ path_tree right
    → tree.SwapStmt p.root.at p q ≡ tree.SwapStmt left.at (path_tree left) (path_tree right)
swap_value p q left right e f = rw (e, f) refl

says_swap : Spells stmt_text stmt_tree swap_at
unfolding swap_at
says_swap ts =
    says (says_path ts) (λ left c. says (says_exchange left.1) (λ right d.
    says_ok (record { form = form.Swap c.form d.at d.path d.semicolon; spelled = cc; value = swap_value left.0 right.0 c.form d.path c.value d.value })))

says_mem_swap : Spells stmt_text stmt_tree mem_swap_at
unfolding mem_swap_at
says_mem_swap ts =
    says (says_mark symbols.Star ts) (λ at p. says (says_path at.1) (λ pointer c. says (says_exchange pointer.1) (λ value d.
    says_ok (record { form = form.MemSwap at.0 c.form d.at d.path d.semicolon; spelled = cc; value = cc }))))

says_skip : Spells stmt_text stmt_tree skip_at
unfolding skip_at
says_skip ts = says (says_mark symbols.Skip ts) (λ at p. says (says_mark symbols.Semicolon at.1) (λ end q. says_ok (record { form = form.Skip at.0 end.0; spelled = cc; value = refl })))

-- statements up to their end
pub record Listed (ts : List Lexed) (x : List StmtTree × List Lexed) : Type 0 where
  pub form : StmtsForm
  pub same : ts ≡ stmts_text form x.1
  pub value : chain x.0 ≡ stmts_tree form

record Blocked (ts : List Lexed) (x : List StmtTree × List Lexed) : Type 0 where
  pub form : BlockForm
  pub same : ts ≡ block_text form x.1
  pub value : chain x.0 ≡ block_tree form

pub says_stmts : (goes : List Lexed → Bool) (inner : Reader StmtTree) → Spells stmt_text stmt_tree inner → (n : ℕ) (ts : List Lexed) → Says (Listed ts) (many_at goes inner n ts)
says_stmts goes inner spells n ts = says_many goes inner (Got stmt_text stmt_tree) Listed
    (λ us. record { form = form.NoStmts; same = refl; value = refl })
    (λ us x xs c d. record { form = form.Stmts c.form d.form; same = cc; value = cc }) spells n ts

says_block : (inner : Reader StmtTree) (room : ℕ) → Spells stmt_text stmt_tree inner → (ts : List Lexed) → Says (Blocked ts) (block_with inner room ts)
unfolding block_with
says_block inner room spells ts =
    says (says_open symbols.OpenBrace room ts) (λ begin p. says (says_stmts (goes_before symbols.CloseBrace) inner spells (length begin.1) begin.1) (λ stmts c. says (says_mark symbols.CloseBrace stmts.1) (λ close q.
    says_ok (record { form = form.Braces begin.0 c.form close.0; same = cc; value = c.value }))))

place_of_block : (c : BlockForm) (k us : List Lexed) (w : Lexeme) (at : Pos) → tok w at ∷ us ≡ block_text c k → at ≡ block_place c
place_of_block (form.Braces p stmts q) k us w at e = ap (first_at at) e

says_block_stmt : (inner : Reader StmtTree) (room : ℕ) → Spells stmt_text stmt_tree inner → Spells stmt_text stmt_tree (block_stmt_with inner room)
unfolding block_stmt_with
says_block_stmt inner room spells ts =
    says (says_place ts) (λ at p. says (says_block inner room spells ts) (λ block c.
    says_ok (block_got at block c (place_of_block c.form block.1 p.rest p.lexeme at (sym p.same ∙ c.same)))))
  where
    block_got : (at : Pos) (block : List StmtTree × List Lexed) (c : Blocked ts block) → at ≡ block_place c.form
        → Got stmt_text stmt_tree ts (tree.BlockStmt at (chain block.0), block.1)
    block_got at block c e = record { form = form.Block c.form; spelled = c.same; value = cc }

-- [ "else" block ]
data ElseForm : Type 0 where
  NoElse : ElseForm
  ElseBlock : (q : Pos) (other : BlockForm) → ElseForm

abbrev else_text : ElseForm → List Lexed → List Lexed
else_text NoElse k = k
else_text (ElseBlock q other) k = sign_at symbols.Else q ∷ block_text other k

abbrev else_tree : ElseForm → StmtTree
else_tree NoElse = tree.Nothing
else_tree (ElseBlock q other) = tree.Else q (block_tree other)

says_else : (inner : Reader StmtTree) (room : ℕ) → Spells stmt_text stmt_tree inner → Spells else_text else_tree (else_with inner room)
unfolding else_with
says_else inner room spells ts =
    says_either (leads symbols.Else ts) (says (says_mark symbols.Else ts) (λ at p. says (says_block inner room spells at.1) (λ block c.
    says_ok (record { form = ElseBlock at.0 c.form; spelled = cc; value = cc }))))
    (says_ok (record { form = NoElse; spelled = refl; value = refl }))

if_got : (p : Pos) (ts us : List Lexed) (cond : PathTree × List Lexed) (body : List StmtTree × List Lexed) (other : StmtTree) (k : List Lexed) → ts ≡ sign_at symbols.If p ∷ us
    → Got path_text path_tree us cond → Blocked cond.1 body → (e : ElseForm) → body.1 ≡ else_text e k → other ≡ else_tree e
    → Got stmt_text stmt_tree ts (tree.IfStmt p cond.0 (chain body.0) other, k)
if_got p ts us cond body other k e c d NoElse f g = record { form = form.If p c.form d.form; spelled = cc; value = cc }
if_got p ts us cond body other k e c d (ElseBlock q block) f g = record { form = form.IfElse p c.form d.form q block; spelled = cc; value = cc }

says_if : (inner : Reader StmtTree) (room : ℕ) → Spells stmt_text stmt_tree inner → Spells stmt_text stmt_tree (if_with inner room)
unfolding if_with
says_if inner room spells ts =
    says (says_mark symbols.If ts) (λ at p. says (says_path at.1) (λ cond c. says (says_block inner room spells cond.1) (λ body d. says (says_else inner room spells body.1) (λ other e.
    says_ok (if_got at.0 ts at.1 cond body other.0 other.1 p.same c d e.form e.spelled e.value)))))

says_with : (inner : Reader StmtTree) (room : ℕ) → Spells stmt_text stmt_tree inner → Spells stmt_text stmt_tree (with_with inner room)
unfolding with_with
says_with inner room spells ts =
    says (says_mark symbols.With ts) (λ at p. says (says_block inner room spells at.1) (λ setup c. says (says_mark symbols.Do setup.1) (λ mid q. says (says_block inner room spells mid.1) (λ work d.
    says_ok (record { form = form.With at.0 c.form mid.0 d.form; spelled = cc; value = cc })))))

says_plain_stmt : (room : ℕ) → Spells stmt_text stmt_tree (plain_stmt_at room)
unfolding plain_stmt_at
says_plain_stmt room ts =
    says_either (leads symbols.Let ts) (says_let room ts) (says_either (leads symbols.Star ts) (says_mem_swap ts) (says_either (leads symbols.Skip ts) (says_skip ts) (says_swap ts)))

says_stmt_with : (inner : Reader StmtTree) (room : ℕ) → Spells stmt_text stmt_tree inner → Spells stmt_text stmt_tree (stmt_with inner room)
unfolding stmt_with
says_stmt_with inner room spells ts =
    says_either (leads symbols.If ts) (says_if inner room spells ts) (says_either (leads symbols.With ts) (says_with inner room spells ts)
    (says_either (leads symbols.OpenBrace ts) (says_block_stmt inner room spells ts) (says_plain_stmt room ts)))

pub says_stmt : (room : ℕ) → Spells stmt_text stmt_tree (stmt_at room)
unfolding stmt_at
says_stmt zero ts = says_err
says_stmt (suc room) ts = says_stmt_with (stmt_at room) room (says_stmt room) ts
