-- The automaton follows the readers of statements.
use Rattle.std.proofs.Common.{refl, ℕ, zero, suc, List, [], ◌∷◌}
use Rattle.std.proofs.Math.Dec.{eqb-suc-zero}
use Rattle.tw_text.specs.declared.place.Pos.{Pos}
use Rattle.tw_syntax.specs.Statements.{StmtTree}
use Rattle.tw_lex.specs.declared.symbol.Symbol.TheVariants as symbols
use Rattle.tw_lex.specs.Tokens.{Lexeme, Name, Sign, Lexed}
use Rattle.tw_parse.specs.reading.Steps.{Reader, all_at}
use Rattle.tw_parse.specs.reading.Terms.{path_at}
use Rattle.tw_parse.specs.reading.Statements.{direction_at, rhs_end_at, let_at, exchange_at, swap_at, mem_swap_at, skip_at, goes_before, block_with, block_stmt_with, else_with, if_with, with_with, plain_stmt_at, stmt_with, stmt_at}
use Rattle.tw_parse.proofs.automaton.Transitions.{Expected, TheMark, Name', Path', Rhs', Stmt', LetArrow', Stmts', ElseTail', Block', Body', run}
use Rattle.tw_parse.proofs.tokens.Words.{tok}
use Rattle.tw_parse.proofs.reading.Runs.{follow, Runs, Reads, ReadsAt, Inside, bind, done}
use Rattle.tw_parse.proofs.reading.RunsTypes.{runs_mark, runs_name}
use Rattle.tw_parse.proofs.reading.RunsLists.{Turn, runs_all}
use Rattle.tw_parse.proofs.reading.RunsPaths.{runs_path}
use Rattle.tw_parse.proofs.reading.RunsRhs.{runs_rhs}
use Rattle.tw_parse.proofs.reading.Says.{Says, Shorter, says_shorter}
use Rattle.tw_parse.proofs.forms.Grows.{stmt_grows}
use Rattle.tw_parse.proofs.reading.SaysStmts.{says_stmt}

-- each statement that is read takes a token at least
abbrev Shortens : Reader StmtTree → Type 0
Shortens inner = (ts : List Lexed) → Says (Shorter ts) (inner ts)

runs_direction_at : (room : ℕ) (w : Lexeme) → ReadsAt LetArrow' direction_at room w
unfolding direction_at follow
runs_direction_at room (Sign symbols.Assign) p ts st = record { same = refl }
runs_direction_at room w p ts st = record { same = refl }

runs_direction : (room : ℕ) → Reads LetArrow' direction_at room
unfolding direction_at follow
runs_direction room [] st = record { same = refl }
runs_direction room (t ∷ ts) st = runs_direction_at room t.lexeme t.at ts st

runs_rhs_end : (room : ℕ) (ts : List Lexed) (st : List Expected) → Runs (run ts room (Rhs' ∷ TheMark symbols.Semicolon refl ∷ st)) (rhs_end_at room ts) room st
unfolding rhs_end_at
runs_rhs_end room ts st = bind (runs_rhs room ts _) (λ rhs. bind (runs_mark symbols.Semicolon refl room rhs.1 st) (λ end. done))

runs_exchange : (room : ℕ) (ts : List Lexed) (st : List Expected)
    → Runs (run ts room (TheMark symbols.Swap refl ∷ Path' ∷ TheMark symbols.Semicolon refl ∷ st)) (exchange_at ts) room st
unfolding exchange_at
runs_exchange room ts st =
    bind (runs_mark symbols.Swap refl room ts _) (λ exchange. bind (runs_path room exchange.1 _) (λ path. bind (runs_mark symbols.Semicolon refl room path.1 st) (λ end. done)))

-- one turn of the statements of a block, or of a function
block_turn_at : (inner : Reader StmtTree) (room : ℕ) → Reads Stmt' inner room → (w : Lexeme) (p : Pos) (ts : List Lexed) (st : List Expected)
    → Turn inner room (Stmts' ∷ st) (TheMark symbols.CloseBrace refl ∷ st) (goes_before symbols.CloseBrace (tok w p ∷ ts)) (tok w p ∷ ts)
block_turn_at inner room reads (Sign symbols.CloseBrace) p ts st = refl
block_turn_at inner room reads w p ts st = reads (tok w p ∷ ts) (Stmts' ∷ st)

block_turn : (inner : Reader StmtTree) (room : ℕ) → Reads Stmt' inner room → (st : List Expected) (ts : List Lexed)
    → Turn inner room (Stmts' ∷ st) (TheMark symbols.CloseBrace refl ∷ st) (goes_before symbols.CloseBrace ts) ts
block_turn inner room reads st [] = reads [] (Stmts' ∷ st)
block_turn inner room reads st (t ∷ ts) = block_turn_at inner room reads t.lexeme t.at ts st

abbrev pub return_stack : List Expected → List Expected
return_stack st = TheMark symbols.Return refl ∷ Name' ∷ TheMark symbols.Semicolon refl ∷ TheMark symbols.CloseBrace refl ∷ st

body_turn_at : (inner : Reader StmtTree) (room : ℕ) → Reads Stmt' inner room → (w : Lexeme) (p : Pos) (ts : List Lexed) (st : List Expected)
    → Turn inner room (Body' ∷ st) (return_stack st) (goes_before symbols.Return (tok w p ∷ ts)) (tok w p ∷ ts)
body_turn_at inner room reads (Sign symbols.Return) p ts st = refl
body_turn_at inner room reads w p ts st = reads (tok w p ∷ ts) (Body' ∷ st)

body_turn : (inner : Reader StmtTree) (room : ℕ) → Reads Stmt' inner room → (st : List Expected) (ts : List Lexed) → Turn inner room (Body' ∷ st) (return_stack st) (goes_before symbols.Return ts) ts
body_turn inner room reads st [] = reads [] (Body' ∷ st)
body_turn inner room reads st (t ∷ ts) = body_turn_at inner room reads t.lexeme t.at ts st

runs_block_at : (inner : Reader StmtTree) (room : ℕ) → Inside Stmt' inner room → Shortens inner → (w : Lexeme) → ReadsAt Block' (block_with inner room) room w
unfolding block_with follow
runs_block_at inner zero inside short (Sign symbols.OpenBrace) p ts st = record { same = refl }
runs_block_at inner (suc room) inside short (Sign symbols.OpenBrace) p ts st =
    rw (eqb-suc-zero room) (bind (runs_all (goes_before symbols.CloseBrace) inner room (Stmts' ∷ st) (TheMark symbols.CloseBrace refl ∷ st) refl (block_turn inner room inside st) short ts) (λ stmts.
    bind (runs_mark symbols.CloseBrace refl room stmts.1 st) (λ close. done)))
runs_block_at inner room inside short w p ts st = record { same = refl }

runs_block : (inner : Reader StmtTree) (room : ℕ) → Inside Stmt' inner room → Shortens inner → Reads Block' (block_with inner room) room
unfolding block_with follow
runs_block inner room inside short [] st = record { same = refl }
runs_block inner room inside short (t ∷ ts) st = runs_block_at inner room inside short t.lexeme t.at ts st

runs_else_at : (inner : Reader StmtTree) (room : ℕ) → Inside Stmt' inner room → Shortens inner → (w : Lexeme) → ReadsAt ElseTail' (else_with inner room) room w
unfolding else_with follow
runs_else_at inner room inside short (Sign symbols.Else) p ts st = bind (runs_block inner room inside short ts st) (λ block. done)
runs_else_at inner room inside short w p ts st = record { same = refl }

runs_else : (inner : Reader StmtTree) (room : ℕ) → Inside Stmt' inner room → Shortens inner → Reads ElseTail' (else_with inner room) room
unfolding else_with follow
runs_else inner room inside short [] st = record { same = refl }
runs_else inner room inside short (t ∷ ts) st = runs_else_at inner room inside short t.lexeme t.at ts st

runs_stmt_at : (inner : Reader StmtTree) (room : ℕ) → Inside Stmt' inner room → Shortens inner → (w : Lexeme) → ReadsAt Stmt' (stmt_with inner room) room w
unfolding stmt_with if_with with_with block_stmt_with plain_stmt_at let_at mem_swap_at skip_at swap_at path_at follow
runs_stmt_at inner room inside short (Sign symbols.If) p ts st =
    bind (runs_path room ts _) (λ cond. bind (runs_block inner room inside short cond.1 _) (λ body. bind (runs_else inner room inside short body.1 st) (λ other. done)))
runs_stmt_at inner room inside short (Sign symbols.With) p ts st =
    bind (runs_block inner room inside short ts _) (λ setup. bind (runs_mark symbols.Do refl room setup.1 _) (λ mid. bind (runs_block inner room inside short mid.1 st) (λ work. done)))
runs_stmt_at inner room inside short (Sign symbols.OpenBrace) p ts st = bind (runs_block inner room inside short (tok (Sign symbols.OpenBrace) p ∷ ts) st) (λ block. done)
runs_stmt_at inner room inside short (Sign symbols.Let) p ts st =
    bind (runs_name room ts _) (λ name. bind (runs_direction room name.1 _) (λ forward. bind (runs_rhs_end room forward.1 st) (λ rhs. done)))
runs_stmt_at inner room inside short (Sign symbols.Star) p ts st = bind (runs_path room ts _) (λ pointer. bind (runs_exchange room pointer.1 st) (λ value. done))
runs_stmt_at inner room inside short (Sign symbols.Skip) p ts st = bind (runs_mark symbols.Semicolon refl room ts st) (λ end. done)
runs_stmt_at inner room inside short (Name text) p ts st =
    bind (runs_path room (tok (Name text) p ∷ ts) (TheMark symbols.Swap refl ∷ Path' ∷ TheMark symbols.Semicolon refl ∷ st)) (λ left. bind (runs_exchange room left.1 st) (λ right. done))
runs_stmt_at inner room inside short w p ts st = record { same = refl }

runs_stmt_with : (inner : Reader StmtTree) (room : ℕ) → Inside Stmt' inner room → Shortens inner → Reads Stmt' (stmt_with inner room) room
unfolding stmt_with plain_stmt_at swap_at path_at follow
runs_stmt_with inner room inside short [] st = record { same = refl }
runs_stmt_with inner room inside short (t ∷ ts) st = runs_stmt_at inner room inside short t.lexeme t.at ts st

stmt_shorter : (room : ℕ) (ts : List Lexed) → Says (Shorter ts) (stmt_at room ts)
stmt_shorter room ts = says_shorter stmt_grows (says_stmt room ts)

runs_stmt : (room : ℕ) → Reads Stmt' (stmt_at (suc room)) room
unfolding stmt_at
runs_stmt zero ts st = runs_stmt_with (stmt_at zero) zero tt (stmt_shorter zero) ts st
runs_stmt (suc room) ts st = runs_stmt_with (stmt_at (suc room)) (suc room) (runs_stmt room) (stmt_shorter (suc room)) ts st

-- the statements of a function up to its `return`
pub runs_body_stmts : (room : ℕ) (ts : List Lexed) (st : List Expected) → Runs (run ts room (Body' ∷ st)) (all_at (goes_before symbols.Return) (stmt_at (suc room)) ts) room (return_stack st)
runs_body_stmts room ts st =
    runs_all (goes_before symbols.Return) (stmt_at (suc room)) room (Body' ∷ st) (return_stack st) refl (body_turn (stmt_at (suc room)) room (runs_stmt room) st) (stmt_shorter (suc room)) ts
