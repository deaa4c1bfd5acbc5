-- Each move of the automaton is a step of the grammar: statements and blocks.
use Rattle.std.proofs.Common.{◌≡◌, refl, List, ◌∷◌, ap, false}
use Rattle.tw_text.specs.declared.place.Pos.{Pos}
use Rattle.tw_lex.specs.declared.symbol.Symbol.TheVariants as symbols
use Rattle.tw_lex.specs.Tokens.{Lexeme, Name, Sign, Lexed, name_at, sign_at}
use Rattle.tw_parse.specs.Grammar.{RhsForm, rhs_text}
use Rattle.tw_parse.specs.Statements.{StmtForm, stmt_text, BlockForm, StmtsForm}
use Rattle.tw_parse.proofs.automaton.Transitions.{Expected, TheMark, Name', LetArrow', Path', Rhs', Stmt', Stmts', ElseTail', Block', Body', FunBody', next_stmt}
use Rattle.tw_parse.proofs.automaton.Awaited.{spelled, respelled, joined, NameForm, name_text, LetArrowForm, let_arrow_text, Has, Forest, Built, builds_as}
use Rattle.tw_parse.proofs.tokens.Words.{tok}

-- a "let" by its arrow
abbrev let_of : Pos → NameForm → LetArrowForm → RhsForm → Pos → StmtForm
let_of p name (LetArrowForm.Gets q) rhs r = StmtForm.Let p name.at name.name q rhs r
let_of p name (LetArrowForm.Arrow q) rhs r = StmtForm.Unlet p name.at name.name q rhs r

let_of-text : (p : Pos) (name : NameForm) (arrow : LetArrowForm) (rhs : RhsForm) (r : Pos) (k : List Lexed)
    → sign_at symbols.Let p ∷ name_text name (let_arrow_text arrow (rhs_text rhs (sign_at symbols.Semicolon r ∷ k))) ≡ stmt_text (let_of p name arrow rhs r) k
let_of-text p name (LetArrowForm.Gets q) rhs r k = refl
let_of-text p name (LetArrowForm.Arrow q) rhs r k = refl

bound_name : (p : Pos) (ts : List Lexed) (st : List Expected) → Forest (Name' ∷ LetArrow' ∷ Rhs' ∷ TheMark symbols.Semicolon refl ∷ st) ts → Has Stmt' (sign_at symbols.Let p ∷ ts) (Forest st)
bound_name p ts st f = spelled (λ x. sign_at symbols.Let p ∷ x) (λ c. let_of p c.0.0.0 c.0.0.1 c.0.1 c.1) (λ c k. let_of-text p c.0.0.0 c.0.0.1 c.0.1 c.1 k) (joined (joined (joined f)))

conditional : (p : Pos) (ts : List Lexed) (st : List Expected) → Forest (Path' ∷ Block' ∷ ElseTail' ∷ st) ts → Has Stmt' (sign_at symbols.If p ∷ ts) (Forest st)
conditional p ts st f =
    let head = joined f in
    respelled (ap (λ x. sign_at symbols.If p ∷ x) head.parts) (head.more p head.form.0 head.form.1)

pub builds_stmt : (w : Lexeme) → Built Stmt' w
builds_stmt (Sign symbols.Let) p ts st = λ f. bound_name p ts st f
builds_stmt (Name text) p ts st = λ f.
    spelled (λ x. name_at text p ∷ x) (λ c. StmtForm.Swap (record { at = p; root = text; steps = c.0.0.0 }) c.0.0.1 c.0.1 c.1) (λ c k. refl) (joined (joined (joined f)))
builds_stmt (Sign symbols.Star) p ts st = λ f. spelled (λ x. sign_at symbols.Star p ∷ x) (λ c. StmtForm.MemSwap p c.0.0.0 c.0.0.1 c.0.1 c.1) (λ c k. refl) (joined (joined (joined f)))
builds_stmt (Sign symbols.If) p ts st = λ f. conditional p ts st f
builds_stmt (Sign symbols.With) p ts st = λ f. spelled (λ x. sign_at symbols.With p ∷ x) (λ c. StmtForm.With p c.0.0 c.0.1 c.1) (λ c k. refl) (joined (joined f))
builds_stmt (Sign symbols.OpenBrace) p ts st = λ f. spelled (λ x. sign_at symbols.OpenBrace p ∷ x) (λ c. StmtForm.Block (BlockForm.Braces p c.0 c.1)) (λ c k. refl) f
builds_stmt (Sign symbols.Skip) p ts st = λ f. spelled (λ x. sign_at symbols.Skip p ∷ x) (λ c. StmtForm.Skip p c) (λ c k. refl) f
builds_stmt w p ts st = tt

first_of_stmts : (ts : List Lexed) (st : List Expected) → Forest (Stmt' ∷ Stmts' ∷ st) ts → Has Stmts' ts (Forest st)
first_of_stmts ts st f = spelled (λ x. x) (λ c. (StmtsForm.Stmts c.0 c.1.0, c.1.1)) (λ c k. refl) (joined f)

pub builds_stmts : (w : Lexeme) → Built Stmts' w
builds_stmts (Sign symbols.CloseBrace) p ts st = λ f. record { form = (StmtsForm.NoStmts, p); rest = ts; parts = refl; more = f }
builds_stmts w p ts st = builds_as false ts (next_stmt w (Stmts' ∷ st)) (first_of_stmts (tok w p ∷ ts) st) (builds_stmt w p ts (Stmts' ∷ st))

pub builds_else_tail : (w : Lexeme) → Built ElseTail' w
builds_else_tail (Sign symbols.Else) p ts st = λ f. otherwise p ts st f
  where
    otherwise : (p : Pos) (ts : List Lexed) (st : List Expected) → Forest (Block' ∷ st) ts → Has ElseTail' (sign_at symbols.Else p ∷ ts) (Forest st)
    otherwise p ts st f q cond body =
        spelled (λ x. stmt_text (StmtForm.If q cond body) (sign_at symbols.Else p ∷ x)) (λ c. StmtForm.IfElse q cond body p c) (λ c k. refl) f
builds_else_tail w p ts st = tt

pub builds_block : (w : Lexeme) → Built Block' w
builds_block (Sign symbols.OpenBrace) p ts st = λ f. spelled (λ x. sign_at symbols.OpenBrace p ∷ x) (λ c. BlockForm.Braces p c.0 c.1) (λ c k. refl) f
builds_block w p ts st = tt

ended_body : (p : Pos) (ts : List Lexed) (st : List Expected) → Forest (Name' ∷ TheMark symbols.Semicolon refl ∷ TheMark symbols.CloseBrace refl ∷ st) ts → Has Body' (sign_at symbols.Return p ∷ ts) (Forest st)
ended_body p ts st f =
    spelled (λ x. sign_at symbols.Return p ∷ x) (λ c. record { stmts = StmtsForm.NoStmts; return_at = p; returned = c.0.0; semicolon = c.0.1; end = c.1 }) (λ c k. refl) (joined (joined f))

first_of_body : (ts : List Lexed) (st : List Expected) → Forest (Stmt' ∷ Body' ∷ st) ts → Has Body' ts (Forest st)
first_of_body ts st f = spelled (λ x. x) (λ c. record c.1 { stmts = StmtsForm.Stmts c.0 c.1.stmts }) (λ c k. refl) (joined f)

pub builds_body : (w : Lexeme) → Built Body' w
builds_body (Sign symbols.Return) p ts st = λ f. ended_body p ts st f
builds_body w p ts st = builds_as false ts (next_stmt w (Body' ∷ st)) (first_of_body (tok w p ∷ ts) st) (builds_stmt w p ts (Body' ∷ st))

pub builds_fun_body : (w : Lexeme) → Built FunBody' w
builds_fun_body (Sign symbols.OpenBrace) p ts st = λ f. spelled (λ x. sign_at symbols.OpenBrace p ∷ x) (λ c. (p, c)) (λ c k. refl) f
builds_fun_body w p ts st = tt
