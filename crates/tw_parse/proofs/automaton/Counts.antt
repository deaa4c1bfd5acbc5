-- Each move of the automaton opens and closes brackets as the count over the tokens does.
use Rattle.std.proofs.Common.{◌≡◌, refl, ℕ, suc, List, [], ◌∷◌, ap, ◌∙◌, sym, subst, Bool, true, false, arith}
use Rattle.tw_lex.specs.declared.symbol.Symbol.{Symbol}
use Rattle.tw_lex.specs.declared.symbol.Symbol.TheVariants as symbols
use Rattle.tw_lex.specs.Tokens.{Lexeme, Name, Number, Sign}
use Rattle.tw_parse.specs.Prefixes.{announces, opens, closes}
use Rattle.tw_parse.specs.reading.Steps.{is_symbol, is_component, is_bound_number}
use Rattle.tw_parse.proofs.automaton.Transitions.{Expected, Next, next, is_nullable, stands_alone, when, taken_mark, AfterFunName', AfterName', Angled', Args', Atom', Block', Body', Bound', BoundTail', CallArgs', Decl', ElseTail', Expr', ExprParen', FunBody', FunParams', LetArrow', MoreArgs', MoreParams', Name', OpTail', Params', Paren', Path', Rhs', Small', Step', Steps', Stmt', Stmts', Type', TheMark}
use Rattle.tw_parse.proofs.tokens.Words.{is_symbol-true}
use Rattle.tw_parse.proofs.automaton.Awaited.{Holds}

-- a closing mark is awaited here
abbrev pub is_closing : Expected → Bool
is_closing (TheMark mark alone) = closes (Sign mark)
is_closing Paren' = true
is_closing ExprParen' = true
is_closing Args' = true
is_closing MoreArgs' = true
is_closing Stmts' = true
is_closing Body' = true
is_closing Params' = true
is_closing MoreParams' = true
is_closing n = false

abbrev pub counted : Bool → ℕ → ℕ
counted true n = suc n
counted false n = n

-- how many brackets are open where this is awaited
abbrev pub open_in : List Expected → ℕ
open_in [] = 0
open_in (n ∷ st) = counted (is_closing n) (open_in st)

abbrev pub is_angled : Expected → Bool
is_angled Angled' = true
is_angled n = false

abbrev pub unless : Bool → Bool → Bool
unless true b = false
unless false b = b

-- nowhere is a type in brackets awaited
abbrev pub plain : List Expected → Bool
plain [] = true
plain (n ∷ st) = unless (is_angled n) (plain st)

-- a type in brackets is awaited first, where one was announced, and nowhere else
abbrev pub Settled : Bool → List Expected → Type 0
Settled false st = plain st ≡ true
Settled true [] = ⊥
Settled true (n ∷ st) = (is_angled n ≡ true) × (plain st ≡ true)

-- a move that keeps the count: it began with so many open, and the word was announced or not
abbrev pub Kept : Bool → ℕ → Bool → Lexeme → Next → Type 0
Kept announced n good w (Next.Take st) = (open_in st ≡ n) × (good ≡ true → Settled (announces w) st) × (opens announced w ≡ false) × (closes w ≡ false)
Kept announced n good w (Next.Open st) = (open_in st ≡ suc n) × (good ≡ true → Settled (announces w) st) × (opens announced w ≡ true)
Kept announced n good w (Next.Shut st) = (suc (open_in st) ≡ n) × (good ≡ true → Settled (announces w) st) × (opens announced w ≡ false) × (closes w ≡ true)
Kept announced n good w Next.Pop = Unit {0}
Kept announced n good w Next.Stop = Unit {0}

-- at this word the move of what is awaited keeps the count
abbrev pub Keeps : Expected → Lexeme → Type 0
Keeps n w = (st : List Expected) → Kept (is_angled n) (counted (is_closing n) (open_in st)) (plain st) w (next n w st)

plainly : (mark : Symbol) → stands_alone mark ≡ true → (announces (Sign mark) ≡ false) × (opens false (Sign mark) ≡ false)
plainly symbols.OpenParen alone = absurd (grind arith)
plainly symbols.OpenBrace alone = absurd (grind arith)
plainly symbols.Ptr alone = absurd (grind arith)
plainly symbols.Null alone = absurd (grind arith)
plainly symbols.Default alone = absurd (grind arith)
plainly symbols.Alloc alone = absurd (grind arith)
plainly mark alone = (refl, refl)

kept_mark : (mark : Symbol) (alone : stands_alone mark ≡ true) (w : Lexeme) → Keeps (TheMark mark alone) w
kept_mark mark alone w st = go (is_symbol mark w) (closes (Sign mark)) refl (is_symbol-true mark w)
  where
    settled_by : w ≡ Sign mark → plain st ≡ true → Settled (announces w) st
    settled_by e h = subst (λ b. Settled b st) (sym (ap announces e ∙ (plainly mark alone).0)) h

    go : (is closing : Bool) → closes (Sign mark) ≡ closing → (is ≡ true → w ≡ Sign mark)
        → Kept false (counted closing (open_in st)) (plain st) w (when is (taken_mark closing st))
    go true true c e = (refl, settled_by (e refl), ap (opens false) (e refl) ∙ (plainly mark alone).1, ap closes (e refl) ∙ c)
    go true false c e = (refl, settled_by (e refl), ap (opens false) (e refl) ∙ (plainly mark alone).1, ap closes (e refl) ∙ c)
    go false closing c e = tt

kept_number : (value : ℕ) (st : List Expected) (is : Bool) → Kept false (open_in st) (plain st) (Number value) (when is (Next.Take st))
kept_number value st true = (refl, λ h. h, refl, refl)
kept_number value st false = tt

kept_type : (w : Lexeme) → Keeps Type' w
kept_type (Sign symbols.Uint) st = (refl, λ h. h, refl, refl)
kept_type (Sign symbols.Bool) st = (refl, λ h. h, refl, refl)
kept_type (Name text) st = (refl, λ h. h, refl, refl)
kept_type (Sign symbols.Ptr) st = (refl, λ h. (refl, h), refl, refl)
kept_type (Sign symbols.OpenParen) st = (refl, λ h. h, refl)
kept_type w st = tt

kept_atom : (w : Lexeme) → Keeps Atom' w
kept_atom (Name text) st = (refl, λ h. h, refl, refl)
kept_atom (Number value) st = (refl, λ h. h, refl, refl)
kept_atom (Sign symbols.True) st = (refl, λ h. h, refl, refl)
kept_atom (Sign symbols.False) st = (refl, λ h. h, refl, refl)
kept_atom (Sign symbols.OpenParen) st = (refl, λ h. h, refl)
kept_atom (Sign symbols.Null) st = (refl, λ h. (refl, h), refl, refl)
kept_atom (Sign symbols.Default) st = (refl, λ h. (refl, h), refl, refl)
kept_atom w st = tt

kept_expr : (w : Lexeme) → Keeps Expr' w
kept_expr (Sign symbols.Not) st = (refl, λ h. h, refl, refl)
kept_expr (Sign symbols.OpenParen) st = (refl, λ h. h, refl)
kept_expr w st = kept_atom w (OpTail' ∷ st)

kept_op_tail : (w : Lexeme) → Keeps OpTail' w
kept_op_tail (Sign symbols.Plus) st = (refl, λ h. h, refl, refl)
kept_op_tail (Sign symbols.Minus) st = (refl, λ h. h, refl, refl)
kept_op_tail (Sign symbols.Star) st = (refl, λ h. h, refl, refl)
kept_op_tail (Sign symbols.Less) st = (refl, λ h. h, refl, refl)
kept_op_tail (Sign symbols.Equal) st = (refl, λ h. h, refl, refl)
kept_op_tail (Sign symbols.NotEqual) st = (refl, λ h. h, refl, refl)
kept_op_tail (Sign symbols.And) st = (refl, λ h. h, refl, refl)
kept_op_tail (Sign symbols.Or) st = (refl, λ h. h, refl, refl)
kept_op_tail w st = tt

kept_stmt : (w : Lexeme) → Keeps Stmt' w
kept_stmt (Sign symbols.Let) st = (refl, λ h. h, refl, refl)
kept_stmt (Name text) st = (refl, λ h. h, refl, refl)
kept_stmt (Sign symbols.Star) st = (refl, λ h. h, refl, refl)
kept_stmt (Sign symbols.If) st = (refl, λ h. h, refl, refl)
kept_stmt (Sign symbols.With) st = (refl, λ h. h, refl, refl)
kept_stmt (Sign symbols.OpenBrace) st = (refl, λ h. h, refl)
kept_stmt (Sign symbols.Skip) st = (refl, λ h. h, refl, refl)
kept_stmt w st = tt

-- each symbol's move keeps the count
pub kept : (n : Expected) (w : Lexeme) → Keeps n w
kept (TheMark mark alone) w st = kept_mark mark alone w st
kept Name' (Name text) st = (refl, λ h. h, refl, refl)
kept Name' w st = tt
kept Step' (Number value) st = kept_number value st (is_component value)
kept Step' w st = tt
kept Small' (Number value) st = kept_number value st (is_bound_number value)
kept Small' w st = tt
kept Angled' (Sign symbols.Less) st = (refl, λ h. h, refl)
kept Angled' w st = tt
kept Type' w st = kept_type w st
kept Paren' (Sign symbols.CloseParen) st = (refl, λ h. h, refl, refl)
kept Paren' w st = kept_type w (TheMark symbols.Comma refl ∷ Type' ∷ TheMark symbols.CloseParen refl ∷ st)
kept Path' (Name text) st = (refl, λ h. h, refl, refl)
kept Path' w st = tt
kept Steps' (Sign symbols.Dot) st = (refl, λ h. h, refl, refl)
kept Steps' w st = tt
kept Atom' w st = kept_atom w st
kept Expr' w st = kept_expr w st
kept ExprParen' (Sign symbols.CloseParen) st = (refl, λ h. h, refl, refl)
kept ExprParen' w st = kept_atom w (TheMark symbols.Comma refl ∷ Atom' ∷ TheMark symbols.CloseParen refl ∷ st)
kept OpTail' w st = kept_op_tail w st
kept Rhs' (Sign symbols.Alloc) st = (refl, λ h. (refl, h), refl, refl)
kept Rhs' (Name text) st = (refl, λ h. h, refl, refl)
kept Rhs' w st = kept_expr w st
kept AfterName' (Sign symbols.Dot) st = (refl, λ h. h, refl, refl)
kept AfterName' (Sign symbols.OpenBracket) st = (refl, λ h. h, refl, refl)
kept AfterName' (Sign symbols.OpenParen) st = (refl, λ h. h, refl)
kept AfterName' w st = kept_op_tail w st
kept Bound' (Number value) st = kept_number value st (is_bound_number value)
kept Bound' (Name text) st = (refl, λ h. h, refl, refl)
kept Bound' w st = tt
kept BoundTail' (Sign symbols.Minus) st = (refl, λ h. h, refl, refl)
kept BoundTail' w st = tt
kept CallArgs' (Sign symbols.OpenParen) st = (refl, λ h. h, refl)
kept CallArgs' w st = tt
kept Args' (Sign symbols.CloseParen) st = (refl, λ h. h, refl, refl)
kept Args' (Name text) st = (refl, λ h. h, refl, refl)
kept Args' w st = tt
kept MoreArgs' (Sign symbols.Comma) st = (refl, λ h. h, refl, refl)
kept MoreArgs' (Sign symbols.CloseParen) st = (refl, λ h. h, refl, refl)
kept MoreArgs' w st = tt
kept Stmt' w st = kept_stmt w st
kept LetArrow' (Sign symbols.Assign) st = (refl, λ h. h, refl, refl)
kept LetArrow' (Sign symbols.Arrow) st = (refl, λ h. h, refl, refl)
kept LetArrow' w st = tt
kept Stmts' (Sign symbols.CloseBrace) st = (refl, λ h. h, refl, refl)
kept Stmts' w st = kept_stmt w (Stmts' ∷ st)
kept ElseTail' (Sign symbols.Else) st = (refl, λ h. h, refl, refl)
kept ElseTail' w st = tt
kept Block' (Sign symbols.OpenBrace) st = (refl, λ h. h, refl)
kept Block' w st = tt
kept Body' (Sign symbols.Return) st = (refl, λ h. h, refl, refl)
kept Body' w st = kept_stmt w (Body' ∷ st)
kept FunBody' (Sign symbols.OpenBrace) st = (refl, λ h. h, refl)
kept FunBody' w st = tt
kept AfterFunName' (Sign symbols.OpenBracket) st = (refl, λ h. h, refl, refl)
kept AfterFunName' (Sign symbols.OpenParen) st = (refl, λ h. h, refl)
kept AfterFunName' w st = tt
kept FunParams' (Sign symbols.OpenParen) st = (refl, λ h. h, refl)
kept FunParams' w st = tt
kept Params' (Sign symbols.CloseParen) st = (refl, λ h. h, refl, refl)
kept Params' (Name text) st = (refl, λ h. h, refl, refl)
kept Params' w st = tt
kept MoreParams' (Sign symbols.Comma) st = (refl, λ h. h, refl, refl)
kept MoreParams' (Sign symbols.CloseParen) st = (refl, λ h. h, refl, refl)
kept MoreParams' w st = tt
kept Decl' (Sign symbols.Type) st = (refl, λ h. h, refl, refl)
kept Decl' (Sign symbols.Fun) st = (refl, λ h. h, refl, refl)
kept Decl' w st = tt

pub passed_by : (n : Expected) → Holds (is_nullable n) → (is_angled n ≡ false) × (is_closing n ≡ false)
passed_by Steps' h = (refl, refl)
passed_by OpTail' h = (refl, refl)
passed_by AfterName' h = (refl, refl)
passed_by BoundTail' h = (refl, refl)
passed_by ElseTail' h = (refl, refl)
passed_by n h = absurd h
