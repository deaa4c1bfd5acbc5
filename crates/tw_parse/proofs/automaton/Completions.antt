-- What is awaited can be completed.
use Rattle.std.proofs.Common.{◌≡◌, refl, List, [], ◌∷◌, ◌∙◌, Bool, true, false, Some, arith}
use Rattle.tw_lex.specs.declared.symbol.Symbol.{Symbol}
use Rattle.tw_lex.specs.declared.symbol.Symbol.TheVariants as symbols
use Rattle.tw_lex.specs.Tokens.{Sign, Lexed, name_at, number_at, sign_at}
use Rattle.tw_parse.specs.Prefixes.{closes}
use Rattle.tw_parse.specs.reading.Steps.{is_symbol}
use Rattle.tw_parse.proofs.automaton.Transitions.{Expected, TheMark, Name', Step', Small', Angled', Type', Paren', Path', Steps', Atom', Expr', ExprParen', OpTail', Rhs', AfterName', Bound', BoundTail', CallArgs', Args', MoreArgs', Stmt', LetArrow', Stmts', ElseTail', Block', Body', FunBody', AfterFunName', FunParams', Params', MoreParams', Decl', stands_alone, when, taken_mark, settled, move, here}
use Rattle.tw_parse.proofs.tokens.Words.{is_symbol-same}
use Rattle.tw_parse.proofs.automaton.Walks.{walk, moved}
use Rattle.tw_parse.proofs.automaton.TakenExprs.{IsEmptyBefore}

abbrev mark : Symbol → Lexed
mark x = sign_at x here

abbrev name : Lexed
name = name_at [] here

abbrev number : Lexed
number = number_at 1 here

-- some tokens that are this, before what follows
abbrev pub filler : Expected → List Lexed → List Lexed
filler (TheMark x alone) k = mark x ∷ k
filler Name' k = name ∷ k
filler Step' k = number ∷ k
filler Small' k = number ∷ k
filler Angled' k = mark symbols.Less ∷ mark symbols.Uint ∷ mark symbols.Greater ∷ k
filler Type' k = mark symbols.Uint ∷ k
filler Paren' k = mark symbols.CloseParen ∷ k
filler Path' k = name ∷ k
filler Steps' k = k
filler Atom' k = number ∷ k
filler Expr' k = mark symbols.Not ∷ number ∷ k
filler ExprParen' k = number ∷ mark symbols.Comma ∷ number ∷ mark symbols.CloseParen ∷ k
filler OpTail' k = mark symbols.Plus ∷ number ∷ k
filler Rhs' k = mark symbols.Not ∷ number ∷ k
filler AfterName' k = mark symbols.OpenParen ∷ mark symbols.CloseParen ∷ k
filler Bound' k = number ∷ k
filler BoundTail' k = mark symbols.Minus ∷ number ∷ k
filler CallArgs' k = mark symbols.OpenParen ∷ mark symbols.CloseParen ∷ k
filler Args' k = mark symbols.CloseParen ∷ k
filler MoreArgs' k = mark symbols.CloseParen ∷ k
filler Stmt' k = mark symbols.Skip ∷ mark symbols.Semicolon ∷ k
filler LetArrow' k = mark symbols.Assign ∷ k
filler Stmts' k = mark symbols.CloseBrace ∷ k
filler ElseTail' k = mark symbols.Else ∷ mark symbols.OpenBrace ∷ mark symbols.CloseBrace ∷ k
filler Block' k = mark symbols.OpenBrace ∷ mark symbols.CloseBrace ∷ k
filler Body' k = mark symbols.Return ∷ name ∷ mark symbols.Semicolon ∷ mark symbols.CloseBrace ∷ k
filler FunBody' k = mark symbols.OpenBrace ∷ mark symbols.Return ∷ name ∷ mark symbols.Semicolon ∷ mark symbols.CloseBrace ∷ k
filler AfterFunName' k = mark symbols.OpenParen ∷ mark symbols.CloseParen ∷ k
filler FunParams' k = mark symbols.OpenParen ∷ mark symbols.CloseParen ∷ k
filler Params' k = mark symbols.CloseParen ∷ k
filler MoreParams' k = mark symbols.CloseParen ∷ k
filler Decl' k = mark symbols.Type ∷ name ∷ mark symbols.Define ∷ mark symbols.Uint ∷ mark symbols.Semicolon ∷ k

-- some tokens that complete a stack; they end with a declaration, so that something always follows
abbrev pub completion : List Expected → List Lexed
completion [] = filler Decl' []
completion (n ∷ st) = filler n (completion st)

-- no completion goes on with a path
mark_ends : (x : Symbol) → stands_alone x ≡ true → (k : List Lexed) → IsEmptyBefore Steps' (mark x ∷ k)
mark_ends symbols.Dot alone k = absurd (grind arith)
mark_ends x alone k = λ st. refl

completion_ends : (st : List Expected) → IsEmptyBefore Steps' (completion st)
completion_ends [] = λ st. refl
completion_ends (Steps' ∷ st) = completion_ends st
completion_ends (TheMark x alone ∷ st) = mark_ends x alone (completion st)
completion_ends (n ∷ st) = λ s. refl

fills_mark : (x : Symbol) (alone : stands_alone x ≡ true) (k : List Lexed) (st : List Expected) → walk (mark x ∷ k) (TheMark x alone ∷ st) ≡ walk k st
fills_mark x alone k st = go (is_symbol x (Sign x)) (closes (Sign x)) (is_symbol-same x)
  where
    go : (is closing : Bool) → is ≡ true → moved (settled (when is (taken_mark closing st)) (move (Sign x) st)) (walk k) ≡ walk k st
    go true true e = refl
    go true false e = refl
    go false closing e = absurd (grind arith)

-- each stack can be completed
pub completes : (st : List Expected) → walk (completion st) st ≡ Some []
completes [] = refl
completes (TheMark x alone ∷ st) = fills_mark x alone (completion st) st ∙ completes st
completes (Steps' ∷ st) = completion_ends st st ∙ completes st
completes (Path' ∷ st) = completion_ends st st ∙ completes st
completes (n ∷ st) = completes st
