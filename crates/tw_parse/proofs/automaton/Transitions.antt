-- Which tokens may stand next: a stack of what is still awaited, and what the next token makes of it.
use Rattle.std.specs.Prelude.{◌≡◌, refl, ℕ, zero, suc, Bool, true, false, List, [], ◌∷◌, length, codes}
use Rattle.tw_text.specs.declared.limits.TheConstants.{NESTING_LIMIT}
use Rattle.tw_text.specs.declared.place.Pos.{Pos}
use Rattle.tw_lex.specs.declared.symbol.Symbol.{Symbol}
use Rattle.tw_lex.specs.declared.symbol.Symbol.TheVariants as symbols
use Rattle.tw_lex.specs.Tokens.{Lexeme, Name, Number, Sign, Lexed, name_at, sign_at}
use Rattle.tw_parse.specs.Prefixes.{closes}
use Rattle.tw_parse.specs.reading.Steps.{is_symbol, is_component, is_bound_number}

-- a mark that may be awaited alone: it opens no bracket, announces none, and goes on with no path
abbrev pub stands_alone : Symbol → Bool
stands_alone symbols.OpenParen = false
stands_alone symbols.OpenBrace = false
stands_alone symbols.Ptr = false
stands_alone symbols.Null = false
stands_alone symbols.Default = false
stands_alone symbols.Alloc = false
stands_alone symbols.Dot = false
stands_alone mark = true

-- what is awaited
pub data Expected : Type 0 where
  TheMark : (mark : Symbol) (alone : stands_alone mark ≡ true) → Expected
  Name' : Expected
  -- 1 or 2
  Step' : Expected
  -- a number of at most 255
  Small' : Expected
  -- "<" type ">"
  Angled' : Expected
  Type' : Expected
  -- after the "(" of a type: ")" | type "," type ")"
  Paren' : Expected
  Path' : Expected
  -- { "." ( "1" | "2" ) }
  Steps' : Expected
  Atom' : Expected
  Expr' : Expected
  -- after the "(" of an expression: ")" [ op atom ] | atom "," atom ")"
  ExprParen' : Expected
  -- [ op atom ]
  OpTail' : Expected
  Rhs' : Expected
  -- after the name that a right side begins with: [ "[" bound "]" ] "(" .. ")" | steps [ op atom ]
  AfterName' : Expected
  Bound' : Expected
  -- [ "-" number ]
  BoundTail' : Expected
  -- "(" [ name { "," name } ] ")"
  CallArgs' : Expected
  -- the same after "("
  Args' : Expected
  -- { "," name } ")"
  MoreArgs' : Expected
  Stmt' : Expected
  -- "<-" | "->"
  LetArrow' : Expected
  -- { stmt } "}"
  Stmts' : Expected
  -- [ "else" block ]
  ElseTail' : Expected
  Block' : Expected
  -- { stmt } "return" name ";" "}"
  Body' : Expected
  -- "{" body
  FunBody' : Expected
  -- [ "[" name "]" ] "(" .. ")"
  AfterFunName' : Expected
  -- "(" [ param { "," param } ] ")"
  FunParams' : Expected
  -- the same after "("
  Params' : Expected
  -- { "," param } ")"
  MoreParams' : Expected
  Decl' : Expected

-- these tokens may be none
abbrev pub is_nullable : Expected → Bool
is_nullable Steps' = true
is_nullable OpTail' = true
is_nullable AfterName' = true
is_nullable BoundTail' = true
is_nullable ElseTail' = true
is_nullable n = false

-- what becomes of a token, and what is awaited after it
pub data Next : Type 0 where
  -- it is taken
  Take : (stack : List Expected) → Next
  -- it is taken, and opens a bracket
  Open : (stack : List Expected) → Next
  -- it is taken, and closes a bracket
  Shut : (stack : List Expected) → Next
  -- the first of the stack is empty here, and the token belongs to the next of the stack
  Pop : Next
  -- it may not stand here
  Stop : Next

abbrev pub when : Bool → Next → Next
when true next = next
when false next = Stop

abbrev pub taken_mark : Bool → List Expected → Next
taken_mark true st = Shut st
taken_mark false st = Take st

abbrev pub next_mark : Symbol → Lexeme → List Expected → Next
next_mark mark w st = when (is_symbol mark w) (taken_mark (closes (Sign mark)) st)

-- what a word makes of a type, an atom, an expression, what may follow an atom, and a statement: the table below has
-- each of them more than once
abbrev pub next_type : Lexeme → List Expected → Next
next_type (Sign symbols.Uint) st = Take st
next_type (Sign symbols.Bool) st = Take st
next_type (Name text) st = Take st
next_type (Sign symbols.Ptr) st = Take (Angled' ∷ st)
next_type (Sign symbols.OpenParen) st = Open (Paren' ∷ st)
next_type w st = Stop

abbrev pub next_atom : Lexeme → List Expected → Next
next_atom (Name text) st = Take (Steps' ∷ st)
next_atom (Number value) st = Take st
next_atom (Sign symbols.True) st = Take st
next_atom (Sign symbols.False) st = Take st
next_atom (Sign symbols.OpenParen) st = Open (TheMark symbols.CloseParen refl ∷ st)
next_atom (Sign symbols.Null) st = Take (Angled' ∷ st)
next_atom (Sign symbols.Default) st = Take (Angled' ∷ st)
next_atom w st = Stop

abbrev pub next_expr : Lexeme → List Expected → Next
next_expr (Sign symbols.Not) st = Take (Atom' ∷ st)
next_expr (Sign symbols.OpenParen) st = Open (ExprParen' ∷ st)
next_expr w st = next_atom w (OpTail' ∷ st)

abbrev pub next_op_tail : Lexeme → List Expected → Next
next_op_tail (Sign symbols.Plus) st = Take (Atom' ∷ st)
next_op_tail (Sign symbols.Minus) st = Take (Atom' ∷ st)
next_op_tail (Sign symbols.Star) st = Take (Atom' ∷ st)
next_op_tail (Sign symbols.Less) st = Take (Atom' ∷ st)
next_op_tail (Sign symbols.Equal) st = Take (Atom' ∷ st)
next_op_tail (Sign symbols.NotEqual) st = Take (Atom' ∷ st)
next_op_tail (Sign symbols.And) st = Take (Atom' ∷ st)
next_op_tail (Sign symbols.Or) st = Take (Atom' ∷ st)
next_op_tail w st = Pop

abbrev pub next_stmt : Lexeme → List Expected → Next
next_stmt (Sign symbols.Let) st = Take (Name' ∷ LetArrow' ∷ Rhs' ∷ TheMark symbols.Semicolon refl ∷ st)
next_stmt (Name text) st = Take (Steps' ∷ TheMark symbols.Swap refl ∷ Path' ∷ TheMark symbols.Semicolon refl ∷ st)
next_stmt (Sign symbols.Star) st = Take (Path' ∷ TheMark symbols.Swap refl ∷ Path' ∷ TheMark symbols.Semicolon refl ∷ st)
next_stmt (Sign symbols.If) st = Take (Path' ∷ Block' ∷ ElseTail' ∷ st)
next_stmt (Sign symbols.With) st = Take (Block' ∷ TheMark symbols.Do refl ∷ Block' ∷ st)
next_stmt (Sign symbols.OpenBrace) st = Open (Stmts' ∷ st)
next_stmt (Sign symbols.Skip) st = Take (TheMark symbols.Semicolon refl ∷ st)
next_stmt w st = Stop

-- what a word makes of the first that is awaited, with what is awaited after it
abbrev pub next : Expected → Lexeme → List Expected → Next
next (TheMark mark alone) w st = next_mark mark w st
next Name' (Name text) st = Take st
next Name' w st = Stop
next Step' (Number value) st = when (is_component value) (Take st)
next Step' w st = Stop
next Small' (Number value) st = when (is_bound_number value) (Take st)
next Small' w st = Stop
next Angled' (Sign symbols.Less) st = Open (Type' ∷ TheMark symbols.Greater refl ∷ st)
next Angled' w st = Stop
next Type' w st = next_type w st
next Paren' (Sign symbols.CloseParen) st = Shut st
next Paren' w st = next_type w (TheMark symbols.Comma refl ∷ Type' ∷ TheMark symbols.CloseParen refl ∷ st)
next Path' (Name text) st = Take (Steps' ∷ st)
next Path' w st = Stop
next Steps' (Sign symbols.Dot) st = Take (Step' ∷ Steps' ∷ st)
next Steps' w st = Pop
next Atom' w st = next_atom w st
next Expr' w st = next_expr w st
next ExprParen' (Sign symbols.CloseParen) st = Shut (OpTail' ∷ st)
next ExprParen' w st = next_atom w (TheMark symbols.Comma refl ∷ Atom' ∷ TheMark symbols.CloseParen refl ∷ st)
next OpTail' w st = next_op_tail w st
next Rhs' (Sign symbols.Alloc) st = Take (Angled' ∷ st)
next Rhs' (Name text) st = Take (AfterName' ∷ st)
next Rhs' w st = next_expr w st
next AfterName' (Sign symbols.Dot) st = Take (Step' ∷ Steps' ∷ OpTail' ∷ st)
next AfterName' (Sign symbols.OpenBracket) st = Take (Bound' ∷ TheMark symbols.CloseBracket refl ∷ CallArgs' ∷ st)
next AfterName' (Sign symbols.OpenParen) st = Open (Args' ∷ st)
next AfterName' w st = next_op_tail w st
next Bound' (Number value) st = when (is_bound_number value) (Take st)
next Bound' (Name text) st = Take (BoundTail' ∷ st)
next Bound' w st = Stop
next BoundTail' (Sign symbols.Minus) st = Take (Small' ∷ st)
next BoundTail' w st = Pop
next CallArgs' (Sign symbols.OpenParen) st = Open (Args' ∷ st)
next CallArgs' w st = Stop
next Args' (Sign symbols.CloseParen) st = Shut st
next Args' (Name text) st = Take (MoreArgs' ∷ st)
next Args' w st = Stop
next MoreArgs' (Sign symbols.Comma) st = Take (Name' ∷ MoreArgs' ∷ st)
next MoreArgs' (Sign symbols.CloseParen) st = Shut st
next MoreArgs' w st = Stop
next Stmt' w st = next_stmt w st
next LetArrow' (Sign symbols.Assign) st = Take st
next LetArrow' (Sign symbols.Arrow) st = Take st
next LetArrow' w st = Stop
next Stmts' (Sign symbols.CloseBrace) st = Shut st
next Stmts' w st = next_stmt w (Stmts' ∷ st)
next ElseTail' (Sign symbols.Else) st = Take (Block' ∷ st)
next ElseTail' w st = Pop
next Block' (Sign symbols.OpenBrace) st = Open (Stmts' ∷ st)
next Block' w st = Stop
next Body' (Sign symbols.Return) st = Take (Name' ∷ TheMark symbols.Semicolon refl ∷ TheMark symbols.CloseBrace refl ∷ st)
next Body' w st = next_stmt w (Body' ∷ st)
next FunBody' (Sign symbols.OpenBrace) st = Open (Body' ∷ st)
next FunBody' w st = Stop
next AfterFunName' (Sign symbols.OpenBracket) st = Take (Name' ∷ TheMark symbols.CloseBracket refl ∷ FunParams' ∷ st)
next AfterFunName' (Sign symbols.OpenParen) st = Open (Params' ∷ st)
next AfterFunName' w st = Stop
next FunParams' (Sign symbols.OpenParen) st = Open (Params' ∷ st)
next FunParams' w st = Stop
next Params' (Sign symbols.CloseParen) st = Shut st
next Params' (Name text) st = Take (TheMark symbols.Colon refl ∷ Type' ∷ MoreParams' ∷ st)
next Params' w st = Stop
next MoreParams' (Sign symbols.Comma) st = Take (Name' ∷ TheMark symbols.Colon refl ∷ Type' ∷ MoreParams' ∷ st)
next MoreParams' (Sign symbols.CloseParen) st = Shut st
next MoreParams' w st = Stop
next Decl' (Sign symbols.Type) st = Take (Name' ∷ TheMark symbols.Define refl ∷ Type' ∷ TheMark symbols.Semicolon refl ∷ st)
next Decl' (Sign symbols.Fun) st = Take (Name' ∷ AfterFunName' ∷ TheMark symbols.Arrow refl ∷ Type' ∷ FunBody' ∷ st)
next Decl' w st = Stop

-- where the first of the stack is empty, the next of the stack decides
abbrev pub settled : Next → Next → Next
settled Pop after = after
settled now after = now

-- what a word makes of a stack; after a program a further declaration may stand
abbrev pub move : Lexeme → List Expected → Next
move w [] = next Decl' w []
move w (n ∷ st) = settled (next n w st) (move w st)

-- the tokens are a program, or with so many tokens left they go wrong: by their grammar, or by the brackets that are open
pub data Outcome : Type 0 where
  Accept : Outcome
  Fail : (left : ℕ) → Outcome
  Deep : (left : ℕ) → Outcome

abbrev pub left_at_end : Bool → Outcome → Outcome
left_at_end true after = after
left_at_end false after = Fail 0

-- what the end of the tokens makes of a stack: no token of what is awaited may be missing
abbrev pub at_end : List Expected → Outcome
at_end [] = Accept
at_end (n ∷ st) = left_at_end (is_nullable n) (at_end st)

-- how a move goes on, with room for so many more brackets, where so many tokens are left
abbrev pub went : Next → ℕ → (ℕ → List Expected → Outcome) → ℕ → Outcome
went (Take st) room go left = go room st
went (Open st) zero go left = Deep left
went (Open st) (suc room) go left = go room st
went (Shut st) room go left = go (suc room) st
went Pop room go left = Fail left
went Stop room go left = Fail left

-- what tokens come to, with room for so many more brackets, where these are awaited
abbrev pub run : List Lexed → ℕ → List Expected → Outcome
run [] room st = at_end st
run (t ∷ ts) room st = went (move t.lexeme st) room (run ts) (suc (length ts))

-- what the tokens of a whole text come to
abbrev pub verdict : List Lexed → Outcome
verdict toks = run toks NESTING_LIMIT (Decl' ∷ [])

abbrev pub here : Pos
here = record { line = 1; col = 1 }

abbrev pub alias : List Lexed → List Lexed
alias body = sign_at symbols.Type here ∷ name_at (codes "a") here ∷ sign_at symbols.Define here ∷ body

-- so many "(" before a type
abbrev pub nested : ℕ → List Lexed
nested zero = sign_at symbols.CloseParen here ∷ []
nested (suc n) = sign_at symbols.OpenParen here ∷ nested n

pub verdict_empty : verdict [] ≡ Fail 0
verdict_empty = refl

pub verdict_alias : verdict (alias (sign_at symbols.Uint here ∷ sign_at symbols.Semicolon here ∷ [])) ≡ Accept
verdict_alias = refl

pub verdict_no_type : verdict (alias (sign_at symbols.Semicolon here ∷ [])) ≡ Fail 1
verdict_no_type = refl

pub verdict_64 : verdict (alias (nested 64)) ≡ Fail 0
verdict_64 = refl

pub verdict_65 : verdict (alias (nested 65)) ≡ Deep 2
verdict_65 = refl
