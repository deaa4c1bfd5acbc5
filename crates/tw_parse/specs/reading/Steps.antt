-- Reading from left to right: a reader takes a prefix of the remaining tokens, or says where they are wrong.
use Rattle.std.specs.Prelude.{◌≡◌, ℕ, zero, suc, ◌==◌, Bool, true, false, ◌||◌, if◌then◌else◌, nat_lt, List, [], ◌∷◌, length, Result, Ok, Err, codes, refl}
use Rattle.tw_text.specs.declared.place.Pos.{Pos}
use Rattle.tw_lex.specs.declared.symbol.Symbol.{Symbol}
use Rattle.tw_lex.specs.declared.symbol.Symbol.TheVariants as symbols
use Rattle.tw_parse.specs.declared.error.Rejection.{Rejection}
use Rattle.tw_parse.specs.declared.error.Rejection.TheVariants.{Syntax, Nesting}
use Rattle.tw_parse.specs.declared.error.ParseError.{ParseError}
use Rattle.tw_parse.specs.declared.error.ParseError.TheVariants as error
use Rattle.tw_syntax.specs.Names.{NameTree}
use Rattle.tw_lex.specs.Tokens.{Lexeme, Name, Number, Sign, Lexed, name_at, number_at, sign_at}
use Rattle.tw_parse.specs.Trees.{named}

-- what is read, and the tokens after it
abbrev pub Reader : Type 0 → Type 0
Reader X = List Lexed → Result (X × List Lexed) Rejection

infixl 10 ◌>>=◌
abbrev pub ◌>>=◌ : {A B : Type 0} → Result A Rejection → (A → Result B Rejection) → Result B Rejection
(Ok x) >>= f = f x
(Err e) >>= f = Err e

-- what a function returned, seen by view, is what reading gives, unless memory ran out
abbrev pub Fails : {Y : Type 0} → ParseError → Result Y Rejection → Type 0
Fails error.Memory read = Unit {0}
Fails (error.Rejection rejection) read = read ≡ Err rejection

abbrev pub Returns : {X Y : Type 0} → (X → Y) → Result X ParseError → Result Y Rejection → Type 0
Returns view (Ok x) read = read ≡ Ok (view x)
Returns view (Err e) read = Fails e read

-- each mark has a number of its own
abbrev pub symbol_number : Symbol → ℕ
symbol_number symbols.Swap = 0
symbol_number symbols.Assign = 1
symbol_number symbols.Less = 2
symbol_number symbols.Arrow = 3
symbol_number symbols.Minus = 4
symbol_number symbols.Equal = 5
symbol_number symbols.Define = 6
symbol_number symbols.NotEqual = 7
symbol_number symbols.And = 8
symbol_number symbols.Or = 9
symbol_number symbols.Greater = 10
symbol_number symbols.OpenParen = 11
symbol_number symbols.CloseParen = 12
symbol_number symbols.OpenBrace = 13
symbol_number symbols.CloseBrace = 14
symbol_number symbols.OpenBracket = 15
symbol_number symbols.CloseBracket = 16
symbol_number symbols.Comma = 17
symbol_number symbols.Semicolon = 18
symbol_number symbols.Colon = 19
symbol_number symbols.Dot = 20
symbol_number symbols.Plus = 21
symbol_number symbols.Star = 22
symbol_number symbols.Type = 23
symbol_number symbols.True = 24
symbol_number symbols.False = 25
symbol_number symbols.Fun = 26
symbol_number symbols.Return = 27
symbol_number symbols.Let = 28
symbol_number symbols.If = 29
symbol_number symbols.Else = 30
symbol_number symbols.With = 31
symbol_number symbols.Default = 32
symbol_number symbols.Do = 33
symbol_number symbols.Skip = 34
symbol_number symbols.Uint = 35
symbol_number symbols.Bool = 36
symbol_number symbols.Ptr = 37
symbol_number symbols.Null = 38
symbol_number symbols.Not = 39
symbol_number symbols.Alloc = 40

-- whether a word is this mark
abbrev pub is_symbol : Symbol → Lexeme → Bool
is_symbol mark (Sign given) = symbol_number given == symbol_number mark
is_symbol mark (Name text) = false
is_symbol mark (Number value) = false

abbrev pub is_name : Lexeme → Bool
is_name (Name text) = true
is_name (Number value) = false
is_name (Sign mark) = false

abbrev pub is_number : Lexeme → Bool
is_number (Name text) = false
is_number (Number value) = true
is_number (Sign mark) = false

-- a step of a path goes to the first part or to the second
abbrev pub is_component : ℕ → Bool
is_component value = value == 1 || value == 2

-- a bound's number is at most 255
abbrev pub is_bound_number : ℕ → Bool
is_bound_number value = nat_lt value 256

-- whether the first token is this mark
abbrev pub leads : Symbol → List Lexed → Bool
leads mark [] = false
leads mark (t ∷ ts) = is_symbol mark t.lexeme

abbrev pub leads_name : List Lexed → Bool
leads_name [] = false
leads_name (t ∷ ts) = is_name t.lexeme

abbrev pub leads_number : List Lexed → Bool
leads_number [] = false
leads_number (t ∷ ts) = is_number t.lexeme

-- the place of the first token
abbrev pub place_at : List Lexed → Result Pos Rejection
place_at [] = Err (Syntax 0)
place_at (t ∷ ts) = Ok t.at

-- this mark, and its place
abbrev pub take_symbol : Symbol → Reader Pos
take_symbol mark [] = Err (Syntax 0)
take_symbol mark (t ∷ ts) = if is_symbol mark t.lexeme then Ok (t.at, ts) else Err (Syntax (suc (length ts)))

-- this mark, which opens a bracket, where there is room for one
abbrev pub take_open : Symbol → ℕ → Reader Pos
take_open mark room ts = do
  at ← take_symbol mark ts
  if room == 0 then Err (Nesting (length ts)) else Ok at

-- what is between two brackets, where there is room for one more
abbrev pub bracketed_with : {X : Type 0} → Symbol → Symbol → Reader X → ℕ → Reader X
bracketed_with first last inner room ts = do
  begin ← take_open first room ts
  inside ← inner begin.1
  close ← take_symbol last inside.1
  Ok (inside.0, close.1)

-- a name, from a word at a place; the number says how many tokens are left
abbrev pub name_from : Lexeme → Pos → ℕ → List Lexed → Result (NameTree × List Lexed) Rejection
name_from (Name text) at left ts = Ok (named text at, ts)
name_from (Number value) at left ts = Err (Syntax left)
name_from (Sign mark) at left ts = Err (Syntax left)

abbrev pub take_name : Reader NameTree
take_name [] = Err (Syntax 0)
take_name (t ∷ ts) = name_from t.lexeme t.at (suc (length ts)) ts

-- a number, likewise
abbrev pub number_from : Lexeme → ℕ → List Lexed → Result (ℕ × List Lexed) Rejection
number_from (Number value) left ts = Ok (value, ts)
number_from (Name text) left ts = Err (Syntax left)
number_from (Sign mark) left ts = Err (Syntax left)

abbrev pub take_number : Reader ℕ
take_number [] = Err (Syntax 0)
take_number (t ∷ ts) = number_from t.lexeme (suc (length ts)) ts

-- a number of at most 255
unfoldable pub take_bound_number : Reader ℕ
take_bound_number ts = do
  number ← take_number ts
  if is_bound_number number.0 then Ok number else Err (Syntax (length ts))

-- the number 1 or 2
unfoldable pub take_component : Reader ℕ
take_component ts = do
  number ← take_number ts
  if is_component number.0 then Ok number else Err (Syntax (length ts))

-- items as long as the tokens ask for one, so many at the most
unfoldable pub many_at : {X : Type 0} → (List Lexed → Bool) → Reader X → ℕ → Reader (List X)
many_at goes item zero ts = Ok ([], ts)
many_at goes item (suc n) ts = if goes ts then (do
  first ← item ts
  rest ← many_at goes item n first.1
  Ok (first.0 ∷ rest.0, rest.1)) else Ok ([], ts)

-- all items that the tokens ask for: each takes a token at least
abbrev pub all_at : {X : Type 0} → (List Lexed → Bool) → Reader X → Reader (List X)
all_at goes item ts = many_at goes item (length ts) ts

-- an item before those that are read
abbrev pub put_first : {X : Type 0} → X → Result (List X × List Lexed) Rejection → Result (List X × List Lexed) Rejection
put_first first read = read >>= λ rest. Ok (first ∷ rest.0, rest.1)

pub leads-mark : (at : Pos) → leads symbols.Dot (sign_at symbols.Dot at ∷ []) ≡ true
leads-mark at = refl

pub leads-name : (at : Pos) → leads symbols.Dot (name_at (codes "x") at ∷ []) ≡ false
leads-name at = refl

pub take_symbol-other : (at : Pos) → take_symbol symbols.Dot (sign_at symbols.Comma at ∷ []) ≡ Err (Syntax 1)
take_symbol-other at = refl

pub take_symbol-end : take_symbol symbols.Dot [] ≡ Err (Syntax 0)
take_symbol-end = refl

pub take_open-full : (at : Pos) → take_open symbols.OpenParen 0 (sign_at symbols.OpenParen at ∷ []) ≡ Err (Nesting 1)
take_open-full at = refl

pub take_bound_number-greatest : (at : Pos) → take_bound_number (number_at 255 at ∷ []) ≡ Ok (255, [])
unfolding take_bound_number
take_bound_number-greatest at = refl

pub take_bound_number-above : (at : Pos) → take_bound_number (number_at 256 at ∷ []) ≡ Err (Syntax 1)
unfolding take_bound_number
take_bound_number-above at = refl

pub take_component-third : (at : Pos) → take_component (number_at 3 at ∷ []) ≡ Err (Syntax 1)
unfolding take_component
take_component-third at = refl

pub many_at-names : (at : Pos) → many_at leads_name take_name 2 (name_at (codes "x") at ∷ []) ≡ Ok (named (codes "x") at ∷ [], [])
unfolding many_at
many_at-names at = refl
