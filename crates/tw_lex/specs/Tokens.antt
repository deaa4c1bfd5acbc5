-- The tokens of a text, by its pieces from left to right. Texts are lists of characters here.
use Rattle.std.specs.Prelude.{◌≡◌, ◌≢◌, ℕ, ◌<◌, ◌≤◌, ◌^◌, ◌==◌, Bool, true, false, not, ◌||◌, List, [], ◌∷◌, ◌++◌, length, Option, Some, None, codes, decimal, refl}
use Rattle.std.specs.Fmt.{digits}
use Rattle.std.specs.List.{list_all}
use Rattle.std.specs.Str.{encode_utf8_all}
use Rattle.std.proofs.Common.{lit<, arith}
use Rattle.unicode_ident.specs.Ident.{is_xid_start, is_xid_continue}
use Rattle.unicode_ident.proofs.Computing.{unicode_ident}
use Rattle.tw_text.specs.declared.place.Pos.{Pos}
use Rattle.tw_text.specs.Places.{first_place, after_chars}
use Rattle.tw_lex.specs.declared.symbol.Symbol.{Symbol}
use Rattle.tw_lex.specs.declared.symbol.Symbol.TheVariants as symbols
use Rattle.tw_lex.specs.Symbols.{symbol_text, symbol_of, is_keyword, starts_with}

-- what a token is: a name by its bytes, a number, or a symbol
pub data Lexeme : Type 0 where
  Name : (text : List ℕ) → Lexeme
  Number : (value : ℕ) → Lexeme
  Sign : (symbol : Symbol) → Lexeme

-- a token: a lexeme at its place
pub record Lexed : Type 0 where
  pub lexeme : Lexeme
  pub at : Pos

abbrev pub name_at : List ℕ → Pos → Lexed
name_at text at = record { lexeme = Name text; at = at }

abbrev pub number_at : ℕ → Pos → Lexed
number_at value at = record { lexeme = Number value; at = at }

abbrev pub sign_at : Symbol → Pos → Lexed
sign_at symbol at = record { lexeme = Sign symbol; at = at }

-- a piece of a text: white space, a comment up to the end of its line, a name or a keyword, a number, an operator or a delimiter
pub data Piece : Type 0 where
  Blank : (c : ℕ) → Piece
  Comment : (cs : List ℕ) → Piece
  Letters : (c : ℕ) (cs : List ℕ) → Piece
  Digits : (value : ℕ) → Piece
  Operator : (symbol : Symbol) → Piece

-- its characters
abbrev pub piece_text : Piece → List ℕ
piece_text (Blank c) = c ∷ []
piece_text (Comment cs) = codes "//" ++ cs
piece_text (Letters c cs) = c ∷ cs
piece_text (Digits value) = decimal value
piece_text (Operator symbol) = symbol_text symbol

pub piece_text-comment : piece_text (Comment (codes " a")) ≡ codes "// a"
piece_text-comment = refl

pub piece_text-number : piece_text (Digits 42) ≡ codes "42"
unfolding digits
piece_text-number = refl

-- space, tab, carriage return and newline
abbrev pub is_blank : ℕ → Bool
is_blank c = (c == 32) || ((c == 9) || ((c == 13) || (c == 10)))

pub is_blank-tab : is_blank 9 ≡ true
is_blank-tab = refl

pub is_blank-form_feed : is_blank 12 ≡ false
is_blank-form_feed = refl

-- a name begins with such a character
abbrev pub starts_name : ℕ → Bool
starts_name c = is_xid_start c || (c == 95)

pub starts_name-lambda : starts_name 955 ≡ true
unfolding unicode_ident
starts_name-lambda = refl

pub starts_name-digit : starts_name 55 ≡ false
unfolding unicode_ident
starts_name-digit = refl

-- a comment goes on with such a character
abbrev pub is_in_line : ℕ → Bool
is_in_line c = not (c == 10)

-- no character of this kind follows
abbrev pub Ends : (ℕ → Bool) → List ℕ → Type 0
Ends test rest = starts_with test rest ≡ false

-- no longer symbol begins here
abbrev pub IsLongest : Symbol → List ℕ → Type 0
IsLongest symbol rest = (other : Symbol) (more : List ℕ) → symbol_text symbol ++ rest ≡ symbol_text other ++ more → length (symbol_text other) ≤ length (symbol_text symbol)

-- the piece keeps its rule, and the rest does not go on with it (after a number, no character that continues names)
abbrev pub Stands : Piece → List ℕ → Type 0
Stands (Blank c) rest = is_blank c ≡ true
Stands (Comment cs) rest = (list_all is_in_line cs ≡ true) × Ends is_in_line rest
Stands (Letters c cs) rest = (starts_name c ≡ true) × (list_all is_xid_continue cs ≡ true) × Ends is_xid_continue rest
Stands (Digits value) rest = (value < 2 ^ 64) × Ends is_xid_continue rest
Stands (Operator symbol) rest = (is_keyword symbol ≡ false) × IsLongest symbol rest

-- the symbol at the beginning of `<-> x` is no shorter one
pub no_short_swap : ¬ (Stands (Operator symbols.Assign) (codes "> x"))
no_short_swap stands = absurd (omega (arith, stands.1 symbols.Swap (codes " x") refl))

pub no_number_in_name : ¬ (Stands (Digits 7) (codes "x"))
unfolding unicode_ident
no_number_in_name stands = cc

-- letters are a keyword if one is written so, and a name otherwise
abbrev pub word_lexeme : Option Symbol → List ℕ → Lexeme
word_lexeme None cs = Name (encode_utf8_all cs)
word_lexeme (Some symbol) cs = Sign symbol

-- what a piece is as a token: blanks and comments are none
abbrev pub piece_lexeme : Piece → Option Lexeme
piece_lexeme (Blank c) = None
piece_lexeme (Comment cs) = None
piece_lexeme (Letters c cs) = Some (word_lexeme (symbol_of (c ∷ cs)) (c ∷ cs))
piece_lexeme (Digits value) = Some (Number value)
piece_lexeme (Operator symbol) = Some (Sign symbol)

pub piece_lexeme-keyword : piece_lexeme (Letters 105 (codes "f")) ≡ Some (Sign symbols.If)
unfolding symbol_of
piece_lexeme-keyword = refl

pub piece_lexeme-name : piece_lexeme (Letters 105 (codes "ff")) ≡ Some (Name (encode_utf8_all (codes "iff")))
unfolding symbol_of
piece_lexeme-name = refl

-- the token of this lexeme and place, if it is one
abbrev pub token_of : Option Lexeme → Pos → List Lexed
token_of None at = []
token_of (Some lexeme) at = record { lexeme = lexeme; at = at } ∷ []

-- the tokens of a piece at a place
abbrev pub piece_tokens : Piece → Pos → List Lexed
piece_tokens piece at = token_of (piece_lexeme piece) at

pub piece_tokens-operator : piece_tokens (Operator symbols.Assign) first_place ≡ sign_at symbols.Assign first_place ∷ []
piece_tokens-operator = refl

pub piece_tokens-blank : piece_tokens (Blank 32) first_place ≡ []
piece_tokens-blank = refl

-- the text splits into these pieces, one after the other, with these tokens; `rest` and its place are left
abbrev pub Splits : List Piece → List ℕ → Pos → List Lexed → List ℕ → Pos → Type 0
Splits [] cs at toks rest end = (cs ≡ rest) × (toks ≡ []) × (at ≡ end)
Splits (piece ∷ pieces) cs at toks rest end =
    (mid : List ℕ) × (more : List Lexed) × (cs ≡ piece_text piece ++ mid) × Stands piece mid × (toks ≡ piece_tokens piece at ++ more)
    × Splits pieces mid (after_chars at (piece_text piece)) more rest end

-- the text from this place on has these tokens
pub record HasTokens (cs : List ℕ) (at : Pos) (toks : List Lexed) : Type 0 where
  pub pieces : List Piece
  pub end : Pos
  pub splits : Splits pieces cs at toks [] end

pub seven : HasTokens (codes "7 // a") first_place (number_at 7 first_place ∷ [])
unfolding digits unicode_ident
seven = record {
  pieces = Digits 7 ∷ Blank 32 ∷ Comment (codes " a") ∷ [];
  end = record { line = 1; col = 7 };
  splits = (codes " // a", [], refl, (lit< tt, refl), refl, (codes "// a", [], refl, refl, refl, ([], [], refl, (refl, refl), refl, (refl, refl, refl))));
}

-- pieces stand up to this place, and none stands there though characters are left
pub record StopsAt (cs : List ℕ) (at stop : Pos) : Type 0 where
  pub pieces : List Piece
  pub toks : List Lexed
  pub rest : List ℕ
  pub splits : Splits pieces cs at toks rest stop
  pub some_left : rest ≢ []
  pub none_stands : (piece : Piece) (mid : List ℕ) → rest ≡ piece_text piece ++ mid → ¬ Stands piece mid
