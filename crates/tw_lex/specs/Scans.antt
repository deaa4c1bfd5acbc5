-- What scanning finds at the beginning of a text.
use Rattle.std.specs.Prelude.{◌≡◌, ℕ, ◌+◌, ◌≤◌, ◌==◌, Bool, true, false, List, ◌++◌, length, Option, Some, None, decimal, refl}
use Rattle.std.specs.List.{list_all}
use Rattle.std.specs.Char.{is_ascii_digit}
use Rattle.std.specs.Str.{chars, IsUtf8}
use Rattle.unicode_ident.specs.Ident.{is_xid_continue}
use Rattle.tw_text.specs.declared.place.Pos.{Pos}
use Rattle.tw_text.specs.declared.refusal.Refusal.{Refusal}
use Rattle.tw_text.specs.declared.refusal.Rule.TheVariants as rule
use Rattle.tw_text.specs.Suffixes.{EndsWith}
use Rattle.tw_text.specs.Places.{first_place}
use Rattle.tw_lex.specs.declared.token.Token.{Token}
use Rattle.tw_lex.specs.declared.token.TokenKind.{TokenKind}
use Rattle.tw_lex.specs.declared.token.TokenKind.TheVariants as kind
use Rattle.tw_lex.specs.declared.symbol.Symbol.{Symbol}
use Rattle.tw_lex.specs.declared.run.Run.{Run}
use Rattle.tw_lex.specs.declared.run.Run.TheVariants as run
use Rattle.tw_lex.specs.Symbols.{symbol_text, is_keyword}
use Rattle.tw_lex.specs.Tokens.{Lexeme, Name, Number, Sign, Lexed, Piece, piece_text, piece_lexeme, Stands, Splits, StopsAt, Ends, is_in_line}

-- the lexeme of a token with this kind and text
abbrev pub lexeme_of : TokenKind → List ℕ → Lexeme
lexeme_of kind.Name text = Name text
lexeme_of (kind.Word symbol) text = Sign symbol
lexeme_of (kind.Number value) text = Number value
lexeme_of (kind.Mark symbol) text = Sign symbol

-- the kind of letters that are this symbol, or none
abbrev pub word_kind : Option Symbol → TokenKind
word_kind None = kind.Name
word_kind (Some symbol) = kind.Word symbol

-- a token of the code as a lexeme at its place
abbrev pub seen : Token → Lexed
seen token = record { lexeme = lexeme_of token.kind token.text.now; at = token.at }

-- the text is that of the kind; words are keywords, and marks are not
abbrev pub IsKind : TokenKind → List ℕ → Type 0
IsKind kind.Name text = Unit {0}
IsKind (kind.Word symbol) text = (text ≡ symbol_text symbol) × (is_keyword symbol ≡ true)
IsKind (kind.Number value) text = text ≡ decimal value
IsKind (kind.Mark symbol) text = (text ≡ symbol_text symbol) × (is_keyword symbol ≡ false)

abbrev pub IsToken : Token → Type 0
IsToken token = IsKind token.kind token.text.now

-- whether the run goes on with this character
abbrev pub goes_on : Run → ℕ → Bool
goes_on run.Space c = c == 32
goes_on run.Name c = is_xid_continue c
goes_on run.Digits c = is_ascii_digit c
goes_on run.Line c = is_in_line c

pub goes_on-digit : goes_on run.Digits 57 ≡ true
goes_on-digit = refl

pub goes_on-line : goes_on run.Line 10 ≡ false
goes_on-line = refl

-- before this rest the text has so many characters that pass the test
pub record Runs (test : ℕ → Bool) (text rest : List ℕ) (count : ℕ) : Type 0 where
  pub run : List ℕ
  pub parts : chars text ≡ run ++ chars rest
  pub all : list_all test run ≡ true
  pub counted : count ≡ length run
  pub short : count + length rest ≤ length text
  pub suffix : EndsWith text rest

-- and the rest begins with no such character
pub record RunsTo (test : ℕ → Bool) (text rest : List ℕ) (count : ℕ) : Type 0 where
  pub runs : Runs test text rest count
  pub ends : Ends test (chars rest)

-- a piece with so many characters stands before this rest; as a token it has this kind
pub record Found (text rest : List ℕ) (count : ℕ) (kind : TokenKind) : Type 0 where
  pub piece : Piece
  pub parts : chars text ≡ piece_text piece ++ chars rest
  pub stands : Stands piece (chars rest)
  pub is : (taken : List ℕ) → IsUtf8 taken → chars taken ≡ piece_text piece → (piece_lexeme piece ≡ Some (lexeme_of kind taken)) × IsKind kind taken
  pub in_line : list_all is_in_line (piece_text piece) ≡ true
  pub counted : count ≡ length (piece_text piece)
  pub short : count + length rest ≤ length text
  pub suffix : EndsWith text rest

-- the piece does not stand at the beginning of these characters
abbrev pub Lacks : List ℕ → Piece → Type 0
Lacks cs piece = (mid : List ℕ) → cs ≡ piece_text piece ++ mid → ¬ Stands piece mid

-- pieces with these tokens stand before this rest
pub record SplitsTo (cs : List ℕ) (at : Pos) (toks : List Lexed) (rest : List ℕ) (end : Pos) : Type 0 where
  pub pieces : List Piece
  pub splits : Splits pieces cs at toks rest end

-- the text is refused as no token, at the place where its pieces stop
pub record IsNoToken (cs : List ℕ) (refusal : Refusal) : Type 0 where
  pub rule : refusal.rule ≡ rule.Token
  pub found : refusal.found ≡ 0
  pub limit : refusal.limit ≡ 0
  pub stops : StopsAt cs first_place refusal.at
