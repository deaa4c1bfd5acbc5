-- Worked examples: two texts and their tokens.
use Rattle.std.proofs.Common.{ℕ, List, [], ◌∷◌, codes, refl}
use Rattle.unicode_ident.proofs.Computing.{unicode_ident}
use Rattle.tw_text.specs.declared.place.Pos.{Pos}
use Rattle.tw_text.specs.Places.{first_place}
use Rattle.tw_lex.specs.declared.symbol.Symbol.TheVariants as symbols
use Rattle.tw_lex.specs.Symbols.{symbol_of, symbols_from}
use Rattle.tw_lex.specs.Tokens.{Lexed, name_at, sign_at, HasTokens}
use Rattle.tw_lex.proofs.Tokenizing.{tokenized-sound}

-- a column of the first line
abbrev pub column : ℕ → Pos
column col = record { line = 1; col = col }

abbrev pub main_text : List ℕ
main_text = codes "fun main(a: bool, b: bool) -> bool { let c <- a && b; return c; }"

abbrev pub main_tokens : List Lexed
main_tokens =
    sign_at symbols.Fun (column 1) ∷ name_at (codes "main") (column 5) ∷ sign_at symbols.OpenParen (column 9)
    ∷ name_at (codes "a") (column 10) ∷ sign_at symbols.Colon (column 11) ∷ sign_at symbols.Bool (column 13) ∷ sign_at symbols.Comma (column 17)
    ∷ name_at (codes "b") (column 19) ∷ sign_at symbols.Colon (column 20) ∷ sign_at symbols.Bool (column 22) ∷ sign_at symbols.CloseParen (column 26)
    ∷ sign_at symbols.Arrow (column 28) ∷ sign_at symbols.Bool (column 31) ∷ sign_at symbols.OpenBrace (column 36)
    ∷ sign_at symbols.Let (column 38) ∷ name_at (codes "c") (column 42) ∷ sign_at symbols.Assign (column 44)
    ∷ name_at (codes "a") (column 47) ∷ sign_at symbols.And (column 49) ∷ name_at (codes "b") (column 52) ∷ sign_at symbols.Semicolon (column 53)
    ∷ sign_at symbols.Return (column 55) ∷ name_at (codes "c") (column 62) ∷ sign_at symbols.Semicolon (column 63) ∷ sign_at symbols.CloseBrace (column 65) ∷ []

-- these are the tokens of the text
pub main_has_tokens : HasTokens main_text first_place main_tokens
unfolding unicode_ident symbol_of symbols_from lib.Utf8.encode
main_has_tokens = tokenized-sound main_text first_place main_tokens refl

abbrev pub refused_text : List ℕ
refused_text = codes "fun main(a: bool) -> bool { let c <- ; return c; }"

abbrev pub refused_tokens : List Lexed
refused_tokens =
    sign_at symbols.Fun (column 1) ∷ name_at (codes "main") (column 5) ∷ sign_at symbols.OpenParen (column 9)
    ∷ name_at (codes "a") (column 10) ∷ sign_at symbols.Colon (column 11) ∷ sign_at symbols.Bool (column 13) ∷ sign_at symbols.CloseParen (column 17)
    ∷ sign_at symbols.Arrow (column 19) ∷ sign_at symbols.Bool (column 22) ∷ sign_at symbols.OpenBrace (column 27)
    ∷ sign_at symbols.Let (column 29) ∷ name_at (codes "c") (column 33) ∷ sign_at symbols.Assign (column 35) ∷ sign_at symbols.Semicolon (column 38)
    ∷ sign_at symbols.Return (column 40) ∷ name_at (codes "c") (column 47) ∷ sign_at symbols.Semicolon (column 48) ∷ sign_at symbols.CloseBrace (column 50) ∷ []

pub refused_has_tokens : HasTokens refused_text first_place refused_tokens
unfolding unicode_ident symbol_of symbols_from lib.Utf8.encode
refused_has_tokens = tokenized-sound refused_text first_place refused_tokens refl
