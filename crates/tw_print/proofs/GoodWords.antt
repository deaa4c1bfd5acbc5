-- The identifiers and numbers among a text's tokens are ones that some text has.
use Rattle.std.proofs.Common.{◌≡◌, sym, subst, ℕ, true, List, [], ◌∷◌, ◌++◌, Option, Some, None, chars, IsUtf8, refl}
use Rattle.std.proofs.Math.Utf8.{scalar, scalars}
use Rattle.std.proofs.lemmas.Bool.{and_parts}
use Rattle.std.proofs.lemmas.Str.{scalars-chars}
use Rattle.std.specs.List.{list_all}
use Rattle.unicode_ident.specs.Ident.{is_xid_continue}
use Rattle.tw_text.specs.declared.place.Pos.{Pos}
use Rattle.tw_text.specs.Places.{after_chars}
use Rattle.tw_lex.specs.declared.symbol.Symbol.{Symbol}
use Rattle.tw_lex.specs.Symbols.{symbol_of}
use Rattle.tw_lex.specs.Tokens.{Lexed, Piece, Blank, Comment, Letters, Digits, Operator, piece_text, piece_tokens, word_lexeme, starts_name, Stands, Splits, HasTokens}
use Rattle.tw_print.proofs.Spelling.{IsGood, AllGood}

-- the characters of both parts of a text
scalar_parts : (cs ds : List ℕ) → scalars (cs ++ ds) ≡ true → (scalars cs ≡ true) × (scalars ds ≡ true)
scalar_parts [] ds h = (refl, h)
scalar_parts (c ∷ cs) ds h =
    let both = and_parts (scalar c) (scalars (cs ++ ds)) h in
    let rest = scalar_parts cs ds both.1 in
    (rw (both.0) rest.0, rest.1)

-- letters that are no keyword are an identifier
good_letters : (c : ℕ) (cs : List ℕ) (found : Option Symbol) → symbol_of (c ∷ cs) ≡ found → scalars (c ∷ cs) ≡ true → starts_name c ≡ true → list_all is_xid_continue cs ≡ true
    → IsGood (word_lexeme found (c ∷ cs))
good_letters c cs (Some symbol) is scalar starts on = tt
good_letters c cs None is scalar starts on = record { first = c; more = cs; scalar = scalar; is = refl; starts = starts; goes_on = on; no_keyword = is }

-- the lexemes of a piece's tokens, and of those after it
good_first : (p : Piece) (rest : List ℕ) (at : Pos) (more : List Lexed) → scalars (piece_text p) ≡ true → Stands p rest → AllGood more → AllGood (piece_tokens p at ++ more)
good_first (Blank c) rest at more scalar stands behind = behind
good_first (Comment cs) rest at more scalar stands behind = behind
good_first (Letters c cs) rest at more scalar stands behind = (good_letters c cs (symbol_of (c ∷ cs)) refl scalar stands.0 stands.1, behind)
good_first (Digits value) rest at more scalar stands behind = (stands.0, behind)
good_first (Operator symbol) rest at more scalar stands behind = (tt, behind)

good_tokens : (ps : List Piece) (cs : List ℕ) (at end : Pos) (toks : List Lexed) → scalars cs ≡ true → Splits ps cs at toks [] end → AllGood toks
good_tokens [] cs at end toks scalar s = subst AllGood (sym s.1) tt
good_tokens (p ∷ ps) cs at end toks scalar s =
    let both = scalar_parts (piece_text p) s.0 (rw (← s.2) scalar) in
    subst AllGood (sym s.4) (good_first p s.0 at s.1 both.0 s.3 (good_tokens ps s.0 (after_chars at (piece_text p)) end s.1 both.1 s.5))

-- the lexemes of a text's tokens
pub good_words : (bytes : List ℕ) (at : Pos) (toks : List Lexed) → IsUtf8 bytes → HasTokens (chars bytes) at toks → AllGood toks
good_words bytes at toks text h = good_tokens h.pieces (chars bytes) at h.end toks (scalars-chars bytes text) h.splits
