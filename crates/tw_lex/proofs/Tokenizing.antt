-- A lexer over lists of characters, by which worked examples compute the tokens of their texts.
use Rattle.std.proofs.Common.{◌≡◌, ℕ, ◌+◌, ◌-◌, ◌*◌, ◌^◌, ◌≤◌, Bool, true, false, not, ◌&&◌, if◌then◌else◌, leb, List, [], ◌∷◌, ◌++◌, length, drop, codes, Option, Some, None, option_map, refl, arith}
use Rattle.std.proofs.lemmas.Bool.{and_parts}
use Rattle.std.proofs.lemmas.Bool.Decides.{nat_tests}
use Rattle.std.proofs.lemmas.Slice.Eq.{bytes_eq-Decides}
use Rattle.std.specs.List.{list_all, take_while}
use Rattle.std.specs.Char.{is_ascii_digit}
use Rattle.std.specs.Str.{bytes_eq}
use Rattle.unicode_ident.specs.Ident.{is_xid_continue}
use Rattle.tw_text.specs.declared.place.Pos.{Pos}
use Rattle.tw_text.specs.Places.{after_chars}
use Rattle.tw_lex.specs.declared.symbol.Symbol.{Symbol}
use Rattle.tw_lex.specs.Symbols.{symbol_text, is_keyword, starts_with, symbols_from, begins, find_prefix}
use Rattle.tw_lex.specs.Tokens.{Lexed, Piece, Blank, Comment, Letters, Digits, Operator, piece_text, piece_tokens, is_blank, starts_name, is_in_line, Stands, HasTokens}
use Rattle.tw_lex.proofs.SymbolTexts.{find_prefix-longest}

-- the number that these digits continue
abbrev value_of : ℕ → List ℕ → ℕ
value_of n [] = n
value_of n (d ∷ ds) = value_of (10 * n + (d - 48)) ds

-- the piece with which a text may begin
abbrev piece_of : List ℕ → Option Piece
piece_of [] = None
piece_of (c ∷ cs) =
    if is_blank c then Some (Blank c) else (
    if begins (codes "//") (c ∷ cs) then Some (Comment (take_while is_in_line (drop 1 cs))) else (
    if starts_name c then Some (Letters c (take_while is_xid_continue cs)) else (
    if is_ascii_digit c then Some (Digits (value_of 0 (take_while is_ascii_digit (c ∷ cs)))) else option_map Operator (find_prefix (symbols_from c) (c ∷ cs)))))

-- whether the symbol is the longest that begins a text
abbrev is_same : Symbol → Option Symbol → Bool
is_same symbol None = false
is_same symbol (Some other) = bytes_eq (symbol_text symbol) (symbol_text other)

abbrev is_longest : Symbol → List ℕ → Bool
is_longest symbol [] = false
is_longest symbol (c ∷ cs) = is_same symbol (find_prefix (symbols_from c) (c ∷ cs))

-- whether the piece keeps its rule before this rest
abbrev stands : Piece → List ℕ → Bool
stands (Blank c) rest = is_blank c
stands (Comment cs) rest = list_all is_in_line cs && not (starts_with is_in_line rest)
stands (Letters c cs) rest = starts_name c && (list_all is_xid_continue cs && not (starts_with is_xid_continue rest))
stands (Digits value) rest = leb (value + 1) (2 ^ 64) && not (starts_with is_xid_continue rest)
stands (Operator symbol) rest = not (is_keyword symbol) && is_longest symbol (symbol_text symbol ++ rest)

-- the tokens of a text that begins with this piece, if the piece stands there
abbrev tokens_after : Option Piece → List ℕ → Pos → (List ℕ → Pos → Option (List Lexed)) → Option (List Lexed)
tokens_after None cs at more = None
tokens_after (Some piece) cs at more =
    let rest = drop (length (piece_text piece)) cs in
    if bytes_eq cs (piece_text piece ++ rest) && stands piece rest
    then option_map (λ toks. piece_tokens piece at ++ toks) (more rest (after_chars at (piece_text piece)))
    else None

-- the tokens of a text of at most as many pieces as the first list is long
abbrev tokens_within : List ℕ → List ℕ → Pos → Option (List Lexed)
tokens_within fuel [] at = Some []
tokens_within [] (c ∷ cs) at = None
tokens_within (f ∷ fuel) (c ∷ cs) at = tokens_after (piece_of (c ∷ cs)) (c ∷ cs) at (λ rest end. tokens_within fuel rest end)

-- the tokens of a text from this place on
abbrev pub tokenized : List ℕ → Pos → Option (List Lexed)
tokenized cs at = tokens_within cs cs at

not_true : (k : Bool) → not k ≡ true → k ≡ false
not_true true e = absurd (cc)
not_true false e = refl

longest : (symbol : Symbol) (cs : List ℕ) → is_longest symbol cs ≡ true → (other : Symbol) (more : List ℕ) → cs ≡ symbol_text other ++ more → length (symbol_text other) ≤ length (symbol_text symbol)
longest symbol [] e other more is = absurd (cc)
longest symbol (c ∷ cs) e other more is = by_found (find_prefix (symbols_from c) (c ∷ cs)) refl e
  where
    by_found : (found : Option Symbol) → find_prefix (symbols_from c) (c ∷ cs) ≡ found → is_same symbol found ≡ true → length (symbol_text other) ≤ length (symbol_text symbol)
    by_found None f same = absurd (cc)
    by_found (Some front) f same = rw ((bytes_eq-Decides (symbol_text symbol) (symbol_text front)).0 same) (find_prefix-longest c cs front other more f is)

stands-sound : (piece : Piece) (rest : List ℕ) → stands piece rest ≡ true → Stands piece rest
stands-sound (Blank c) rest e = e
stands-sound (Comment cs) rest e = let parts = and_parts (list_all is_in_line cs) _ e in (parts.0, not_true _ parts.1)
stands-sound (Letters c cs) rest e =
    let parts = and_parts (starts_name c) _ e in
    let rest_parts = and_parts (list_all is_xid_continue cs) _ parts.1 in
    (parts.0, rest_parts.0, not_true _ rest_parts.1)
stands-sound (Digits value) rest e = let parts = and_parts (leb (value + 1) (2 ^ 64)) _ e in (grind (arith, nat_tests), not_true _ parts.1)
stands-sound (Operator symbol) rest e =
    let parts = and_parts (not (is_keyword symbol)) _ e in (not_true _ parts.0, longest symbol (symbol_text symbol ++ rest) parts.1)

after-sound : (found : Option Piece) (cs : List ℕ) (at : Pos) (more : List ℕ → Pos → Option (List Lexed)) → ((rest : List ℕ) (end : Pos) (toks : List Lexed) → more rest end ≡ Some toks → HasTokens rest end toks)
    → (toks : List Lexed) → tokens_after found cs at more ≡ Some toks → HasTokens cs at toks
after-sound None cs at more sound toks e = absurd (cc)
after-sound (Some piece) cs at more sound toks e = by_test (bytes_eq cs (piece_text piece ++ rest) && stands piece rest) refl (more rest end) refl e
  where
    rest : List ℕ
    rest = drop (length (piece_text piece)) cs

    end : Pos
    end = after_chars at (piece_text piece)

    by_test : (test : Bool) → (bytes_eq cs (piece_text piece ++ rest) && stands piece rest) ≡ test → (later : Option (List Lexed)) → more rest end ≡ later
        → (if test then option_map (λ toks. piece_tokens piece at ++ toks) later else None) ≡ Some toks → HasTokens cs at toks
    by_test false t later l is = absurd (cc)
    by_test true t None l is = absurd (cc)
    by_test true t (Some others) l is =
        let parts = and_parts (bytes_eq cs (piece_text piece ++ rest)) _ t in
        let has = sound rest end others l in
        record {
          pieces = piece ∷ has.pieces;
          end = has.end;
          splits = (rest, others, (bytes_eq-Decides cs (piece_text piece ++ rest)).0 parts.0, stands-sound piece rest parts.1, cc, has.splits);
        }

within-sound : (fuel cs : List ℕ) (at : Pos) (toks : List Lexed) → tokens_within fuel cs at ≡ Some toks → HasTokens cs at toks
within-sound fuel [] at toks e = record { pieces = []; end = at; splits = (refl, cc, refl) }
within-sound [] (c ∷ cs) at toks e = absurd (cc)
within-sound (f ∷ fuel) (c ∷ cs) at toks e =
    after-sound (piece_of (c ∷ cs)) (c ∷ cs) at (λ rest end. tokens_within fuel rest end) (λ rest end more is. within-sound fuel rest end more is) toks e

-- the computed tokens are those of the text
pub tokenized-sound : (cs : List ℕ) (at : Pos) (toks : List Lexed) → tokenized cs at ≡ Some toks → HasTokens cs at toks
tokenized-sound cs at toks e = within-sound cs cs at toks e
