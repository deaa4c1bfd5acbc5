-- Operators, keywords, identifiers, numbers and white space spell their tokens.
use Rattle.std.proofs.Common.{◌≡◌, ◌∙◌, sym, ap, ℕ, ◌≤◌, ◌<◌, ◌^◌, ◌==◌, Bool, true, false, not, ◌||◌, ◌&&◌, if◌then◌else◌, List, [], ◌∷◌, ◌++◌, length, Option, Some, codes, decimal, encode_utf8_all, refl, arith}
use Rattle.std.proofs.Math.Utf8.{scalars, encode}
use Rattle.std.proofs.lemmas.Bool.{and_parts}
use Rattle.std.proofs.lemmas.Bool.Decides.{Decides-eqb}
use Rattle.std.proofs.lemmas.Fmt.{IsAscii-decimal}
use Rattle.std.proofs.lemmas.Slice.Eq.{bytes_eq-Decides}
use Rattle.std.proofs.lemmas.Str.{chars-IsAscii, encodes-IsAscii, scalars-chars, IsUtf8-from_ascii}
use Rattle.std.specs.List.{list_all}
use Rattle.std.specs.Str.{bytes_eq}
use Rattle.unicode_ident.specs.Ident.{is_xid_continue}
use Rattle.unicode_ident.proofs.Computing.{unicode_ident}
use Rattle.tw_text.specs.declared.place.Pos.{Pos}
use Rattle.tw_lex.specs.declared.symbol.Symbol.{Symbol}
use Rattle.tw_lex.specs.declared.symbol.Symbol.TheVariants as symbols
use Rattle.tw_lex.specs.Symbols.{symbol_text, all_symbols, find_symbol, symbol_of, is_keyword, starts_with}
use Rattle.tw_lex.specs.Tokens.{Name, Sign, Lexed, name_at, number_at, sign_at, Piece, Blank, Letters, Digits, Operator, piece_text, piece_lexeme, word_lexeme, starts_name, Stands, Ends}
use Rattle.tw_lex.proofs.SymbolTexts.{symbol_of-text}
use Rattle.tw_print.proofs.Spelling.{Edge, Clear, Wordy, Short, bars, IsName, Spelt, ends_clear}
use Rattle.tw_print.proofs.SpeltPieces.{Fits, spelt_blank, leads_token}

-- what may follow an operator or a keyword
abbrev pub edge_of : Symbol → Edge
edge_of symbols.Assign = Short
edge_of symbols.Less = Short
edge_of symbols.Define = Short
edge_of symbols.Minus = Short
edge_of mark = if is_keyword mark then Wordy else Clear

-- whether the symbol may follow an edge
abbrev pub enters : Edge → Symbol → Bool
enters Clear mark = true
enters Wordy mark = not (is_keyword mark)
enters Short mark = starts_with (λ c. not (bars Short c)) (symbol_text mark)

-- the symbol as a piece
abbrev letters : List ℕ → Piece
letters [] = Blank 32
letters (c ∷ cs) = Letters c cs

abbrev mark_piece : Symbol → Piece
mark_piece mark = if is_keyword mark then letters (symbol_text mark) else Operator mark

-- whether another operator that begins here is no longer than this one, as such characters may not follow
abbrev is_no_longer : (ℕ → Bool) → List ℕ → List ℕ → Bool
is_no_longer barred [] [] = true
is_no_longer barred [] (c ∷ cs) = barred c
is_no_longer barred (x ∷ xs) [] = true
is_no_longer barred (x ∷ xs) (y ∷ ys) = if x == y then is_no_longer barred xs ys else true

no_longer : (barred : ℕ → Bool) (mark other rest more : List ℕ) → is_no_longer barred mark other ≡ true → Ends barred rest → mark ++ rest ≡ other ++ more → length other ≤ length mark
no_longer barred [] [] rest more none ends e = omega arith
no_longer barred [] (c ∷ cs) rest more none ends e = let here = rw e at ends in absurd (cc)
no_longer barred (x ∷ xs) [] rest more none ends e = omega arith
no_longer barred (x ∷ xs) (y ∷ ys) rest more none ends e =
    let head : x ≡ y = cc in
    let tails : xs ++ rest ≡ ys ++ more = cc in
    let shorter = no_longer barred xs ys rest more (rw ((Decides-eqb x y).1 head) at none) ends tails in
    omega (arith, shorter)

-- whether a piece is a lexeme before every suffix that may follow the edge
abbrev checks : Edge → Piece → Bool
checks edge (Operator symbol) = not (is_keyword symbol) && list_all (λ other. is_no_longer (bars edge) (symbol_text symbol) (symbol_text other)) all_symbols
checks Wordy (Letters c cs) = starts_name c && list_all is_xid_continue cs
checks edge piece = false

no_keyword : (symbol : Symbol) → not (is_keyword symbol) ≡ true → is_keyword symbol ≡ false
no_keyword symbol h = elim (is_keyword symbol) as (λ k. not k ≡ true → k ≡ false) [ true ↦ λ e. absurd (cc) | false ↦ λ e. refl ] h

-- a test that holds of all symbols of a list holds of the one found
listed_passes : (test : Symbol → Bool) (list : List Symbol) (other : Symbol) (text : List ℕ) → list_all test list ≡ true → find_symbol list text ≡ Some other → test other ≡ true
listed_passes test [] other text all found = absurd (cc)
listed_passes test (symbol ∷ list) other text all found =
    let parts = and_parts (test symbol) (list_all test list) all in
    elim (bytes_eq (symbol_text symbol) text) as (λ k. (if k then Some symbol else find_symbol list text) ≡ Some other → test other ≡ true) [
      | true ↦ λ e. let same : symbol ≡ other = cc in rw (← same) parts.0
      | false ↦ λ e. listed_passes test list other text parts.1 e
    ] found

passes : (test : Symbol → Bool) (other : Symbol) → list_all test all_symbols ≡ true → test other ≡ true
unfolding symbol_of
passes test other all = listed_passes test all_symbols other (symbol_text other) all (symbol_of-text other)

stands_checked : (edge : Edge) (p : Piece) (rest : List ℕ) → checks edge p ≡ true → Ends (bars edge) rest → Stands p rest
stands_checked edge (Operator symbol) rest h ends =
    let both = and_parts (not (is_keyword symbol)) (list_all (λ other. is_no_longer (bars edge) (symbol_text symbol) (symbol_text other)) all_symbols) h in
    (no_keyword symbol both.0, λ other more e. no_longer (bars edge) (symbol_text symbol) (symbol_text other) rest more (passes (λ o. is_no_longer (bars edge) (symbol_text symbol) (symbol_text o)) other both.1) ends e)
stands_checked Wordy (Letters c cs) rest h ends = let both = and_parts (starts_name c) (list_all is_xid_continue cs) h in (both.0, both.1, ends)
stands_checked edge p rest h ends = absurd (cc)

mark_checks : (mark : Symbol) → checks (edge_of mark) (mark_piece mark) ≡ true
unfolding unicode_ident
mark_checks symbols.Swap = refl
mark_checks mark = refl

mark_scalar : (mark : Symbol) → scalars (piece_text (mark_piece mark)) ≡ true
mark_scalar symbols.Swap = refl
mark_scalar mark = refl

mark_bytes : (mark : Symbol) → encode_utf8_all (piece_text (mark_piece mark)) ≡ symbol_text mark
unfolding encode
mark_bytes symbols.Swap = refl
mark_bytes mark = refl

mark_lexeme : (mark : Symbol) → piece_lexeme (mark_piece mark) ≡ Some (Sign mark)
unfolding symbol_of
mark_lexeme symbols.Swap = refl
mark_lexeme mark = refl

-- the first character is not barred
front_free : (test : ℕ → Bool) (cs rest : List ℕ) → starts_with (λ c. not (test c)) cs ≡ true → Ends test (cs ++ rest)
front_free test [] rest h = absurd (cc)
front_free test (c ∷ cs) rest h = elim (test c) as (λ k. not k ≡ true → k ≡ false) [ true ↦ λ e. absurd (cc) | false ↦ λ e. refl ] h

mark_front : (mark : Symbol) → enters Wordy mark ≡ starts_with (λ c. not (bars Wordy c)) (piece_text (mark_piece mark))
unfolding unicode_ident
mark_front symbols.Swap = refl
mark_front mark = refl

mark_same : (mark : Symbol) → piece_text (mark_piece mark) ≡ symbol_text mark
mark_same symbols.Swap = refl
mark_same mark = refl

mark_enters : (a : Edge) (mark : Symbol) (rest : List ℕ) → enters a mark ≡ true → Ends (bars a) (piece_text (mark_piece mark) ++ rest)
mark_enters Clear mark rest h = ends_clear (piece_text (mark_piece mark) ++ rest)
mark_enters Wordy mark rest h = front_free (bars Wordy) (piece_text (mark_piece mark)) rest (sym (mark_front mark) ∙ h)
mark_enters Short mark rest h =
    front_free (bars Short) (piece_text (mark_piece mark)) rest (ap (starts_with (λ c. not (bars Short c))) (mark_same mark) ∙ h)

-- an operator or a keyword
pub sign : {a : Edge} {p : Pos} {us : List Lexed} (mark : Symbol) → enters a mark ≡ true → Spelt a (edge_of mark) (symbol_text mark) (sign_at mark p ∷ us) us
sign {a} {p} mark h = record {
  good = λ g. g.1;
  leads = λ g rest l. leads_token (mark_piece mark) (sign_at mark p) (mark_lexeme mark) (record {
    scalar = mark_scalar mark;
    is = mark_bytes mark;
    stands = λ behind ends. stands_checked (edge_of mark) (mark_piece mark) behind (mark_checks mark) ends;
    enters = λ behind. mark_enters a mark behind h;
  }) l;
}

-- whether an identifier may follow an edge
abbrev pub enters_name : Edge → Bool
enters_name Wordy = false
enters_name edge = true

unlike : (c d : ℕ) → starts_name c ≡ true → starts_name d ≡ false → (c == d) ≡ false
unlike c d name none =
    let same = Decides-eqb c d in
    elim (c == d) as (λ k. ((k ≡ true) → c ≡ d) → k ≡ false) [ true ↦ λ f. let e : c ≡ d = f refl in cc | false ↦ λ f. refl ] same.0

letter_short : (c : ℕ) → starts_name c ≡ true → bars Short c ≡ false
unfolding unicode_ident
letter_short c name = rw (unlike c 45 name refl, unlike c 61 name refl, unlike c 62 name refl) refl

letter_enters : (a : Edge) (c : ℕ) → enters_name a ≡ true → starts_name c ≡ true → bars a c ≡ false
letter_enters Clear c h name = refl
letter_enters Wordy c h name = absurd (cc)
letter_enters Short c h name = letter_short c name

name_fits : {a : Edge} {text : List ℕ} → enters_name a ≡ true → (n : IsName text) → Fits a Wordy (Letters n.first n.more) text
name_fits {a} h n = record {
  scalar = n.scalar;
  is = n.is;
  stands = λ rest ends. (n.starts, n.goes_on, ends);
  enters = λ rest. letter_enters a n.first h n.starts;
}

name_lexeme : {text : List ℕ} (n : IsName text) → piece_lexeme (Letters n.first n.more) ≡ Some (Name text)
name_lexeme {text} n = ap (λ (found : Option Symbol). Some (word_lexeme found (n.first ∷ n.more))) n.no_keyword ∙ ap (λ (x : List ℕ). Some (Name x)) n.is

-- an identifier
pub name : {a : Edge} {p : Pos} {us : List Lexed} (text : List ℕ) → enters_name a ≡ true → Spelt a Wordy text (name_at text p ∷ us) us
name {p = p} text h = record {
  good = λ g. g.1;
  leads = λ g rest l. leads_token (Letters g.0.first g.0.more) (name_at text p) (name_lexeme g.0) (name_fits h g.0) l;
}

number_fits : {value : ℕ} → value < 2 ^ 64 → Fits Clear Wordy (Digits value) (decimal value)
number_fits {value} small =
    let ascii = IsAscii-decimal value small in
    record {
      scalar = ap scalars (sym (chars-IsAscii (decimal value) ascii)) ∙ scalars-chars (decimal value) (IsUtf8-from_ascii (decimal value) ascii);
      is = encodes-IsAscii (decimal value) ascii;
      stands = λ rest ends. (small, ends);
      enters = λ rest. ends_clear (decimal value ++ rest);
    }

-- a number
pub number : {p : Pos} {us : List Lexed} (value : ℕ) → Spelt Clear Wordy (decimal value) (number_at value p ∷ us) us
number {p} value = record { good = λ g. g.1; leads = λ g rest l. leads_token (Digits value) (number_at value p) refl (number_fits g.0) l }

space_enters : (a : Edge) → bars a 32 ≡ false
unfolding unicode_ident
space_enters Clear = refl
space_enters Wordy = refl
space_enters Short = refl

-- a space
pub space : {a : Edge} {us : List Lexed} → Spelt a Clear (codes " ") us us
unfolding encode
space {a} = spelt_blank (Blank 32) refl (record { scalar = refl; is = refl; stands = λ rest ends. refl; enters = λ rest. space_enters a })

line_enters : (a : Edge) → bars a 10 ≡ false
unfolding unicode_ident
line_enters Clear = refl
line_enters Wordy = refl
line_enters Short = refl

-- the end of a line
pub newline : {a : Edge} {us : List Lexed} → Spelt a Clear (codes "\n") us us
unfolding encode
newline {a} = spelt_blank (Blank 10) refl (record { scalar = refl; is = refl; stands = λ rest ends. refl; enters = λ rest. line_enters a })
