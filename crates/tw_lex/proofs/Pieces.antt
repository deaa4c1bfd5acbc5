-- What the scanning functions find is a piece, and where they find none no piece of its sort stands.
use Rattle.std.proofs.Common.{◌≡◌, ◌≢◌, ◌∙◌, ap, sym, subst, ℕ, ◌+◌, ◌<◌, ◌^◌, Bool, true, false, List, [], ◌∷◌, ◌++◌, append_assoc, length, length-append, codes, decimal, Option, Some, None, refl, arith}
use Rattle.std.specs.Option.{IfNone}
use Rattle.std.specs.Char.{is_ascii_digit}
use Rattle.std.specs.Str.{chars, IsUtf8, encode_utf8_all, all_ascii_digits}
use Rattle.std.proofs.lemmas.List.{append_cancel_right}
use Rattle.std.proofs.lemmas.Str.{chars-IsAscii, encodes-chars, encodes-IsAscii, encodes-append}
use Rattle.std.proofs.lemmas.Str.Parse.{numerals_by_value, tells_all_ascii_digits}
use Rattle.std.proofs.lemmas.Fmt.{digits_decimal, IsAscii-decimal}
use Rattle.unicode_ident.specs.Ident.{is_xid_continue}
use Rattle.tw_text.specs.Suffixes.{Begins, EndsWith, Follows}
use Rattle.tw_text.proofs.Suffixes.{ends_with_both}
use Rattle.tw_lex.specs.declared.token.TokenKind.TheVariants as kind
use Rattle.tw_lex.specs.declared.symbol.Symbol.{Symbol}
use Rattle.tw_lex.specs.declared.symbol.Symbol.TheVariants as symbols
use Rattle.tw_lex.specs.Symbols.{symbol_text, symbol_of, all_symbols, is_keyword, starts_with, symbols_from, find_prefix, begins}
use Rattle.tw_lex.specs.Tokens.{Piece, Blank, Comment, Letters, Digits, Operator, piece_text, word_lexeme, is_blank, is_in_line, starts_name, Stands, Ends}
use Rattle.tw_lex.specs.Scans.{Found, Lacks, RunsTo, lexeme_of, word_kind, IsKind}
use Rattle.tw_lex.proofs.Runs.{same_run}
use Rattle.tw_lex.proofs.Lines.{in_line, name-in_line}
use Rattle.tw_lex.proofs.Classes.{heads, ends-digits, class, class-digit, no_class_digit, sort}
use Rattle.tw_lex.proofs.SymbolTexts.{chars-symbol, encodes-symbol, symbol-in_line, keyword-starts, find_symbol-text, find_prefix-longest, find_prefix-none, begins-append, begins-not}

pub chars-slashes : chars (codes "//") ≡ codes "//"
unfolding chars
chars-slashes = refl

pub no_comment : (text : List ℕ) → ((mid : List ℕ) → chars text ≡ chars (codes "//") ++ mid → ⊥) → (cs : List ℕ) → Lacks (chars text) (Comment cs)
no_comment text none cs mid parts stands = none (cs ++ mid) (rw chars-slashes (parts ∙ append_assoc (codes "//") cs mid))

-- what letters are as a token, by their symbol
word-is : (taken : List ℕ) (c : ℕ) (cs : List ℕ) (found : Option Symbol) → found ≡ symbol_of (c ∷ cs) → starts_name c ≡ true → IsUtf8 taken → chars taken ≡ c ∷ cs
    → (Some (word_lexeme found (c ∷ cs)) ≡ Some (lexeme_of (word_kind found) taken)) × IsKind (word_kind found) taken
unfolding symbol_of
word-is taken c cs None is starts utf8 spelled = (ap (λ (text : List ℕ). Some (word_lexeme None text)) (sym spelled) ∙ ap (λ (text : List ℕ). Some (Rattle.tw_lex.specs.Tokens.Lexeme.Name text)) (encodes-chars taken utf8), tt)
word-is taken c cs (Some symbol) is starts utf8 spelled =
    let text : symbol_text symbol ≡ c ∷ cs = find_symbol-text all_symbols (c ∷ cs) symbol (sym is) in
    (refl, (sym (encodes-chars taken utf8) ∙ ap encode_utf8_all (spelled ∙ sym text) ∙ encodes-symbol symbol, sym (keyword-starts symbol) ∙ ap (starts_with starts_name) text ∙ starts))

pub found_letters : (text following rest : List ℕ) (c count : ℕ) → Begins text c following → starts_name c ≡ true → (r : RunsTo is_xid_continue following rest count) → Found text rest (count + 1) (word_kind (symbol_of (c ∷ r.runs.run)))
found_letters text following rest c count b starts r = record {
  piece = Letters c r.runs.run;
  parts = b.spelled ∙ ap (λ x. c ∷ x) r.runs.parts;
  stands = (starts, r.runs.all, r.ends);
  is = λ taken utf8 spelled. word-is taken c r.runs.run (symbol_of (c ∷ r.runs.run)) refl starts utf8 spelled;
  in_line = name-in_line c r.runs.run starts r.runs.all;
  counted = omega (arith, r.runs.counted);
  short = omega (arith, r.runs.short, b.shorter);
  suffix = ends_with_both text following rest b.suffix r.runs.suffix;
}

pub found_word : (text following rest word : List ℕ) (c count : ℕ) → Begins text c following → starts_name c ≡ true → RunsTo is_xid_continue following rest count
    → chars text ≡ chars word ++ chars rest → Found text rest (count + 1) (word_kind (symbol_of (chars word)))
found_word text following rest word c count b starts r cut =
    let parts : chars text ≡ (c ∷ r.runs.run) ++ chars rest = b.spelled ∙ ap (λ x. c ∷ x) r.runs.parts in
    let same : chars word ≡ c ∷ r.runs.run = append_cancel_right (chars word) (c ∷ r.runs.run) (chars rest) (sym cut ∙ parts) in
    rw same (found_letters text following rest c count b starts r)

all_digits : (value : ℕ) → value < 2 ^ 64 → all_ascii_digits (decimal value) ≡ true
all_digits value small = digits_decimal (numerals_by_value _ tells_all_ascii_digits) value small

-- digits at the beginning are the run's
same_digits : (text rest mid : List ℕ) (value count : ℕ) → (r : RunsTo is_ascii_digit text rest count) → chars text ≡ decimal value ++ mid → value < 2 ^ 64 → Ends is_xid_continue mid → (r.runs.run ≡ decimal value) × (chars rest ≡ mid)
same_digits text rest mid value count r parts small ends =
    same_run is_ascii_digit r.runs.run (decimal value) (chars rest) mid r.runs.all (all_digits value small) r.ends (ends-digits mid ends) (sym r.runs.parts ∙ parts)

pub found_number : (text rest run : List ℕ) (value count : ℕ) → RunsTo is_ascii_digit text rest count → chars text ≡ chars run ++ chars rest → run ≡ decimal value → value < 2 ^ 64
    → starts_with is_xid_continue (chars rest) ≡ false → Found text rest count (kind.Number value)
found_number text rest run value count r cut is small ends =
    let spelled : chars run ≡ decimal value = ap chars is ∙ chars-IsAscii (decimal value) (IsAscii-decimal value small) in
    let same : r.runs.run ≡ decimal value = append_cancel_right r.runs.run (decimal value) (chars rest) (sym r.runs.parts ∙ cut ∙ ap (λ x. x ++ chars rest) spelled) in
    record {
      piece = Digits value;
      parts = cut ∙ ap (λ x. x ++ chars rest) spelled;
      stands = (small, ends);
      is = λ taken utf8 digits. (refl, sym (encodes-chars taken utf8) ∙ ap encode_utf8_all digits ∙ encodes-IsAscii (decimal value) (IsAscii-decimal value small));
      in_line = in_line is_ascii_digit (decimal value) refl (all_digits value small);
      counted = r.runs.counted ∙ ap length same;
      short = r.runs.short;
      suffix = r.runs.suffix;
    }

pub no_number : (text rest run : List ℕ) (count : ℕ) → RunsTo is_ascii_digit text rest count → chars text ≡ chars run ++ chars rest → IsUtf8 run → ((n : ℕ) → n < 2 ^ 64 → run ≡ decimal n → ⊥) → (value : ℕ) → Lacks (chars text) (Digits value)
no_number text rest run count r cut utf8 none value mid parts stands =
    let same = same_digits text rest mid value count r parts stands.0 stands.1 in
    let spelled : chars run ≡ decimal value = append_cancel_right (chars run) (decimal value) (chars rest) (sym cut ∙ parts ∙ ap (λ x. decimal value ++ x) (sym same.1)) in
    none value stands.0 (sym (encodes-chars run utf8) ∙ ap encode_utf8_all spelled ∙ encodes-IsAscii (decimal value) (IsAscii-decimal value stands.0))

pub no_number_before_letter : (text rest : List ℕ) (count : ℕ) → RunsTo is_ascii_digit text rest count → starts_with is_xid_continue (chars rest) ≡ true → (value : ℕ) → Lacks (chars text) (Digits value)
no_number_before_letter text rest count r letter value mid parts stands =
    let same = same_digits text rest mid value count r parts stands.0 stands.1 in
    let ends = rw (← same.1) at stands.1 in cc

prefix_test : (test : ℕ → Bool) (front rest : List ℕ) → starts_with test (front ++ rest) ≡ false → starts_with test front ≡ false
prefix_test test [] rest h = refl
prefix_test test (c ∷ front) rest h = h

pub found_operator : (first : ℕ) (more text rest : List ℕ) (symbol : Symbol) → chars text ≡ first ∷ more → starts_name first ≡ false → find_prefix (symbols_from first) (chars text) ≡ Some symbol
    → Follows text (symbol_text symbol) rest → IsUtf8 text → IsUtf8 rest → Found text rest (length (symbol_text symbol)) (kind.Mark symbol)
found_operator first more text rest symbol begins none found f utf8 utf8' =
    let parts : chars text ≡ symbol_text symbol ++ chars rest = f.spelled ∙ ap (λ x. x ++ chars rest) (chars-symbol symbol) in
    let no_keyword : is_keyword symbol ≡ false = sym (keyword-starts symbol) ∙ prefix_test starts_name (symbol_text symbol) (chars rest) (rw (← parts, begins) none) in
    let bytes : text ≡ symbol_text symbol ++ rest =
    sym (encodes-chars text utf8) ∙ ap encode_utf8_all parts ∙ encodes-append (symbol_text symbol) (chars rest) ∙ ap (λ x. x ++ encode_utf8_all (chars rest)) (encodes-symbol symbol) ∙ ap (λ x. symbol_text symbol ++ x) (encodes-chars rest utf8') in
    record {
      piece = Operator symbol;
      parts = parts;
      stands = (no_keyword, λ other mid e. find_prefix-longest first more symbol other mid (ap (find_prefix (symbols_from first)) (sym begins) ∙ found) (sym begins ∙ parts ∙ e));
      is = λ taken utf8 spelled. (refl, (sym (encodes-chars taken utf8) ∙ ap encode_utf8_all spelled ∙ encodes-symbol symbol, no_keyword));
      in_line = symbol-in_line symbol;
      counted = refl;
      short = omega (arith, ap length bytes, length-append (symbol_text symbol) rest);
      suffix = f.suffix;
    }

-- the first symbol of a list if the text begins with it, and the other ones if it does not
front_yes : (symbol : Symbol) (list : List Symbol) (cs mid : List ℕ) → cs ≡ symbol_text symbol ++ mid → find_prefix (symbol ∷ list) cs ≡ Some symbol
front_yes symbol list cs mid e = let yes : begins (symbol_text symbol) cs ≡ true = rw e (begins-append (symbol_text symbol) mid) in rw yes refl

front_no : (symbol : Symbol) (list : List Symbol) (cs : List ℕ) → ((mid : List ℕ) → cs ≡ symbol_text symbol ++ mid → ⊥) → find_prefix (symbol ∷ list) cs ≡ find_prefix list cs
front_no symbol list cs none = let no : begins (symbol_text symbol) cs ≡ false = begins-not (symbol_text symbol) cs none in rw no refl

found_front : (first : ℕ) (text following rest : List ℕ) (symbol : Symbol) (list : List Symbol) → Begins text first following → starts_name first ≡ false
    → find_prefix (symbols_from first) (chars text) ≡ find_prefix (symbol ∷ list) (chars text) → chars text ≡ symbol_text symbol ++ chars rest → EndsWith text rest → IsUtf8 text → IsUtf8 rest
    → Found text rest (length (symbol_text symbol)) (kind.Mark symbol)
found_front first text following rest symbol list b none front spelled suffix utf8 utf8' =
    found_operator first (chars following) text rest symbol b.spelled none (front ∙ front_yes symbol list (chars text) (chars rest) spelled)
    (record { spelled = spelled ∙ ap (λ x. x ++ chars rest) (sym (chars-symbol symbol)); suffix = suffix }) utf8 utf8'

-- a symbol of one character with which no other begins
pub found_single : (first : ℕ) (text rest : List ℕ) (symbol : Symbol) → Begins text first rest → starts_name first ≡ false → symbols_from first ≡ symbol ∷ [] → symbol_text symbol ≡ first ∷ [] → IsUtf8 text → IsUtf8 rest
    → Found text rest 1 (kind.Mark symbol)
found_single first text rest symbol b none only is utf8 utf8' =
    subst (λ (n : ℕ). Found text rest n (kind.Mark symbol)) (ap length is)
    (found_front first text rest rest symbol [] b none (ap (λ list. find_prefix list (chars text)) only) (b.spelled ∙ ap (λ x. x ++ chars rest) (sym is)) b.suffix utf8 utf8')

-- the longer and the shorter one of two symbols
pub found_long : (first second : ℕ) (text following rest : List ℕ) (long short : Symbol) → Begins text first following → Begins following second rest → starts_name first ≡ false → symbols_from first ≡ long ∷ short ∷ []
    → symbol_text long ≡ first ∷ second ∷ [] → IsUtf8 text → IsUtf8 rest → Found text rest 2 (kind.Mark long)
found_long first second text following rest long short b b' none only is utf8 utf8' =
    subst (λ (n : ℕ). Found text rest n (kind.Mark long)) (ap length is)
    (found_front first text following rest long (short ∷ []) b none (ap (λ list. find_prefix list (chars text)) only)
    (b.spelled ∙ ap (λ x. first ∷ x) b'.spelled ∙ ap (λ x. x ++ chars rest) (sym is)) (ends_with_both text following rest b.suffix b'.suffix) utf8 utf8')

pub found_short : (first second : ℕ) (text following : List ℕ) (long short : Symbol) → Begins text first following → ((mid : List ℕ) → chars following ≢ second ∷ mid) → starts_name first ≡ false
    → symbols_from first ≡ long ∷ short ∷ [] → symbol_text long ≡ first ∷ second ∷ [] → symbol_text short ≡ first ∷ [] → IsUtf8 text → IsUtf8 following → Found text following 1 (kind.Mark short)
found_short first second text following long short b other none only is_long is utf8 utf8' =
    let no_long = front_no long (short ∷ []) (chars text) (λ mid e. let both : first ∷ chars following ≡ first ∷ (second ∷ mid) = sym b.spelled ∙ e ∙ ap (λ x. x ++ mid) is_long in let tails : chars following ≡ second ∷ mid = cc in other mid tails) in
    subst (λ (n : ℕ). Found text following n (kind.Mark short)) (ap length is)
    (found_front first text following following short [] b none (ap (λ list. find_prefix list (chars text)) only ∙ no_long) (b.spelled ∙ ap (λ x. x ++ chars following) (sym is)) b.suffix utf8 utf8')

-- the symbols that begin with `<`
less_list : symbols_from 60 ≡ symbols.Swap ∷ symbols.Assign ∷ symbols.Less ∷ []
unfolding symbols_from
less_list = refl

pub found_swap : (text following rest end : List ℕ) → Begins text 60 following → Begins following 45 rest → Begins rest 62 end → starts_name 60 ≡ false → IsUtf8 text → IsUtf8 end → Found text end 3 (kind.Mark symbols.Swap)
found_swap text following rest end b b' b'' none utf8 utf8' =
    found_front 60 text following end symbols.Swap (symbols.Assign ∷ symbols.Less ∷ []) b none (ap (λ list. find_prefix list (chars text)) less_list) (b.spelled ∙ ap (λ x. 60 ∷ x) (b'.spelled ∙ ap (λ x. 45 ∷ x) b''.spelled))
    (ends_with_both text following end b.suffix (ends_with_both following rest end b'.suffix b''.suffix)) utf8 utf8'

pub found_assign : (text following rest : List ℕ) → Begins text 60 following → Begins following 45 rest → ((mid : List ℕ) → chars rest ≢ 62 ∷ mid) → starts_name 60 ≡ false → IsUtf8 text → IsUtf8 rest → Found text rest 2 (kind.Mark symbols.Assign)
found_assign text following rest b b' other none utf8 utf8' =
    let spelled : chars text ≡ 60 ∷ (45 ∷ chars rest) = b.spelled ∙ ap (λ x. 60 ∷ x) b'.spelled in
    let no_swap = front_no symbols.Swap (symbols.Assign ∷ symbols.Less ∷ []) (chars text) (λ mid e. let both : 60 ∷ (45 ∷ chars rest) ≡ 60 ∷ (45 ∷ (62 ∷ mid)) = sym spelled ∙ e in let tails : chars rest ≡ 62 ∷ mid = cc in other mid tails) in
    found_front 60 text following rest symbols.Assign (symbols.Less ∷ []) b none (ap (λ list. find_prefix list (chars text)) less_list ∙ no_swap) spelled (ends_with_both text following rest b.suffix b'.suffix) utf8 utf8'

pub found_less : (text following : List ℕ) → Begins text 60 following → ((mid : List ℕ) → chars following ≢ 45 ∷ mid) → starts_name 60 ≡ false → IsUtf8 text → IsUtf8 following → Found text following 1 (kind.Mark symbols.Less)
found_less text following b other none utf8 utf8' =
    let no_assign = front_no symbols.Assign (symbols.Less ∷ []) (chars text) (λ mid e. let both : 60 ∷ chars following ≡ 60 ∷ (45 ∷ mid) = sym b.spelled ∙ e in let tails : chars following ≡ 45 ∷ mid = cc in other mid tails) in
    let no_swap = front_no symbols.Swap (symbols.Assign ∷ symbols.Less ∷ []) (chars text) (λ mid e. let both : 60 ∷ chars following ≡ 60 ∷ (45 ∷ (62 ∷ mid)) = sym b.spelled ∙ e in let tails : chars following ≡ 45 ∷ (62 ∷ mid) = cc in other (62 ∷ mid) tails) in
    found_front 60 text following following symbols.Less [] b none (ap (λ list. find_prefix list (chars text)) less_list ∙ no_swap ∙ no_assign) b.spelled b.suffix utf8 utf8'

pub no_operator : (first : ℕ) (more text : List ℕ) → chars text ≡ first ∷ more → find_prefix (symbols_from first) (chars text) ≡ None → (symbol : Symbol) → Lacks (chars text) (Operator symbol)
no_operator first more text begins none symbol mid parts stands =
    find_prefix-none first more symbol mid (ap (find_prefix (symbols_from first)) (sym begins) ∙ none) (sym begins ∙ parts)

-- where no piece of the sort of the first character stands, none does
pub none_by_class : {cs : List ℕ} (c : ℕ) (more : List ℕ) → cs ≡ c ∷ more → ((piece : Piece) → sort piece ≡ class c → Lacks cs piece) → (piece : Piece) → Lacks cs piece
none_by_class {cs} c more begins none piece mid parts stands =
    let h = heads piece mid stands in
    let texts : c ∷ more ≡ h.c ∷ (h.cs ++ mid) = sym begins ∙ parts ∙ ap (λ x. x ++ mid) h.text in
    let first : h.c ≡ c = cc in
    none piece (sym h.sorted ∙ ap class first) mid parts stands

first_same : {cs xs ys : List ℕ} {c d : ℕ} → cs ≡ c ∷ xs → cs ≡ d ∷ ys → d ≡ c
first_same e f = cc

only_digits : {cs : List ℕ} → ((value : ℕ) → Lacks cs (Digits value)) → (piece : Piece) → sort piece ≡ 3 → Lacks cs piece
only_digits none (Digits value) is = none value
only_digits none piece is = absurd (omega arith)

pub none_by_digit : {cs : List ℕ} (c : ℕ) (more : List ℕ) → cs ≡ c ∷ more → is_ascii_digit c ≡ true → ((value : ℕ) → Lacks cs (Digits value)) → (piece : Piece) → Lacks cs piece
none_by_digit c more begins digit none = none_by_class c more begins (λ piece is. only_digits none piece (is ∙ class-digit c digit))

-- neither letters nor digits stand where no such character does
pub none_by_operator : {cs : List ℕ} (c : ℕ) (more : List ℕ) → cs ≡ c ∷ more → starts_name c ≡ false → is_ascii_digit c ≡ false → ((c : ℕ) → Lacks cs (Blank c)) → ((text : List ℕ) → Lacks cs (Comment text))
    → ((symbol : Symbol) → Lacks cs (Operator symbol)) → (piece : Piece) → Lacks cs piece
none_by_operator c more begins letter digit blank comment operator (Blank d) = blank d
none_by_operator c more begins letter digit blank comment operator (Comment text) = comment text
none_by_operator c more begins letter digit blank comment operator (Letters d text) = λ mid parts stands. let first : d ≡ c = first_same begins parts in let starts : starts_name c ≡ true = rw (← first) stands.0 in absurd (cc)
none_by_operator c more begins letter digit blank comment operator (Digits value) = λ mid parts stands.
    let h = heads (Digits value) mid stands in
    let first : h.c ≡ c = first_same begins (parts ∙ ap (λ x. x ++ mid) h.text) in
    let is_digit : class c ≡ 3 = ap class (sym first) ∙ h.sorted in
    absurd (no_class_digit c letter digit is_digit)
none_by_operator c more begins letter digit blank comment operator (Operator symbol) = operator symbol

-- what follows from one fact where nothing was found
pub if_none : {X : Type 0} {P Q : Type 0} (o : Option X) → (P → Q) → IfNone o P → IfNone o Q
if_none None f h = f h
if_none (Some x) f h = tt
