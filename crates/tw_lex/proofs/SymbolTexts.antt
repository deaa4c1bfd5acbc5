-- The texts of symbols: which of them begins some characters, and the longest that does.
use Rattle.std.proofs.Common.{◌≡◌, ◌∙◌, ap, sym, ℕ, ◌+◌, ◌<◌, ◌≤◌, ◌==◌, Bool, true, false, not, ◌&&◌, ◌||◌, if◌then◌else◌, List, [], ◌∷◌, ◌++◌, length, get_or, drop, leb, Option, Some, None, refl, arith}
use Rattle.std.proofs.lemmas.Bool.{and_parts}
use Rattle.std.proofs.lemmas.List.{drop_more}
use Rattle.std.specs.List.{list_all, list_any}
use Rattle.std.specs.Str.{bytes_eq, chars, IsUtf8, encode_utf8_all}
use Rattle.std.proofs.lemmas.Str.{encodes-chars}
use Rattle.std.proofs.lemmas.Bool.Decides.{nat_tests, Decides-eqb}
use Rattle.std.proofs.lemmas.Slice.Eq.{bytes_eq-Decides}
use Rattle.unicode_ident.proofs.Computing.{unicode_ident}
use Rattle.tw_lex.specs.declared.symbol.Symbol.{Symbol}
use Rattle.tw_lex.specs.declared.symbol.Symbol.TheVariants as symbols
use Rattle.tw_lex.specs.Symbols.{symbol_text, all_symbols, starts_with, is_keyword, find_symbol, symbol_of, only_from, symbols_from, begins, find_prefix}
use Rattle.tw_lex.specs.Tokens.{starts_name, is_in_line}

-- a symbol is found by its text
pub symbol_of-text : (symbol : Symbol) → symbol_of (symbol_text symbol) ≡ Some symbol
unfolding symbol_of
symbol_of-text symbols.Swap = refl
symbol_of-text symbol = refl

some_is : {X : Type 0} (x y : X) → Some x ≡ Some y → x ≡ y
some_is x y e = cc

pub one_symbol : (symbol other : Symbol) → symbol_text symbol ≡ symbol_text other → symbol ≡ other
one_symbol symbol other e = some_is symbol other (sym (symbol_of-text symbol) ∙ ap symbol_of e ∙ symbol_of-text other)

-- its characters are its bytes
pub chars-symbol : (symbol : Symbol) → chars (symbol_text symbol) ≡ symbol_text symbol
unfolding chars
chars-symbol symbols.Swap = refl
chars-symbol symbol = refl

pub encodes-symbol : (symbol : Symbol) → encode_utf8_all (symbol_text symbol) ≡ symbol_text symbol
unfolding lib.Utf8.encode
encodes-symbol symbols.Swap = refl
encodes-symbol symbol = refl

pub symbol-in_line : (symbol : Symbol) → list_all is_in_line (symbol_text symbol) ≡ true
symbol-in_line symbols.Swap = refl
symbol-in_line symbol = refl

-- keywords begin as names do, and the other symbols do not
pub keyword-starts : (symbol : Symbol) → starts_with starts_name (symbol_text symbol) ≡ is_keyword symbol
unfolding unicode_ident
keyword-starts symbols.Swap = refl
keyword-starts symbol = refl

-- what is found has the text
pub find_symbol-text : (list : List Symbol) (cs : List ℕ) (symbol : Symbol) → find_symbol list cs ≡ Some symbol → symbol_text symbol ≡ cs
find_symbol-text [] cs symbol e = absurd (cc)
find_symbol-text (first ∷ list) cs symbol e =
    elim (bytes_eq (symbol_text first) cs) as (λ k. (bytes_eq (symbol_text first) cs ≡ k) → (if k then Some first else find_symbol list cs) ≡ Some symbol → symbol_text symbol ≡ cs) [
      | true ↦ λ same h. ap symbol_text (sym (some_is first symbol h)) ∙ (bytes_eq-Decides (symbol_text first) cs).0 same
      | false ↦ λ same h. find_symbol-text list cs symbol h
    ] refl e

symmetric : (a b : ℕ) → (a == b) ≡ false → (b == a) ≡ false
symmetric a b e =
    elim (b == a) as (λ k. ((k ≡ true) → b ≡ a) → k ≡ false) [ true ↦ λ f. let back = (Decides-eqb a b).1 (sym (f refl)) in cc | false ↦ λ f. refl ] (Decides-eqb b a).0

other_text : (text : List ℕ) (first : ℕ) (cs : List ℕ) → starts_with (λ c. first == c) text ≡ false → bytes_eq text (first ∷ cs) ≡ false
other_text [] first cs e = refl
other_text (t ∷ ts) first cs e = rw (symmetric first t e) refl

-- only symbols with the first character can have a text
find_only : (list : List Symbol) (first : ℕ) (cs : List ℕ) → find_symbol (only_from first list) (first ∷ cs) ≡ find_symbol list (first ∷ cs)
find_only [] first cs = refl
find_only (symbol ∷ list) first cs =
    elim (starts_with (λ c. first == c) (symbol_text symbol)) as (λ k. (starts_with (λ c. first == c) (symbol_text symbol) ≡ k) → find_symbol (if k then symbol ∷ only_from first list else only_from first list) (first ∷ cs) ≡ find_symbol (symbol ∷ list) (first ∷ cs)) [
      | true ↦ λ e. ap (λ (o : Option Symbol). if bytes_eq (symbol_text symbol) (first ∷ cs) then Some symbol else o) (find_only list first cs)
      | false ↦ λ e. rw (other_text (symbol_text symbol) first cs e) (find_only list first cs)
    ] refl

same_test : (symbol : Symbol) (text : List ℕ) → IsUtf8 text → bytes_eq (symbol_text symbol) text ≡ bytes_eq (symbol_text symbol) (chars text)
same_test symbol text utf8 =
    let by_bytes = bytes_eq-Decides (symbol_text symbol) text in
    let by_chars = bytes_eq-Decides (symbol_text symbol) (chars text) in
    elim (bytes_eq (symbol_text symbol) text) as (λ k. ((k ≡ true) → symbol_text symbol ≡ text) → ((symbol_text symbol ≡ text) → k ≡ true) → k ≡ bytes_eq (symbol_text symbol) (chars text)) [
      | true ↦ λ f g. sym (by_chars.1 (sym (chars-symbol symbol) ∙ ap chars (f refl)))
      | false ↦ λ f g. elim (bytes_eq (symbol_text symbol) (chars text)) as (λ k. ((k ≡ true) → symbol_text symbol ≡ chars text) → false ≡ k) [
        | true ↦ λ p. g (sym (encodes-symbol symbol) ∙ ap encode_utf8_all (p refl) ∙ encodes-chars text utf8)
        | false ↦ λ p. refl
      ] by_chars.0
    ] by_bytes.0 by_bytes.1

find_chars : (list : List Symbol) (text : List ℕ) → IsUtf8 text → find_symbol list text ≡ find_symbol list (chars text)
find_chars [] text utf8 = refl
find_chars (symbol ∷ list) text utf8 = rw (same_test symbol text utf8, find_chars list text utf8) refl

pub symbol_of-first : (first : ℕ) (cs text : List ℕ) → IsUtf8 text → chars text ≡ first ∷ cs → find_symbol (symbols_from first) text ≡ symbol_of (chars text)
unfolding symbol_of symbols_from
symbol_of-first first cs text utf8 is =
    find_chars (only_from first all_symbols) text utf8 ∙ ap (find_symbol (only_from first all_symbols)) is ∙ find_only all_symbols first cs ∙ ap (find_symbol all_symbols) (sym is)

-- a text begins another if something follows it there
pub begins-append : (text mid : List ℕ) → begins text (text ++ mid) ≡ true
begins-append [] mid = refl
begins-append (t ∷ ts) mid = rw ((Decides-eqb t t).1 refl) (begins-append ts mid)

begins-mid : (text cs : List ℕ) → begins text cs ≡ true → (mid : List ℕ) × (cs ≡ text ++ mid)
begins-mid [] cs e = (cs, refl)
begins-mid (t ∷ ts) [] e = absurd (cc)
begins-mid (t ∷ ts) (c ∷ cs) e =
    let parts = and_parts (t == c) (begins ts cs) e in
    let rest = begins-mid ts cs parts.1 in
    let same : t ≡ c = (Decides-eqb t c).0 parts.0 in
    (rest.0, ap (λ x. x ∷ cs) (sym same) ∙ ap (λ x. t ∷ x) rest.1)

pub begins-not : (text cs : List ℕ) → ((mid : List ℕ) → cs ≡ text ++ mid → ⊥) → begins text cs ≡ false
begins-not text cs none =
    elim (begins text cs) as (λ k. (begins text cs ≡ k) → k ≡ false) [ true ↦ λ e. let m = begins-mid text cs e in absurd (none m.0 m.1) | false ↦ λ e. refl ] refl

other_prefix : (text : List ℕ) (first : ℕ) (cs : List ℕ) → starts_with (λ c. first == c) text ≡ false → starts_with (λ c. true) text ≡ true → begins text (first ∷ cs) ≡ false
other_prefix [] first cs e some = absurd (cc)
other_prefix (t ∷ ts) first cs e some = rw (symmetric first t e) refl

has_text : (symbol : Symbol) → starts_with (λ c. true) (symbol_text symbol) ≡ true
has_text symbols.Swap = refl
has_text symbol = refl

pub prefix_only : (list : List Symbol) (first : ℕ) (cs : List ℕ) → find_prefix (only_from first list) (first ∷ cs) ≡ find_prefix list (first ∷ cs)
prefix_only [] first cs = refl
prefix_only (symbol ∷ list) first cs =
    elim (starts_with (λ c. first == c) (symbol_text symbol)) as (λ k. (starts_with (λ c. first == c) (symbol_text symbol) ≡ k) → find_prefix (if k then symbol ∷ only_from first list else only_from first list) (first ∷ cs) ≡ find_prefix (symbol ∷ list) (first ∷ cs)) [
      | true ↦ λ e. ap (λ (o : Option Symbol). if begins (symbol_text symbol) (first ∷ cs) then Some symbol else o) (prefix_only list first cs)
      | false ↦ λ e. rw (other_prefix (symbol_text symbol) first cs e (has_text symbol)) (prefix_only list first cs)
    ] refl

-- of two symbols with one first character the earlier one is no shorter
abbrev is_no_shorter : List ℕ → List ℕ → Bool
is_no_shorter (t ∷ ts) (u ∷ us) = not (t == u) || leb (length us) (length ts)
is_no_shorter ts us = false

abbrev is_ordered : List Symbol → Bool
is_ordered [] = true
is_ordered (symbol ∷ list) = list_all (λ other. is_no_shorter (symbol_text symbol) (symbol_text other)) list && is_ordered list

all_ordered : is_ordered all_symbols ≡ true
all_ordered = refl

-- whether a symbol with this text is in a list
abbrev is_listed : List ℕ → List Symbol → Bool
is_listed text list = list_any (λ symbol. bytes_eq (symbol_text symbol) text) list

all_listed : (symbol : Symbol) → is_listed (symbol_text symbol) all_symbols ≡ true
all_listed symbols.Swap = refl
all_listed symbol = refl

both_begin : (ts us mid nid : List ℕ) → is_no_shorter ts us ≡ true → ts ++ mid ≡ us ++ nid → length us ≤ length ts
both_begin [] us mid nid h e = absurd (cc)
both_begin (t ∷ ts) [] mid nid h e = absurd (cc)
both_begin (t ∷ ts) (u ∷ us) mid nid h e =
    let head : t ≡ u = cc in
    let test = (Decides-eqb t u).1 head in
    let short : leb (length us) (length ts) ≡ true = rw test at h in
    grind (arith, nat_tests)

no_longer : (list : List Symbol) (ts us mid nid : List ℕ) → list_all (λ other. is_no_shorter ts (symbol_text other)) list ≡ true → is_listed us list ≡ true → ts ++ mid ≡ us ++ nid → length us ≤ length ts
no_longer [] ts us mid nid all listed e = absurd (cc)
no_longer (symbol ∷ list) ts us mid nid all listed e =
    let parts = and_parts (is_no_shorter ts (symbol_text symbol)) (list_all (λ other. is_no_shorter ts (symbol_text other)) list) all in
    elim (bytes_eq (symbol_text symbol) us) as (λ k. (bytes_eq (symbol_text symbol) us ≡ k) → (k || is_listed us list) ≡ true → length us ≤ length ts) [
      | true ↦ λ same h. both_begin ts us mid nid (rw (← (bytes_eq-Decides (symbol_text symbol) us).0 same) parts.0) e
      | false ↦ λ same h. no_longer list ts us mid nid parts.1 h e
    ] refl listed

first_longest : (ts : List ℕ) (list : List Symbol) (us mid nid : List ℕ) → list_all (λ other. is_no_shorter ts (symbol_text other)) list ≡ true → (bytes_eq ts us || is_listed us list) ≡ true → ts ++ mid ≡ us ++ nid → length us ≤ length ts
first_longest ts list us mid nid all listed e =
    elim (bytes_eq ts us) as (λ k. (bytes_eq ts us ≡ k) → (k || is_listed us list) ≡ true → length us ≤ length ts) [
      | true ↦ λ same h. let eq = (bytes_eq-Decides ts us).0 same in omega (arith, ap length eq)
      | false ↦ λ same h. no_longer list ts us mid nid all h e
    ] refl listed

listed_later : (first : Symbol) (list : List Symbol) (us cs nid : List ℕ) → begins (symbol_text first) cs ≡ false → (bytes_eq (symbol_text first) us || is_listed us list) ≡ true → cs ≡ us ++ nid → is_listed us list ≡ true
listed_later first list us cs nid not_begun listed e =
    elim (bytes_eq (symbol_text first) us) as (λ k. (bytes_eq (symbol_text first) us ≡ k) → (k || is_listed us list) ≡ true → is_listed us list ≡ true) [
      | true ↦ λ same h. let wrong : begins us cs ≡ true = rw e (begins-append us nid) in
          let eq = (bytes_eq-Decides (symbol_text first) us).0 same in
          let not' : begins us cs ≡ false = rw (← eq) not_begun in absurd (cc)
      | false ↦ λ same h. h
    ] refl listed

longest_of : (list : List Symbol) (symbol : Symbol) (cs us nid : List ℕ) → is_ordered list ≡ true → find_prefix list cs ≡ Some symbol → is_listed us list ≡ true → cs ≡ us ++ nid → length us ≤ length (symbol_text symbol)
longest_of [] symbol cs us nid order found listed e = absurd (cc)
longest_of (first ∷ list) symbol cs us nid order found listed e =
    let parts = and_parts (list_all (λ other. is_no_shorter (symbol_text first) (symbol_text other)) list) (is_ordered list) order in
    elim (begins (symbol_text first) cs) as (λ k. (begins (symbol_text first) cs ≡ k) → (if k then Some first else find_prefix list cs) ≡ Some symbol → length us ≤ length (symbol_text symbol)) [
      | true ↦ λ h found'.
          let mid = begins-mid (symbol_text first) cs h in
          let short : length us ≤ length (symbol_text first) = first_longest (symbol_text first) list us mid.0 nid parts.0 listed (sym mid.1 ∙ e) in
          rw (← some_is first symbol found') short
      | false ↦ λ h found'. longest_of list symbol cs us nid parts.1 found' (listed_later first list us cs nid h listed e) e
    ] refl found

-- the symbol that is found at the beginning is the longest one there
pub find_prefix-longest : (first : ℕ) (more : List ℕ) (symbol other : Symbol) (nid : List ℕ) → find_prefix (symbols_from first) (first ∷ more) ≡ Some symbol → first ∷ more ≡ symbol_text other ++ nid
    → length (symbol_text other) ≤ length (symbol_text symbol)
unfolding symbols_from
find_prefix-longest first more symbol other nid found e =
    longest_of all_symbols symbol (first ∷ more) (symbol_text other) nid all_ordered (sym (prefix_only all_symbols first more) ∙ found) (all_listed other) e

-- and where none is found none begins the characters
none_of : (list : List Symbol) (cs us nid : List ℕ) → find_prefix list cs ≡ None → is_listed us list ≡ true → cs ≡ us ++ nid → ⊥
none_of [] cs us nid none listed e = cc
none_of (first ∷ list) cs us nid none listed e =
    elim (begins (symbol_text first) cs) as (λ k. (begins (symbol_text first) cs ≡ k) → (if k then Some first else find_prefix list cs) ≡ None → ⊥) [
      | true ↦ λ h none'. absurd (cc)
      | false ↦ λ h none'. none_of list cs us nid none' (listed_later first list us cs nid h listed e) e
    ] refl none

pub find_prefix-none : (first : ℕ) (more : List ℕ) (other : Symbol) (nid : List ℕ) → find_prefix (symbols_from first) (first ∷ more) ≡ None → first ∷ more ≡ symbol_text other ++ nid → ⊥
unfolding symbols_from
find_prefix-none first more other nid none e = none_of all_symbols (first ∷ more) (symbol_text other) nid (sym (prefix_only all_symbols first more) ∙ none) (all_listed other) e

-- the symbols of a list one after the other
pub prefix_here : (list : List Symbol) (i : ℕ) (d : Symbol) (cs mid : List ℕ) → i < length list → find_prefix (drop i list) cs ≡ find_prefix list cs → cs ≡ symbol_text (get_or list i d) ++ mid
    → find_prefix list cs ≡ Some (get_or list i d)
prefix_here list i d cs mid within so_far is =
    let test : begins (symbol_text (get_or list i d)) cs ≡ true = rw is (begins-append (symbol_text (get_or list i d)) mid) in
    sym so_far ∙ ap (λ l. find_prefix l cs) (drop_more list i d within) ∙ rw test refl

pub prefix_next : (list : List Symbol) (i : ℕ) (d : Symbol) (cs : List ℕ) → i < length list → find_prefix (drop i list) cs ≡ find_prefix list cs → ((mid : List ℕ) → cs ≡ symbol_text (get_or list i d) ++ mid → ⊥)
    → find_prefix (drop (i + 1) list) cs ≡ find_prefix list cs
prefix_next list i d cs within so_far none =
    let test : begins (symbol_text (get_or list i d)) cs ≡ false = begins-not (symbol_text (get_or list i d)) cs none in
    let here : find_prefix (drop i list) cs ≡ find_prefix (drop (i + 1) list) cs = ap (λ l. find_prefix l cs) (drop_more list i d within) ∙ rw test refl in
    sym here ∙ so_far
