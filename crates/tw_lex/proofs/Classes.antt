-- The first character of a piece tells its sort.
use Rattle.std.proofs.Common.{◌≡◌, ◌≢◌, ◌∙◌, sym, subst, ℕ, ◌<◌, ◌≤◌, ◌==◌, Bool, true, false, ◌||◌, ◌&&◌, ◌+◌, zero, suc, get_or, if◌then◌else◌, List, [], ◌∷◌, length, decimal, refl, ap, arith}
use Rattle.std.proofs.lemmas.Bool.{and_parts}
use Rattle.std.specs.Char.{is_ascii_digit, is_ascii_alphabetic}
use Rattle.std.specs.Int.{is_in_range}
use Rattle.std.specs.Bool.{beq}
use Rattle.std.specs.Str.{all_ascii_digits}
use Rattle.std.proofs.lemmas.Bool.Decides.{Decides-eqb, nat_tests}
use Rattle.std.proofs.lemmas.Str.Parse.{numerals_by_value, tells_all_ascii_digits}
use Rattle.std.proofs.lemmas.Fmt.{digits_decimal, decimal_nonempty}
use Rattle.unicode_ident.specs.Ident.{is_xid_start, is_xid_continue}
use Rattle.unicode_ident.proofs.Computing.{unicode_ident}
use Rattle.unicode_ident.proofs.IdentLemmas.{is_xid_start-ascii, is_xid_continue-ascii}
use Rattle.tw_lex.specs.declared.symbol.Symbol.{Symbol}
use Rattle.tw_lex.specs.declared.symbol.Symbol.TheVariants as symbols
use Rattle.tw_lex.specs.Symbols.{symbol_text, is_keyword, starts_with}
use Rattle.tw_lex.specs.Tokens.{Piece, Blank, Comment, Letters, Digits, Operator, piece_text, is_blank, starts_name, Stands, Ends}

-- the sort of a piece
abbrev pub sort : Piece → ℕ
sort (Blank c) = 0
sort (Comment cs) = 1
sort (Letters c cs) = 2
sort (Digits value) = 3
sort (Operator symbol) = 4

-- and the sort of a piece that begins with a character
unfoldable pub class : ℕ → ℕ
class c = if is_blank c then 0 else (if c == 47 then 1 else (if starts_name c then 2 else (if is_ascii_digit c then 3 else 4)))

class_by_tests : (c : ℕ) (blank slash name digit : Bool) → is_blank c ≡ blank → (c == 47) ≡ slash → starts_name c ≡ name → is_ascii_digit c ≡ digit
    → class c ≡ (if blank then 0 else (if slash then 1 else (if name then 2 else (if digit then 3 else 4))))
unfolding class
class_by_tests c blank slash name digit a b n d = rw (a, b, n, d) refl

no_name : (c d : ℕ) → starts_name c ≡ true → starts_name d ≡ false → (c == d) ≡ false
no_name c d name none =
    let same = Decides-eqb c d in
    elim (c == d) as (λ k. ((k ≡ true) → c ≡ d) → k ≡ false) [ true ↦ λ f. let e : c ≡ d = f refl in cc | false ↦ λ f. refl ] same.0

class-name : (c : ℕ) → starts_name c ≡ true → class c ≡ 2
unfolding unicode_ident class
class-name c name = rw (no_name c 32 name refl, no_name c 9 name refl, no_name c 13 name refl, no_name c 10 name refl, no_name c 47 name refl, name) refl

pub apart : (c d : ℕ) → c ≢ d → (c == d) ≡ false
apart c d other = elim (c == d) as (λ k. ((k ≡ true) → c ≡ d) → k ≡ false) [ true ↦ λ f. absurd (other (f refl)) | false ↦ λ f. refl ] (Decides-eqb c d).0

pub digit_bounds : (c : ℕ) → is_ascii_digit c ≡ true → (48 ≤ c) × (c < 58)
digit_bounds c digit = (grind (arith, nat_tests), grind (arith, nat_tests))

no_letter : (c : ℕ) → 48 ≤ c → c < 58 → is_ascii_alphabetic c ≡ false
no_letter c low high = grind (arith, nat_tests)

pub class-digit : (c : ℕ) → is_ascii_digit c ≡ true → class c ≡ 3
unfolding class
class-digit c digit =
    let bounds = digit_bounds c digit in
    let low = bounds.0 in
    let high = bounds.1 in
    let no_start : is_xid_start c ≡ false = is_xid_start-ascii c (omega arith) ∙ no_letter c low high in
    rw (apart c 32 (omega arith), apart c 9 (omega arith), apart c 13 (omega arith), apart c 10 (omega arith), apart c 47 (omega arith), no_start, apart c 95 (omega arith), digit) refl

-- and no other character is of their class
other_class : (blank slash : Bool) (k : ℕ) → k ≡ (if blank then 0 else (if slash then 1 else 4)) → k ≡ 3 → ⊥
other_class true slash k is e = omega arith
other_class false true k is e = omega arith
other_class false false k is e = omega arith

pub no_class_digit : (c : ℕ) → starts_name c ≡ false → is_ascii_digit c ≡ false → class c ≡ 3 → ⊥
no_class_digit c letter digit is = other_class (is_blank c) (c == 47) (class c) (class_by_tests c (is_blank c) (c == 47) false false refl refl letter digit) is

-- the ASCII characters that continue a name
any_order : (d u l e : Bool) → (((d || u) || l) || e) ≡ ((u || l) || (d || e))
any_order true true l e = refl
any_order true false true e = refl
any_order true false false e = refl
any_order false true l e = refl
any_order false false true e = refl
any_order false false false e = refl

pub ascii_continues : (c : ℕ) → c < 128 → is_xid_continue c ≡ (is_ascii_alphabetic c || (is_ascii_digit c || (c == 95)))
ascii_continues c small = is_xid_continue-ascii c small ∙ any_order (is_in_range 48 57 c) (is_in_range 65 90 c) (is_in_range 97 122 c) (c == 95)

-- a table of the ASCII characters that continue a name
same_bool : (a b : Bool) → beq a b ≡ true → a ≡ b
same_bool true true e = refl
same_bool false false e = refl
same_bool true false e = absurd (cc)
same_bool false true e = absurd (cc)

abbrev pub tells : List Bool → ℕ → Bool
tells [] c = true
tells (told ∷ table) c = beq told (is_ascii_alphabetic c || (is_ascii_digit c || (c == 95))) && tells table (c + 1)

told_at : (table : List Bool) (from i : ℕ) → tells table from ≡ true → i < length table → from + i < 128 → get_or table i false ≡ is_xid_continue (from + i)
told_at [] from i all inside small = absurd (omega arith)
told_at (told ∷ table) from zero all inside small =
    let parts = and_parts (beq told (is_ascii_alphabetic from || (is_ascii_digit from || (from == 95)))) (tells table (from + 1)) all in
    let at : from + 0 ≡ from = omega arith in
    rw at (same_bool _ _ parts.0 ∙ sym (ascii_continues from (omega (arith, small))))
told_at (told ∷ table) from (suc i) all inside small =
    let parts = and_parts (beq told (is_ascii_alphabetic from || (is_ascii_digit from || (from == 95)))) (tells table (from + 1)) all in
    let at : from + suc i ≡ from + 1 + i = omega arith in
    rw at (told_at table (from + 1) i parts.1 (omega (arith, inside)) (omega (arith, small)))

pub told : (table : List Bool) (c : ℕ) → tells table 0 ≡ true → length table ≡ 128 → c < 128 → get_or table c false ≡ is_xid_continue c
told table c all long small =
    let sum : 0 + c ≡ c = omega arith in
    subst (λ (n : ℕ). get_or table c false ≡ is_xid_continue n) sum (told_at table 0 c all (omega (arith, long, small)) (omega (arith, small)))

pub ascii_starts : (c : ℕ) → c < 128 → starts_name c ≡ (is_ascii_alphabetic c || (c == 95))
ascii_starts c small = rw (is_xid_start-ascii c small) refl

-- what goes on with no letter goes on with no digit
digit_continues : (c : ℕ) → is_xid_continue c ≡ false → is_ascii_digit c ≡ false
digit_continues c none =
    elim (is_ascii_digit c) as (λ k. (is_ascii_digit c ≡ k) → k ≡ false) [ true ↦ λ digit. let high = (digit_bounds c digit).1 in let e = is_xid_continue-ascii c (omega arith) in let known : is_ascii_digit c ≡ true = digit in absurd (grind (arith, nat_tests)) | false ↦ λ e. refl ] refl

pub ends-digits : (rest : List ℕ) → Ends is_xid_continue rest → Ends is_ascii_digit rest
ends-digits [] ends = refl
ends-digits (c ∷ rest) ends = digit_continues c ends

-- a piece that stands begins with a character of its sort
pub record Heads (piece : Piece) : Type 0 where
  pub c : ℕ
  pub cs : List ℕ
  pub text : piece_text piece ≡ c ∷ cs
  pub sorted : class c ≡ sort piece

heads-digits : (value : ℕ) (text : List ℕ) → text ≡ decimal value → all_ascii_digits text ≡ true → 0 < length text → Heads (Digits value)
heads-digits value [] is digits some = absurd (omega arith)
heads-digits value (c ∷ cs) is digits some = record { c = c; cs = cs; text = sym is; sorted = class-digit c (and_parts (is_ascii_digit c) (all_ascii_digits cs) digits).0 }

-- an operator's first character is of their class
abbrev heads_operator : Symbol → Bool
heads_operator symbol = is_keyword symbol || starts_with (λ c. class c == 4) (symbol_text symbol)

all_head : (symbol : Symbol) → heads_operator symbol ≡ true
unfolding unicode_ident class
all_head symbols.Swap = refl
all_head symbol = refl

heads-text : (symbol : Symbol) (text : List ℕ) → text ≡ symbol_text symbol → starts_with (λ c. class c == 4) text ≡ true → Heads (Operator symbol)
heads-text symbol [] is h = absurd (cc)
heads-text symbol (c ∷ cs) is h = record { c = c; cs = cs; text = sym is; sorted = (Decides-eqb (class c) 4).0 h }

heads-operator : (symbol : Symbol) → is_keyword symbol ≡ false → Heads (Operator symbol)
heads-operator symbol none = heads-text symbol (symbol_text symbol) refl (ap (λ k. k || starts_with (λ c. class c == 4) (symbol_text symbol)) (sym none) ∙ all_head symbol)

class-blank : (c : ℕ) → is_blank c ≡ true → class c ≡ 0
unfolding class
class-blank c blank = rw blank refl

class-slash : class 47 ≡ 1
unfolding class
class-slash = refl

pub heads : (piece : Piece) (rest : List ℕ) → Stands piece rest → Heads piece
heads (Blank c) rest stands = record { c = c; cs = []; text = refl; sorted = class-blank c stands }
heads (Comment cs) rest stands = record { c = 47; cs = 47 ∷ cs; text = refl; sorted = class-slash }
heads (Letters c cs) rest stands = record { c = c; cs = cs; text = refl; sorted = class-name c stands.0 }
heads (Digits value) rest stands =
    heads-digits value (decimal value) refl (digits_decimal (numerals_by_value _ tells_all_ascii_digits) value stands.0) (decimal_nonempty value stands.0)
heads (Operator symbol) rest stands = heads-operator symbol stands.0
