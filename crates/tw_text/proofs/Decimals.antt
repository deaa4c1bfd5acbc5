-- Decimal texts, and the digits that a text begins with.
use Rattle.std.proofs.Common.{◌≡◌, ◌∙◌, ap, sym, ℕ, ◌+◌, ◌*◌, ◌<◌, ◌≤◌, ◌^◌, Bool, true, false, cond, List, [], ◌∷◌, ◌++◌, length, take, get_or, decimal, inl, inr, refl, arith}
use Rattle.std.proofs.lemmas.Bool.{and_parts, cases_lt}
use Rattle.std.specs.Char.{is_ascii_digit, digit_value}
use Rattle.std.specs.List.{prefix_len}
use Rattle.std.specs.Str.{all_ascii_digits}
use Rattle.std.specs.Str.Parse.{digits_value}
use Rattle.std.proofs.lemmas.List.{get_or-take, take-take}
use Rattle.std.proofs.lemmas.List.Folds.{length-prefix_len}
use Rattle.std.proofs.lemmas.List.Sums.{take_while-cons, prefix_len-le-length, prefix_len_passes, prefix_len_stops}
use Rattle.std.proofs.lemmas.List.Prefix.{front_rest}
use Rattle.std.proofs.lemmas.Int.Digits.{digits_value_more}
use Rattle.std.proofs.lemmas.Str.Parse.{numerals_by_value, tells_all_ascii_digits, digits_value-take-le}
use Rattle.std.proofs.lemmas.Fmt.{decimal_digit, decimal_nonempty, first_decimal, digits_decimal, digits_value-decimal, decimal-digits_value, decimal_injective}
use Rattle.tw_text.specs.Digits.{digit_run}

-- digits before a byte that is no digit are the whole run
digit_run-all : (digits : List ℕ) (c : ℕ) (rest : List ℕ) → all_ascii_digits digits ≡ true → is_ascii_digit c ≡ false → digit_run (digits ++ c ∷ rest) ≡ digits
digit_run-all [] c rest all none = rw (take_while-cons is_ascii_digit c rest, none)
digit_run-all (b ∷ digits) c rest all none =
    let both = and_parts (is_ascii_digit b) (all_ascii_digits digits) all in
    take_while-cons is_ascii_digit b (digits ++ c ∷ rest) ∙ rw (both.0, digit_run-all digits c rest both.1 none) refl

pub digit_run-decimal : (n c : ℕ) (rest : List ℕ) → n < 2 ^ 64 → is_ascii_digit c ≡ false → digit_run (decimal n ++ c ∷ rest) ≡ decimal n
digit_run-decimal n c rest small none =
    digit_run-all (decimal n) c rest (digits_decimal (numerals_by_value _ tells_all_ascii_digits) n small) none

-- a decimal text before a byte that is no digit determines its number, and the text after it
pub decimal-delimited : (n m c d : ℕ) (xs ys : List ℕ) → n < 2 ^ 64 → m < 2 ^ 64 → is_ascii_digit c ≡ false → is_ascii_digit d ≡ false
    → decimal n ++ c ∷ xs ≡ decimal m ++ d ∷ ys → (n ≡ m) × (c ∷ xs ≡ d ∷ ys)
decimal-delimited n m c d xs ys small small' none none' e =
    let same : decimal n ≡ decimal m = sym (digit_run-decimal n c xs small none) ∙ ap digit_run e ∙ digit_run-decimal m d ys small' none' in
    let text = decimal n ++ c ∷ xs in
    let suffix = front_rest text (decimal n) (c ∷ xs) refl in
    let suffix' = front_rest text (decimal m) (d ∷ ys) e in
    (decimal_injective n m small small' same, cc)

-- a digit after bytes of the run belongs to the run
pub run_goes_on : (bytes : List ℕ) (i : ℕ) → i ≤ prefix_len is_ascii_digit bytes → i < length bytes → is_ascii_digit (get_or bytes i 0) ≡ true → i < prefix_len is_ascii_digit bytes
run_goes_on bytes i front within digit = elim (cases_lt i (prefix_len is_ascii_digit bytes)) [
  | inl before ↦ before
  | inr beyond ↦
      let end : i ≡ prefix_len is_ascii_digit bytes = omega arith in
      let wrong : false ≡ true = sym (prefix_len_stops is_ascii_digit bytes 0 (omega (arith, end, within))) ∙ ap (λ k. is_ascii_digit (get_or bytes k 0)) (sym end) ∙ digit in
      absurd (cc)
]

-- bytes of the run without a digit after them are the whole run
pub run_ends : (bytes : List ℕ) (i value : ℕ) → i ≤ prefix_len is_ascii_digit bytes → value ≡ digits_value 10 (take i bytes) → (i < length bytes → is_ascii_digit (get_or bytes i 0) ≡ false) → (value ≡ digits_value 10 (digit_run bytes)) × (i ≡ length (digit_run bytes))
run_ends bytes i value front is none = elim (cases_lt i (prefix_len is_ascii_digit bytes)) [
  | inl before ↦
      let wrong : false ≡ true = sym (none (omega (arith, before, prefix_len-le-length is_ascii_digit bytes))) ∙ prefix_len_passes is_ascii_digit bytes i 0 before in
      absurd (cc)
  | inr beyond ↦
      let end : i ≡ prefix_len is_ascii_digit bytes = omega arith in
      (is ∙ ap (λ k. digits_value 10 (take k bytes)) end, end ∙ sym (length-prefix_len is_ascii_digit bytes))
]

-- if the digits so far and one more write too large a number, the run does
pub run_too_large : (bytes : List ℕ) (i : ℕ) → i < prefix_len is_ascii_digit bytes → 2 ^ 64 ≤ digits_value 10 (take i bytes) * 10 + digit_value (get_or bytes i 0) → 2 ^ 64 ≤ digits_value 10 (digit_run bytes)
run_too_large bytes i within large =
    let front = ap (digits_value 10) (take-take (i + 1) (prefix_len is_ascii_digit bytes) bytes (omega arith)) in
    let more = digits_value_more 10 bytes i (omega (arith, prefix_len-le-length is_ascii_digit bytes)) in
    omega (arith, large, front, more, digits_value-take-le 10 (digit_run bytes) (i + 1) (omega arith))

all_step : (b : ℕ) (k : Bool) (rest : List ℕ) → is_ascii_digit b ≡ k → all_ascii_digits rest ≡ true → all_ascii_digits (cond k (b ∷ rest) []) ≡ true
all_step b true rest is all = rw (is, all) refl
all_step b false rest is all = refl

run_digits : (bytes : List ℕ) → all_ascii_digits (digit_run bytes) ≡ true
run_digits [] = refl
run_digits (b ∷ bytes) = rw (take_while-cons is_ascii_digit b bytes) (all_step b (is_ascii_digit b) (digit_run bytes) refl (run_digits bytes))

-- a run without leading zero is the text of its number
pub run_decimal : (bytes : List ℕ) (value : ℕ) → value ≡ digits_value 10 (digit_run bytes) → value < 2 ^ 64 → 0 < length (digit_run bytes) → (get_or bytes 0 0 ≡ 48 → length (digit_run bytes) ≡ 1) → digit_run bytes ≡ decimal value
run_decimal bytes value is small some lead =
    let first = get_or-take (prefix_len is_ascii_digit bytes) bytes 0 0 (omega (arith, some, length-prefix_len is_ascii_digit bytes)) in
    sym (decimal-digits_value (numerals_by_value _ tells_all_ascii_digits) (digit_run bytes) (run_digits bytes) some (λ e. lead (sym first ∙ e)) (omega (arith, is, small))) ∙ ap decimal (sym is)

-- a run that writes too large a number is no decimal text of a 64-bit number
pub not_too_large : (run : List ℕ) → 2 ^ 64 ≤ digits_value 10 run → (n : ℕ) → n < 2 ^ 64 → run ≡ decimal n → ⊥
not_too_large run large n small e =
    let value = ap (digits_value 10) e ∙ digits_value-decimal (numerals_by_value _ tells_all_ascii_digits) n small in
    omega (arith, large, value, small)

-- an empty run is none
pub not_empty : (run : List ℕ) → 0 ≡ length run → (n : ℕ) → n < 2 ^ 64 → run ≡ decimal n → ⊥
not_empty run none n small e = omega (arith, none, ap length e, decimal_nonempty n small)

-- a run with a leading zero before a further digit is none
pub no_leading_zero : (bytes : List ℕ) → 1 < length (digit_run bytes) → get_or bytes 0 0 ≡ 48 → (n : ℕ) → n < 2 ^ 64 → digit_run bytes ≡ decimal n → ⊥
no_leading_zero bytes more zero n small e =
    let first = get_or-take (prefix_len is_ascii_digit bytes) bytes 0 0 (omega (arith, more, length-prefix_len is_ascii_digit bytes)) in
    elim (cases_lt 0 n) [
      | inl above ↦ omega (arith, first, zero, ap (λ run. get_or run 0 0) e, first_decimal n above small)
      | inr none ↦
          let is : n ≡ 0 = omega arith in
          omega (arith, more, ap length e, ap (λ k. length (decimal k)) is, ap length (decimal_digit 0 (omega arith)))
    ]
