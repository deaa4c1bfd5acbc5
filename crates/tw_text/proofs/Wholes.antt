-- Texts that consist of digits.
use Rattle.std.proofs.Common.{◌≡◌, ◌∙◌, ap, sym, ℕ, ◌<◌, ◌^◌, true, List, [], ◌∷◌, length, min, decimal, refl, arith}
use Rattle.std.proofs.lemmas.Bool.{and_parts}
use Rattle.std.specs.Char.{is_ascii_digit}
use Rattle.std.specs.Str.{all_ascii_digits}
use Rattle.std.specs.List.{prefix_len}
use Rattle.std.proofs.lemmas.List.{length-take, take_all}
use Rattle.std.proofs.lemmas.List.Sums.{take_while-cons}
use Rattle.std.proofs.lemmas.Str.Parse.{numerals_by_value, tells_all_ascii_digits}
use Rattle.std.proofs.lemmas.Fmt.{digits_decimal}
use Rattle.tw_text.specs.Digits.{digit_run}

digit_run-digits : (digits : List ℕ) → all_ascii_digits digits ≡ true → digit_run digits ≡ digits
digit_run-digits [] all = refl
digit_run-digits (b ∷ digits) all =
    let both = and_parts (is_ascii_digit b) (all_ascii_digits digits) all in
    take_while-cons is_ascii_digit b digits ∙ rw (both.0, digit_run-digits digits both.1) refl

-- a decimal text is its own prefix of digits
pub digit_run-whole : (n : ℕ) → n < 2 ^ 64 → digit_run (decimal n) ≡ decimal n
digit_run-whole n small = digit_run-digits (decimal n) (digits_decimal (numerals_by_value _ tells_all_ascii_digits) n small)

-- a prefix of digits as long as the text is the text
pub whole_run : (bytes : List ℕ) → length bytes ≡ length (digit_run bytes) → digit_run bytes ≡ bytes
whole_run bytes same =
    let end = prefix_len is_ascii_digit bytes in
    let e : length bytes ≡ min end (length bytes) = same ∙ length-take end bytes in
    take_all end bytes (omega arith)

-- a text whose prefix of digits is no decimal text is no decimal text
pub no_decimal : (bytes : List ℕ) → ((n : ℕ) → n < 2 ^ 64 → digit_run bytes ≡ decimal n → ⊥) → (n : ℕ) → n < 2 ^ 64 → bytes ≡ decimal n → ⊥
no_decimal bytes none n small same = none n small (ap digit_run same ∙ digit_run-whole n small)

pub no_decimal_beyond : (bytes : List ℕ) → (length (digit_run bytes) ≡ length bytes → ⊥) → (n : ℕ) → n < 2 ^ 64 → bytes ≡ decimal n → ⊥
no_decimal_beyond bytes longer n small same =
    longer (ap (λ b. length (digit_run b)) same ∙ ap length (digit_run-whole n small) ∙ sym (ap length same))
