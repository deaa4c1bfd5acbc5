-- Bytes that do not begin with a text, and numbers before a text that delimits them.
use Rattle.std.proofs.Common.{◌≡◌, ◌∙◌, ap, sym, ℕ, ◌<◌, ◌^◌, List, [], ◌∷◌, ◌++◌, decimal, Some, None}
use Rattle.std.proofs.lemmas.List.{append_cancel_left}
use Rattle.tw_text.specs.Digits.{digit_run}
use Rattle.tw_text.specs.Prefix.{after}
use Rattle.tw_text.proofs.Decimals.{digit_run-decimal}
use Rattle.tw_text.proofs.Prefixes.{after-append}
use Rattle.tw_state.specs.Reading.{Delimits}

pub not_after : (text bytes rest : List ℕ) → None ≡ after text bytes → bytes ≡ text ++ rest → ⊥
not_after text bytes rest none e =
    let found : after text bytes ≡ Some rest = ap (after text) e ∙ after-append text rest in
    cc

pub delimits-append : (tail rest : List ℕ) → Delimits tail → Delimits (tail ++ rest)
delimits-append [] rest delimits = absurd delimits
delimits-append (first ∷ tail) rest delimits = delimits

run_before : (number : ℕ) (tail : List ℕ) → number < 2 ^ 64 → Delimits tail → digit_run (decimal number ++ tail) ≡ decimal number
run_before number [] small delimits = absurd delimits
run_before number (first ∷ tail) small delimits = digit_run-decimal number first tail small delimits

-- the digits before a text that delimits a number are those of the number
pub digits_told : (number : ℕ) (bytes digits behind tail : List ℕ) → number < 2 ^ 64 → Delimits tail → digits ≡ digit_run bytes → bytes ≡ digits ++ behind → bytes ≡ decimal number ++ tail
    → (digits ≡ decimal number) × (behind ≡ tail)
digits_told number bytes digits behind tail small delimits run parts e =
    let same : digits ≡ decimal number = run ∙ ap digit_run e ∙ run_before number tail small delimits in
    (same, append_cancel_left digits behind tail (sym parts ∙ e ∙ ap (λ d. d ++ tail) (sym same)))
