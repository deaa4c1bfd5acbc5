-- The digits that a text begins with, and the suffix after them.
use Rattle.std.proofs.Common.{◌≡◌, ◌∙◌, ap, sym, ℕ, Bool, true, false, cond, List, [], ◌∷◌, ◌++◌, decimal, codes, Option, Some, None, refl}
use Rattle.std.specs.Char.{is_ascii_digit}
use Rattle.std.proofs.lemmas.List.{append_cancel_left}
use Rattle.std.proofs.lemmas.List.Sums.{take_while-cons}
use Rattle.std.proofs.lemmas.Fmt.{decimal_injective}
use Rattle.tw_text.specs.Digits.{digit_run}
use Rattle.tw_text.specs.Prefix.{after}
use Rattle.tw_text.proofs.Decimals.{digit_run-decimal}
use Rattle.tw_text.proofs.Prefixes.{after-append, append-after}
use Rattle.tw_gatetext.specs.Numerals.{Shows, Word, Larger, IsNumeral}
use Rattle.tw_gatetext.proofs.Delimited.{Ends, Small}

pub not_after : (front bytes rest : List ℕ) → None ≡ after front bytes → bytes ≡ front ++ rest → ⊥
not_after front bytes rest none e =
    let found : after front bytes ≡ Some rest = ap (after front) e ∙ after-append front rest in
    cc

after_none : (front bytes : List ℕ) (found : Option (List ℕ)) → after front bytes ≡ found → ((rest : List ℕ) → ¬ (bytes ≡ front ++ rest)) → None ≡ found
after_none front bytes None is never = refl
after_none front bytes (Some rest) is never = absurd (never rest (append-after front bytes rest is))

-- bytes that do not begin with a prefix have no suffix after it
pub none_after : (front bytes : List ℕ) → ((rest : List ℕ) → ¬ (bytes ≡ front ++ rest)) → None ≡ after front bytes
none_after front bytes never = after_none front bytes (after front bytes) refl never

pub run-told : (n : ℕ) (bytes text : List ℕ) → Small n → Ends text → bytes ≡ decimal n ++ text → digit_run bytes ≡ decimal n
run-told n bytes text small end e =
    ap digit_run (e ∙ ap (λ t. decimal n ++ t) end.is) ∙ digit_run-decimal n end.first end.rest small end.no_digit

-- if no digit follows, the number that is read is the one that is written
pub number-told : (n m : ℕ) (bytes rest text : List ℕ) → Small n → Small m → Ends text → digit_run bytes ≡ decimal m → bytes ≡ decimal m ++ rest → bytes ≡ decimal n ++ text → (n ≡ m) × (rest ≡ text)
number-told n m bytes rest text small small' end run read e =
    let same = decimal_injective n m small small' (sym (run-told n bytes text small end e) ∙ run) in
    (same, append_cancel_left (decimal m) rest text (sym read ∙ e ∙ ap (λ k. decimal k ++ text) same))

run_step : (b : ℕ) (k : Bool) (bytes : List ℕ) → is_ascii_digit b ≡ k → digit_run (digit_run bytes) ≡ digit_run bytes → digit_run (cond k (b ∷ digit_run bytes) []) ≡ cond k (b ∷ digit_run bytes) []
run_step b true bytes is same = take_while-cons is_ascii_digit b (digit_run bytes) ∙ rw (is, same) refl
run_step b false bytes is same = refl

pub digit_run-run : (bytes : List ℕ) → digit_run (digit_run bytes) ≡ digit_run bytes
digit_run-run [] = refl
digit_run-run (b ∷ bytes) = rw (take_while-cons is_ascii_digit b bytes) (run_step b (is_ascii_digit b) bytes refl (digit_run-run bytes))

line_step : (b : ℕ) (k : Bool) (digits rest : List ℕ) → cond k (b ∷ digit_run digits) [] ≡ b ∷ digits → (digit_run digits ≡ digits → digit_run (digits ++ 10 ∷ rest) ≡ digits) → cond k (b ∷ digit_run (digits ++ 10 ∷ rest)) [] ≡ b ∷ digits
line_step b true digits rest whole more = ap (λ d. b ∷ d) (more cc)
line_step b false digits rest whole more = cc

-- digits before the end of a line are the whole run
pub digit_run-line : (digits rest : List ℕ) → digit_run digits ≡ digits → digit_run (digits ++ (codes "\n" ++ rest)) ≡ digits
digit_run-line [] rest whole = refl
digit_run-line (b ∷ digits) rest whole =
    take_while-cons is_ascii_digit b (digits ++ 10 ∷ rest)
    ∙ line_step b (is_ascii_digit b) digits rest (sym (take_while-cons is_ascii_digit b digits) ∙ whole) (digit_run-line digits rest)

shows_by_run : (text other : List ℕ) (number : ℕ) → digit_run text ≡ digit_run other → Shows text number → Shows other number
shows_by_run text other number same (Word small is) = Word small (sym same ∙ is)
shows_by_run text other number same (Larger larger is) = Larger (rw same at larger) is

pub numeral-read : (bytes digits : List ℕ) (number : ℕ) → digits ≡ digit_run bytes → Shows bytes number → IsNumeral digits
numeral-read bytes digits number is shows =
    let whole : digit_run digits ≡ digits = rw is (digit_run-run bytes) in
    record { number = number; shows = shows_by_run bytes digits number (sym is ∙ sym whole) shows; whole = whole }

pub numeral-shown : (bytes numeral rest : List ℕ) (is : IsNumeral numeral) → bytes ≡ numeral ++ (codes "\n" ++ rest) → Shows bytes is.number
numeral-shown bytes numeral rest is e =
    let run : digit_run bytes ≡ numeral = ap digit_run e ∙ digit_run-line numeral rest is.whole in
    shows_by_run numeral bytes is.number (is.whole ∙ sym run) is.shows

-- the suffix after the digits is the suffix after the numeral
pub numeral-behind : (bytes digits behind numeral rest : List ℕ) → digits ≡ digit_run bytes → bytes ≡ digits ++ behind → IsNumeral numeral → bytes ≡ numeral ++ (codes "\n" ++ rest) → behind ≡ codes "\n" ++ rest
numeral-behind bytes digits behind numeral rest run parts is e =
    let same : digits ≡ numeral = run ∙ ap digit_run e ∙ digit_run-line numeral rest is.whole in
    append_cancel_left digits behind (codes "\n" ++ rest) (sym parts ∙ e ∙ ap (λ d. d ++ (codes "\n" ++ rest)) (sym same))
