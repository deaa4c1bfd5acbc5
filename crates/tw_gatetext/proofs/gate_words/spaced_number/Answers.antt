use Rattle.std.proofs.Common.{rules, arith, ◌≡◌, ◌∙◌, ap, sym, ℕ, ◌<◌, ◌^◌, decimal, ◌++◌, codes, Some, None, Result, Ok, Err}
use Rattle.std.specs.Result.{OkIff, result_ok}
use Rattle.tw_text.proofs.Prefixes.{append-after}
use Rattle.tw_gatetext.proofs.Delimited.{ends}
use Rattle.tw_gatetext.proofs.DigitRuns.{not_after, run-told, number-told}
use Rattle.tw_gatetext.proofs.SpacedNumbers.{space-behind}
use Rattle.tw_gatetext.proofs.gate_words.spaced_number.Goals as goal

word-same : {E : Type 0} (r : Result ℕ E) (number word : ℕ) → OkIff r (number < 2 ^ 32) number → Some word ≡ result_ok r → word ≡ number
word-same (Ok x) number word told is = let same = told.1 in cc
word-same (Err e) number word told is = cc

word-over : {E : Type 0} (r : Result ℕ E) (number : ℕ) → OkIff r (number < 2 ^ 32) number → None ≡ result_ok r → number < 2 ^ 32 → ⊥
word-over (Ok x) number told is small = cc
word-over (Err e) number told is small = told small

pub returns-in_err-after_byte-clause-none : goal.returns-in_err-after_byte-clause-none
returns-in_err-after_byte-clause-none c = rw c.from_residual.ensures (λ n ns rest small e. not_after (codes " ") c.args.bytes.now _ c.in_err-after_byte.ensures e)

pub returns-in_err-number-clause-none : goal.returns-in_err-number-clause-none
returns-in_err-number-clause-none c =
    rw c.from_residual-in_err-number.ensures
    (λ n ns rest small e.
    c.in_err-number.ensures.none n (omega arith)
    (run-told n c.in_ok-after_byte.field-0.now _ (omega arith) (ends ns rest) (space-behind c.args.bytes.now _ c.in_ok-after_byte.ensures n ns rest e)))

pub returns-in_err-ok-clause-none : goal.returns-in_err-ok-clause-none
returns-in_err-ok-clause-none c =
    rw c.from_residual-in_err-ok.ensures
    (λ n ns rest small e.
    let same = number-told n c.in_ok-number.number c.in_ok-after_byte.field-0.now _ _ (omega arith) (search rules) (ends ns rest) c.in_ok-number.ensures.whole c.in_ok-number.ensures.some
    (space-behind c.args.bytes.now _ c.in_ok-after_byte.ensures n ns rest e) in
    word-over c.try_from.result c.in_ok-number.number c.try_from.ensures c.in_err-ok.ensures.value (rw same.0 at small))

pub returns-clause-some : goal.returns-clause-some
returns-clause-some c =
    let same = word-same c.try_from.result c.in_ok-number.number c.in_ok-ok.field-0 c.try_from.ensures c.in_ok-ok.ensures.value in
    append-after (codes " ") c.args.bytes.now _ (sym c.in_ok-after_byte.ensures) ∙ ap (λ t. codes " " ++ t) (c.in_ok-number.ensures.some ∙ ap (λ n. decimal n ++ c.in_ok-number.rest.now) (sym same))

pub returns-clause-only : goal.returns-clause-only
returns-clause-only c n ns rest small e =
    let same = number-told n c.in_ok-number.number c.in_ok-after_byte.field-0.now _ _ (omega arith) (search rules) (ends ns rest) c.in_ok-number.ensures.whole c.in_ok-number.ensures.some
    (space-behind c.args.bytes.now _ c.in_ok-after_byte.ensures n ns rest e) in
    (same.0 ∙ sym (word-same c.try_from.result c.in_ok-number.number c.in_ok-ok.field-0 c.try_from.ensures c.in_ok-ok.ensures.value), same.1)
