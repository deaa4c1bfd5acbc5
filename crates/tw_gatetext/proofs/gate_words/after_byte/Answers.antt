use Rattle.std.proofs.Common.{◌≡◌, ◌∙◌, ap, sym, ℕ, List, [], ◌∷◌, length, arith}
use Rattle.tw_text.specs.Prefix.{after}
use Rattle.tw_text.proofs.Prefixes.{after-append}
use Rattle.tw_gatetext.proofs.DigitRuns.{none_after}
use Rattle.tw_gatetext.proofs.gate_words.after_byte.Goals as goal
use Rattle.tw_gatetext.proofs.gate_words.after_byte.Goals.{in_default-via-in-Some+else-first-byte, in_default-via-in_default}

same_first : (first byte : ℕ) (xs ys : List ℕ) → first ∷ xs ≡ byte ∷ ys → first ≡ byte
same_first first byte xs ys e = cc

some_length : (byte : ℕ) (ys : List ℕ) → length (byte ∷ ys) ≡ 0 → ⊥
some_length byte ys e = omega (arith, e)

pub returns-in-Some : goal.returns-in-Some
returns-in-Some c =
    let front = c.args.byte ∷ [] in
    let is : c.args.bytes.now ≡ c.args.byte ∷ c.in-Some.rest.now = c.in-Some.ensures.cases.0 ∙ ap (λ (b : ℕ). b ∷ c.in-Some.rest.now) c.if-first-byte.true in
    sym (ap (after front) is ∙ after-append front c.in-Some.rest.now)

pub returns-in_default : goal.returns-in_default
returns-in_default c =
    none_after (c.args.byte ∷ []) c.args.bytes.now
    (λ rest is.
    elim c.in_default.branch [
      | in_default-via-in-Some+else-first-byte w ↦ w.if-first-byte.false (same_first _ _ _ _ (sym w.in-Some.ensures.cases.0 ∙ is))
      | in_default-via-in_default w ↦ some_length c.args.byte rest (sym (ap length is) ∙ w.in_default.ensures.cases)
    ])
