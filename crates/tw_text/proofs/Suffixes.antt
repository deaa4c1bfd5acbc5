-- The laws of suffixes.
use Rattle.std.proofs.Common.{◌≡◌, ◌∙◌, ap, sym, ℕ, ◌-◌, List, ◌++◌, append_assoc, length, take, arith, length-append}
use Rattle.std.specs.Char.{encode_utf8}
use Rattle.std.specs.Str.{chars, IsUtf8, IsCharBoundary, encode_utf8_all}
use Rattle.std.proofs.lemmas.Str.{chars_past_char, chars-append, length-encode, len_utf8_bounds, IsCharBoundary-at_seam, IsUtf8-take, encodes-chars, encodes-append}
use Rattle.std.specs.Str.Pattern.{FindsTextPrefix, StripsPrefix, LacksTextAt}
use Rattle.std.proofs.Math.Seq.{take-append_seam}
use Rattle.tw_text.specs.Suffixes.{Begins, EndsWith, Follows}

pub begins : (text rest : List ℕ) (c : ℕ) → IsUtf8 text → text ≡ encode_utf8 c ++ rest → Begins text c rest
begins text rest c utf8 e = record {
  spelled = chars_past_char text rest c utf8 e;
  suffix = record { prefix = encode_utf8 c; parts = e };
  shorter = omega (arith, ap length e, length-append (encode_utf8 c) rest, length-encode c, len_utf8_bounds c);
}

prefix_length : (text rest : List ℕ) (ends : EndsWith text rest) → length text - length rest ≡ length ends.prefix
prefix_length text rest ends = omega (arith, ap length ends.parts, length-append ends.prefix rest)

-- a text has a character boundary before its suffix
pub boundary : (text rest : List ℕ) → EndsWith text rest → IsUtf8 rest → IsCharBoundary text (length text - length rest)
boundary text rest ends utf8 = rw (prefix_length text rest ends) (IsCharBoundary-at_seam text ends.prefix rest ends.parts utf8)

-- the characters of a text are those of its prefix, then those of its suffix
pub spelled_apart : (text rest prefix : List ℕ) → EndsWith text rest → IsUtf8 text → IsUtf8 rest → prefix ≡ take (length text - length rest) text → chars text ≡ chars prefix ++ chars rest
spelled_apart text rest prefix ends utf8 utf8' is =
    let at = IsUtf8-take text (length text - length rest) utf8 (boundary text rest ends utf8') in
    let same : prefix ≡ ends.prefix = is ∙ ap (λ n. take n text) (prefix_length text rest ends) ∙ ap (take (length ends.prefix)) ends.parts ∙ take-append_seam ends.prefix rest in
    ap chars (ends.parts ∙ ap (λ x. x ++ rest) (sym same)) ∙ chars-append prefix rest (rw is at)

pub follows : (text prefix rest : List ℕ) → IsUtf8 prefix → StripsPrefix (FindsTextPrefix prefix) text rest → Follows text prefix rest
follows text prefix rest utf8 h =
    let e : text ≡ prefix ++ rest = h.1.1 ∙ ap (λ x. prefix ++ x) (sym h.2) in
    record { spelled = ap chars e ∙ chars-append prefix rest utf8; suffix = record { prefix = prefix; parts = e } }

pub no_prefix : (text prefix : List ℕ) → IsUtf8 text → IsUtf8 prefix → LacksTextAt prefix text 0 → (mid : List ℕ) → chars text ≡ chars prefix ++ mid → ⊥
no_prefix text prefix utf8 utf8' lacks mid e =
    lacks (encode_utf8_all mid) (sym (encodes-chars text utf8) ∙ ap encode_utf8_all e ∙ encodes-append (chars prefix) mid ∙ ap (λ x. x ++ encode_utf8_all mid) (encodes-chars prefix utf8'))

-- a suffix of a suffix is a suffix of the text
pub ends_with_both : (text mid rest : List ℕ) → EndsWith text mid → EndsWith mid rest → EndsWith text rest
ends_with_both text mid rest a b =
    record { prefix = a.prefix ++ b.prefix; parts = a.parts ∙ ap (λ x. a.prefix ++ x) b.parts ∙ sym (append_assoc a.prefix b.prefix rest) }
