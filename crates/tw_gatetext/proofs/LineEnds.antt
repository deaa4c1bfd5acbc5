-- The line of a gate ends with its only newline.
use Rattle.std.proofs.Common.{◌≡◌, ◌∙◌, ap, sym, ℕ, true, List, [], ◌∷◌, ◌++◌, length, decimal, codes, inl, inr, refl, arith, append_assoc, append-nil, length-append}
use Rattle.std.specs.List.{AllByRecursion}
use Rattle.std.specs.Char.{is_ascii_digit}
use Rattle.std.specs.Str.{all_ascii_digits}
use Rattle.std.proofs.lemmas.Bool.{and_parts}
use Rattle.std.proofs.lemmas.Fmt.{digits_decimal}
use Rattle.std.proofs.lemmas.Str.Parse.{numerals_by_value, tells_all_ascii_digits}
use Rattle.tw_gate.specs.Gates.{PlainGate, X, H, T, Tdg}
use Rattle.tw_gatetext.specs.Text.{spaced, line, lines}
use Rattle.tw_gatetext.specs.LineWords.{letters, numbers_of}
use Rattle.tw_gatetext.specs.Inverting.{EndsLine, HasNoNewline}
use Rattle.tw_gatetext.proofs.OneToOne.{HasSmallNumbers, line-letters}
use Rattle.tw_gatetext.proofs.Delimited.{Small}

no_newline-append : (xs ys : List ℕ) → HasNoNewline xs → HasNoNewline ys → HasNoNewline (xs ++ ys)
no_newline-append [] ys none none' = none'
no_newline-append (x ∷ xs) ys none none' = (none.0, no_newline-append xs ys none.1 none')

no_newline-digits : (digits : List ℕ) → all_ascii_digits digits ≡ true → HasNoNewline digits
no_newline-digits [] all = tt
no_newline-digits (b ∷ digits) all =
    let both = and_parts (is_ascii_digit b) (all_ascii_digits digits) all in
    ((λ (same : b ≡ 10). let apart : true ≡ is_ascii_digit 10 = sym both.0 ∙ ap is_ascii_digit same in cc), no_newline-digits digits both.1)

no_newline-spaced : (ns : List ℕ) → AllByRecursion Small ns → HasNoNewline (spaced ns)
no_newline-spaced [] small = tt
no_newline-spaced (n ∷ ns) small =
    ((λ same. cc), no_newline-append (decimal n) (spaced ns) (no_newline-digits (decimal n) (digits_decimal (numerals_by_value _ tells_all_ascii_digits) n small.0)) (no_newline-spaced ns small.1))

no_newline-letters : (gate : PlainGate) → HasNoNewline (letters gate)
no_newline-letters (X [] target) = ((λ same. cc), tt)
no_newline-letters (X (a ∷ []) target) = ((λ same. cc), ((λ same. cc), tt))
no_newline-letters (X (a ∷ b ∷ []) target) = ((λ same. cc), ((λ same. cc), ((λ same. cc), tt)))
no_newline-letters (X (a ∷ b ∷ c ∷ rest) target) = ((λ same. cc), ((λ same. cc), ((λ same. cc), tt)))
no_newline-letters (H wire) = ((λ same. cc), tt)
no_newline-letters (T wire) = ((λ same. cc), tt)
no_newline-letters (Tdg wire) = ((λ same. cc), ((λ same. cc), ((λ same. cc), tt)))

-- the line of a gate without its end
abbrev pub front_of : PlainGate → List ℕ
front_of gate = letters gate ++ spaced (numbers_of gate)

pub line-front : (gate : PlainGate) → line gate ≡ front_of gate ++ codes "\n"
line-front gate = sym (append-nil (line gate)) ∙ line-letters gate [] ∙ sym (append_assoc (letters gate) (spaced (numbers_of gate)) (codes "\n"))

pub no_newline-front : (gate : PlainGate) → HasSmallNumbers gate → HasNoNewline (front_of gate)
no_newline-front gate small = no_newline-append (letters gate) (spaced (numbers_of gate)) (no_newline-letters gate) (no_newline-spaced (numbers_of gate) small)

ends_more : (gate : PlainGate) (rest : List ℕ) → EndsLine rest → EndsLine (line gate ++ rest)
ends_more gate rest (inl empty) = inr (front_of gate, rw (empty, append-nil (line gate)) (line-front gate))
ends_more gate rest (inr ended) = inr (line gate ++ ended.0, ap (λ (text : List ℕ). line gate ++ text) ended.1 ∙ sym (append_assoc (line gate) ended.0 (codes "\n")))

-- the lines of gates end with the end of a line
pub lines-end : (gates : List PlainGate) → EndsLine (lines gates)
lines-end [] = inl refl
lines-end (gate ∷ gates) = ends_more gate (lines gates) (lines-end gates)

-- an empty text is the lines of no gates
pub no_lines : (gates : List PlainGate) → length (lines gates) ≡ 0 → gates ≡ []
no_lines [] none = refl
no_lines (gate ∷ gates) none =
    absurd (omega (arith, none, length-append (line gate) (lines gates), ap length (line-front gate), length-append (front_of gate) (codes "\n")))
