-- Numbers after spaces, up to the end of a line.
use Rattle.std.proofs.Common.{◌≡◌, ◌∙◌, ap, sym, ℕ, ◌<◌, ◌≤◌, ◌^◌, List, [], ◌∷◌, ◌++◌, length, decimal, codes, Some, None, refl, arith, append_assoc, append-nil, length-append}
use Rattle.std.specs.List.{AllByRecursion}
use Rattle.tw_text.specs.Prefix.{after}
use Rattle.tw_text.proofs.Prefixes.{after-append, append-after}
use Rattle.tw_gatetext.specs.Text.{spaced}
use Rattle.tw_gatetext.proofs.Lists.{all_push, spaced-append}
use Rattle.tw_gatetext.proofs.DigitRuns.{not_after}

-- the bytes are these numbers up to the end of the line, then this text
abbrev pub IsRestOfLine : List ℕ → List ℕ → List ℕ → Type 0
IsRestOfLine bytes ns text = bytes ≡ spaced ns ++ (codes "\n" ++ text)

abbrev pub AreWords : List ℕ → Type 0
AreWords ns = AllByRecursion (λ n. n < 2 ^ 32) ns

-- the suffix after the space before the first number
pub space-behind : (bytes behind : List ℕ) → Some behind ≡ after (codes " ") bytes → (n : ℕ) (ns text : List ℕ) → IsRestOfLine bytes (n ∷ ns) text → behind ≡ decimal n ++ (spaced ns ++ (codes "\n" ++ text))
space-behind bytes behind found n ns text e =
    let all = decimal n ++ (spaced ns ++ (codes "\n" ++ text)) in
    let nested : bytes ≡ codes " " ++ all = e ∙ ap (λ t. codes " " ++ t) (append_assoc (decimal n) (spaced ns) (codes "\n" ++ text)) in
    let other : Some behind ≡ Some all = found ∙ ap (after (codes " ")) nested ∙ after-append (codes " ") all in
    cc

-- these of the numbers of a line were read, and further ones are left
pub record IsLeft (read left ns text : List ℕ) : Type 0 where
  pub more : List ℕ
  pub whole : ns ≡ read ++ more
  pub words : AreWords more
  pub is_rest : IsRestOfLine left more text

-- These numbers were read at the start of the bytes, and this suffix is left. The numbers of every line that the bytes begin with
-- begin with these.
pub record HasRead (bytes read left : List ℕ) : Type 0 where
  pub parts : bytes ≡ spaced read ++ left
  pub words : AreWords read
  pub only : (ns text : List ℕ) → AreWords ns → IsRestOfLine bytes ns text → IsLeft read left ns text

pub read-start : (bytes read : List ℕ) → read ≡ [] → HasRead bytes read bytes
read-start bytes read none =
    rw none (record { parts = refl; words = tt; only = λ ns text words e. record { more = ns; whole = refl; words = words; is_rest = e } })

apart : (xs ys : List ℕ) → codes "\n" ++ xs ≡ codes " " ++ ys → ⊥
apart xs ys e = cc

left-more : (read left ns text : List ℕ) (n : ℕ) (behind more : List ℕ) → left ≡ codes " " ++ (decimal n ++ behind)
    → ((m : ℕ) (ms : List ℕ) → m < 2 ^ 32 → IsRestOfLine left (m ∷ ms) text → (m ≡ n) × IsRestOfLine behind ms text)
    → ns ≡ read ++ more → AreWords more → IsRestOfLine left more text → IsLeft (read ++ n ∷ []) behind ns text
left-more read left ns text n behind [] begins only whole words e =
    absurd (apart text _ (sym e ∙ begins))
left-more read left ns text n behind (m ∷ more) begins only whole words e =
    let next = only m more words.0 e in
    record {
      more = more;
      whole = whole ∙ ap (λ k. read ++ k ∷ more) next.0 ∙ sym (append_assoc read (n ∷ []) more);
      words = words.1;
      is_rest = next.1;
    }

-- one more number is read
pub read-more : (bytes read left : List ℕ) (n : ℕ) (behind all : List ℕ) → HasRead bytes read left → left ≡ codes " " ++ (decimal n ++ behind)
    → ((m : ℕ) (ms text : List ℕ) → m < 2 ^ 32 → IsRestOfLine left (m ∷ ms) text → (m ≡ n) × IsRestOfLine behind ms text)
    → n < 2 ^ 32 → all ≡ read ++ n ∷ [] → HasRead bytes all behind
read-more bytes read left n behind all so begins only small pushed =
    rw pushed
    (record {
      parts = so.parts ∙ ap (λ t. spaced read ++ t) begins ∙ rw (spaced-append read (n ∷ [])) (simp (append_assoc, append-nil));
      words = all_push (λ k. k < 2 ^ 32) read n so.words small;
      only = λ ns text words e.
          let is = so.only ns text words e in
          left-more read left ns text n behind is.more begins (λ m ms small e'. only m ms text small e') is.whole is.words is.is_rest;
    })

-- the line ends after the numbers
pub read-whole : (bytes read left behind : List ℕ) → HasRead bytes read left → Some behind ≡ after (codes "\n") left → IsRestOfLine bytes read behind
read-whole bytes read left behind so found = so.parts ∙ ap (λ t. spaced read ++ t) (append-after (codes "\n") left behind (sym found))

left-none : (left more text : List ℕ) → None ≡ after (codes "\n") left → ((m : ℕ) (ms : List ℕ) → m < 2 ^ 32 → IsRestOfLine left (m ∷ ms) text → ⊥) → AreWords more → IsRestOfLine left more text → ⊥
left-none left [] text none no_number words e = not_after (codes "\n") left text none e
left-none left (m ∷ more) text none no_number words e = no_number m more words.0 e

-- neither the end of the line nor a number follows
pub read-none : (bytes read left ns text : List ℕ) → HasRead bytes read left → None ≡ after (codes "\n") left
    → ((m : ℕ) (ms text : List ℕ) → m < 2 ^ 32 → IsRestOfLine left (m ∷ ms) text → ⊥)
    → AreWords ns → IsRestOfLine bytes ns text → ⊥
read-none bytes read left ns text so none no_number words e =
    let is = so.only ns text words e in
    left-none left is.more text none (λ m ms. no_number m ms text) is.words is.is_rest

left-full : (read left ns text more : List ℕ) → None ≡ after (codes "\n") left → length ns ≤ length read → ns ≡ read ++ more → IsRestOfLine left more text → ⊥
left-full read left ns text [] none few whole e = not_after (codes "\n") left text none e
left-full read left ns text (m ∷ more) none few whole e = absurd (omega (arith, ap length whole, length-append read (m ∷ more)))

-- the end of the line does not follow, and there are no further numbers
pub read-full : (bytes read left ns text : List ℕ) → HasRead bytes read left → None ≡ after (codes "\n") left → length ns ≤ length read → AreWords ns → IsRestOfLine bytes ns text → ⊥
read-full bytes read left ns text so none few words e =
    let is = so.only ns text words e in
    left-full read left ns text is.more none few is.whole is.is_rest
