-- The word of a line and the numbers after it.
use Rattle.std.proofs.Common.{◌≡◌, ◌∙◌, ap, sym, ℕ, ◌<◌, ◌≤◌, ◌^◌, List, [], ◌∷◌, ◌++◌, length, codes, refl, arith}
use Rattle.std.specs.List.{AllByRecursion}
use Rattle.std.proofs.lemmas.Bool.{ne_eqb}
use Rattle.tw_gatetext.specs.Text.{spaced}
use Rattle.tw_gatetext.specs.Reading.{HasNoSpace, AreLineNumbers, IsLineOf}
use Rattle.tw_gatetext.proofs.Delimited.{Lacks, Small, word-delimited, numbers-delimited}

no_space-lacks : (word : List ℕ) → HasNoSpace word → Lacks 32 word
no_space-lacks [] none = tt
no_space-lacks (b ∷ word) none = (ne_eqb b 32 none.0, no_space-lacks word none.1)

no_space-within : (word rest : List ℕ) → HasNoSpace (word ++ 32 ∷ rest) → ⊥
no_space-within [] rest none = none.0 refl
no_space-within (b ∷ word) rest none = no_space-within word rest none.1

-- numbers begin with a space
numbers-begin : (ns text : List ℕ) → 1 ≤ length ns → (rest : List ℕ) × (spaced ns ++ text ≡ 32 ∷ rest)
numbers-begin [] text some = absurd (omega arith)
numbers-begin (n ∷ ns) text some = (_, refl)

-- bytes without a space are no line of a word and numbers
pub no_line : (bytes word ns rest : List ℕ) → HasNoSpace bytes → AreLineNumbers ns → IsLineOf bytes word ns rest → ⊥
no_line bytes word ns rest none are e =
    let first = numbers-begin ns (codes "\n" ++ rest) are.some in
    no_space-within word first.0 (rw (e, first.1) at none)

-- the suffix after the letters up to the first space is the suffix after the word
pub numbers-behind : (bytes letters behind spaced_rest word ns rest : List ℕ) → HasNoSpace letters → bytes ≡ letters ++ behind → behind ≡ codes " " ++ spaced_rest
    → HasNoSpace word → AreLineNumbers ns → IsLineOf bytes word ns rest → behind ≡ spaced ns ++ (codes "\n" ++ rest)
numbers-behind bytes letters behind spaced_rest word ns rest none parts begins none' are e =
    let first = numbers-begin ns (codes "\n" ++ rest) are.some in
    let joined : letters ++ 32 ∷ spaced_rest ≡ word ++ 32 ∷ first.0 = ap (λ t. letters ++ t) (sym begins) ∙ sym parts ∙ e ∙ ap (λ t. word ++ t) first.1 in
    begins ∙ ap (λ t. 32 ∷ t) (word-delimited 32 letters word spaced_rest first.0 (no_space-lacks letters none) (no_space-lacks word none') joined).1 ∙ sym first.1

small_words : (ns : List ℕ) → AllByRecursion (λ n. n < 2 ^ 32) ns → AllByRecursion Small ns
small_words [] small = tt
small_words (n ∷ ns) small = (omega (arith, small.0), small_words ns small.1)

-- a line determines its word, its numbers, and what follows it
pub words-delimited : (bytes word ns rest word' ns' rest' : List ℕ) → HasNoSpace word → AreLineNumbers ns → IsLineOf bytes word ns rest → HasNoSpace word' → AreLineNumbers ns' → IsLineOf bytes word' ns' rest'
    → (word ≡ word') × (ns ≡ ns') × (rest ≡ rest')
words-delimited bytes word ns rest word' ns' rest' none are e none' are' e' =
    let first = numbers-begin ns (codes "\n" ++ rest) are.some in
    let first' = numbers-begin ns' (codes "\n" ++ rest') are'.some in
    let joined : word ++ 32 ∷ first.0 ≡ word' ++ 32 ∷ first'.0 = ap (λ t. word ++ t) (sym first.1) ∙ sym e ∙ e' ∙ ap (λ t. word' ++ t) first'.1 in
    let words = word-delimited 32 word word' first.0 first'.0 (no_space-lacks word none) (no_space-lacks word' none') joined in
    let numbers = numbers-delimited ns ns' rest rest' (small_words ns are.small) (small_words ns' are'.small) (first.1 ∙ ap (λ t. 32 ∷ t) words.1 ∙ sym first'.1) in
    (words.0, numbers.0, numbers.1)
