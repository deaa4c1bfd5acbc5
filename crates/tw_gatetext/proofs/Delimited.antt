-- The end of a word, a number or a line, and that a text determines them.
use Rattle.std.proofs.Common.{◌≡◌, ◌∙◌, sym, ℕ, ◌<◌, ◌^◌, nat_eq, false, List, [], ◌∷◌, ◌++◌, decimal, codes, refl, append_assoc}
use Rattle.std.proofs.lemmas.Bool.Decides.{Decides-eqb}
use Rattle.std.specs.Char.{is_ascii_digit}
use Rattle.std.specs.List.{AllByRecursion}
use Rattle.tw_gatetext.specs.Text.{spaced}
use Rattle.tw_text.proofs.Decimals.{decimal-delimited}

-- the byte is not among these
abbrev pub Lacks : ℕ → List ℕ → Type 0
Lacks c word = AllByRecursion (λ b. nat_eq b c ≡ false) word

apart : (b c : ℕ) → nat_eq b c ≡ false → b ≡ c → ⊥
apart b c test same = let true_too = (Decides-eqb b c).1 same in cc

pub word-delimited : (c : ℕ) (word other xs ys : List ℕ) → Lacks c word → Lacks c other → word ++ c ∷ xs ≡ other ++ c ∷ ys → (word ≡ other) × (xs ≡ ys)
word-delimited c [] [] xs ys lacks lacks' e = (refl, cc)
word-delimited c [] (b ∷ other) xs ys lacks lacks' e = absurd (apart b c lacks'.0 cc)
word-delimited c (b ∷ word) [] xs ys lacks lacks' e = absurd (apart b c lacks.0 cc)
word-delimited c (a ∷ word) (b ∷ other) xs ys lacks lacks' e =
    let behind = word-delimited c word other xs ys lacks.1 lacks'.1 cc in
    let same = behind.0 in
    (cc, behind.1)

-- the text after a number begins with a byte that is no digit
pub record Ends (text : List ℕ) : Type 0 where
  pub first : ℕ
  pub rest : List ℕ
  pub is : text ≡ first ∷ rest
  pub no_digit : is_ascii_digit first ≡ false

pub ends : (numbers xs : List ℕ) → Ends (spaced numbers ++ (codes "\n" ++ xs))
ends [] xs = record { first = 10; rest = xs; is = refl; no_digit = refl }
ends (n ∷ numbers) xs = record { first = 32; rest = _; is = refl; no_digit = refl }

abbrev pub Small : ℕ → Type 0
Small n = n < 2 ^ 64

number-delimited : (n m : ℕ) (text other : List ℕ) → Small n → Small m → Ends text → Ends other → decimal n ++ text ≡ decimal m ++ other → (n ≡ m) × (text ≡ other)
number-delimited n m text other small small' end end' e =
    let both = decimal-delimited n m end.first end'.first end.rest end'.rest small small' end.no_digit end'.no_digit (rw (← end.is, ← end'.is) e) in
    (both.0, end.is ∙ both.1 ∙ sym end'.is)

pub decimal_line-delimited : (n m : ℕ) (xs ys : List ℕ) → Small n → Small m → decimal n ++ (codes "\n" ++ xs) ≡ decimal m ++ (codes "\n" ++ ys) → (n ≡ m) × (xs ≡ ys)
decimal_line-delimited n m xs ys small small' e =
    let both = number-delimited n m _ _ small small' (ends [] xs) (ends [] ys) e in
    (both.0, cc)

pub numbers-delimited : (ns ms xs ys : List ℕ) → AllByRecursion Small ns → AllByRecursion Small ms → spaced ns ++ (codes "\n" ++ xs) ≡ spaced ms ++ (codes "\n" ++ ys) → (ns ≡ ms) × (xs ≡ ys)
numbers-delimited [] [] xs ys small small' e = (refl, cc)
numbers-delimited [] (m ∷ ms) xs ys small small' e = absurd (apart 10 32 refl cc)
numbers-delimited (n ∷ ns) [] xs ys small small' e = absurd (apart 10 32 refl cc)
numbers-delimited (n ∷ ns) (m ∷ ms) xs ys small small' e =
    let rest = spaced ns ++ (codes "\n" ++ xs) in
    let rest' = spaced ms ++ (codes "\n" ++ ys) in
    let inner : (decimal n ++ spaced ns) ++ (codes "\n" ++ xs) ≡ (decimal m ++ spaced ms) ++ (codes "\n" ++ ys) = cc in
    let nested = sym (append_assoc (decimal n) (spaced ns) (codes "\n" ++ xs)) ∙ inner ∙ append_assoc (decimal m) (spaced ms) (codes "\n" ++ ys) in
    let first = number-delimited n m rest rest' small.0 small'.0 (ends ns xs) (ends ms ys) nested in
    let others = numbers-delimited ns ms xs ys small.1 small'.1 first.1 in
    let same = first.0 in
    let more = others.0 in
    (cc, others.1)
