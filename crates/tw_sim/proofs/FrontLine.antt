-- The line that a text begins with.
use Rattle.std.proofs.Common.{◌≡◌, ◌∙◌, ap, sym, refl, ℕ, ◌+◌, ◌-◌, ◌<◌, nat_eq, Bool, true, false, ◌||◌, List, [], ◌∷◌, ◌++◌, length, map, take, drop, get_or, append_assoc, length-append, inl, inr, arith}
use Rattle.std.specs.List.{list_all}
use Rattle.std.proofs.lemmas.Bool.{and_parts, or_cases, eqb-true}
use Rattle.std.proofs.lemmas.List.{length-map, length-take-le, take-append-drop, take_at, drop_at, drop_more, take_rest}
use Rattle.tw_sim.specs.BitLines.{bit_digit, bit_line}

-- the byte is `0` or `1`
abbrev pub is_digit : ℕ → Bool
is_digit byte = nat_eq byte 48 || nat_eq byte 49

-- the bit of a digit
abbrev pub digit_bit : ℕ → Bool
digit_bit byte = nat_eq byte 49

digit_of-bit : (byte : ℕ) → is_digit byte ≡ true → bit_digit (digit_bit byte) ≡ byte
digit_of-bit byte is = elim (or_cases (nat_eq byte 48) (nat_eq byte 49) is) [ inl zero ↦ rw (eqb-true byte 48 zero) | inr one ↦ rw (eqb-true byte 49 one) ]

-- digits are those of their bits
digits_of-bits : (digits : List ℕ) → list_all is_digit digits ≡ true → map bit_digit (map digit_bit digits) ≡ digits
digits_of-bits [] are = refl
digits_of-bits (byte ∷ digits) are =
    let both = and_parts (is_digit byte) (list_all is_digit digits) are in
    rw (digit_of-bit byte both.0, digits_of-bits digits both.1)

-- and bits are those of their digits
pub bits_of-digits : (bits : List Bool) → map digit_bit (map bit_digit bits) ≡ bits
bits_of-digits [] = refl
bits_of-digits (true ∷ bits) = ap (λ rest. true ∷ rest) (bits_of-digits bits)
bits_of-digits (false ∷ bits) = ap (λ rest. false ∷ rest) (bits_of-digits bits)

all_digits : (bits : List Bool) → list_all is_digit (map bit_digit bits) ≡ true
all_digits [] = refl
all_digits (true ∷ bits) = all_digits bits
all_digits (false ∷ bits) = all_digits bits

-- digits followed by a newline are a line
pub line_read : (wires : ℕ) (text : List ℕ) → wires < length text → get_or text wires 0 ≡ 10 → list_all is_digit (take wires text) ≡ true → (bits : List Bool) × (length bits ≡ wires) × (text ≡ bit_line bits ++ drop (wires + 1) text)
line_read wires text inside newline digits =
    let bits : List Bool = map digit_bit (take wires text) in
    let behind : drop wires text ≡ 10 ∷ drop (wires + 1) text = drop_more text wires 0 inside ∙ ap (λ b. b ∷ drop (wires + 1) text) newline in (
      bits,
      length-map (take wires text) digit_bit ∙ length-take-le wires text (omega arith),
      sym (take-append-drop wires text)
          ∙ ap (λ rest. take wires text ++ rest) behind
          ∙ ap (λ front. front ++ 10 ∷ drop (wires + 1) text) (sym (digits_of-bits (take wires text) digits))
          ∙ sym (append_assoc (map bit_digit bits) (10 ∷ []) (drop (wires + 1) text)),
    )

-- a line that a text begins with is its digits, then a newline
module _ (wires : ℕ) (text : List ℕ) (bits : List Bool) (rest : List ℕ) (wide : length bits ≡ wires) (is : text ≡ bit_line bits ++ rest) where
  front : text ≡ map bit_digit bits ++ 10 ∷ rest
  front = is ∙ append_assoc (map bit_digit bits) (10 ∷ []) rest

  count : length (map bit_digit bits) ≡ wires
  count = length-map bits bit_digit ∙ wide

  line-digits : take wires text ≡ map bit_digit bits
  line-digits = ap (take wires) front ∙ take_at (map bit_digit bits) (10 ∷ rest) wires count

  line-behind : drop (wires + 1) text ≡ rest
  line-behind =
      let whole : length (bit_line bits) ≡ wires + 1 = omega (arith, length-append (map bit_digit bits) (10 ∷ []), count) in
      ap (drop (wires + 1)) is ∙ drop_at (bit_line bits) rest (wires + 1) whole

  pub line-all_digits : list_all is_digit (take wires text) ≡ true
  line-all_digits = ap (list_all is_digit) line-digits ∙ all_digits bits

  -- the bits of the digits at the start are the bits of the line
  pub line_loaded : (loaded : List Bool) → loaded ≡ map digit_bit (take wires text) → text ≡ bit_line loaded ++ take (length text - (wires + 1)) (drop (wires + 1) text)
  line_loaded loaded are =
      let same : loaded ≡ bits = are ∙ ap (map digit_bit) line-digits ∙ bits_of-digits bits in
      let behind : take (length text - (wires + 1)) (drop (wires + 1) text) ≡ rest = take_rest text (wires + 1) ∙ line-behind in
      rw (same, behind) is
