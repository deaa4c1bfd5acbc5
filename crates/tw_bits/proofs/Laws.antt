-- The laws of bits at places, and of numbers as lists of bits.
use Rattle.std.proofs.Common.{◌≡◌, ◌∙◌, ap, sym, refl, ℕ, zero, suc, ◌+◌, ◌*◌, ◌/◌, ◌%◌, ◌^◌, ◌<◌, ◌==◌, nat_eq, Bool, true, false, not, if◌then◌else◌, List, [], ◌∷◌, ◌++◌, length, replicate, bit_xor, zero-add, arith}
use Rattle.std.proofs.Math.Nat.{pow-suc, div-one, mod-eq_of_lt}
use Rattle.std.proofs.Math.Pow.{mod-mod-pow}
use Rattle.std.specs.Int.Bits.{xor_zero_r}
use Rattle.std.proofs.lemmas.Nat.{field_of, shr-shr, xor_mod, xor_shr}
use Rattle.tw_bits.specs.Lists.{bit_at, flipped}
use Rattle.tw_bits.specs.Numbers.{number_bits, bits_number}

-- two flips of a place change nothing
pub flipped-flipped : (bits : List Bool) (place : ℕ) → flipped (flipped bits place) place ≡ bits
flipped-flipped [] place = refl
flipped-flipped (true ∷ bits) zero = refl
flipped-flipped (false ∷ bits) zero = refl
flipped-flipped (b ∷ bits) (suc place) = ap (λ rest. b ∷ rest) (flipped-flipped bits place)

pub length-flipped : (bits : List Bool) (place : ℕ) → length (flipped bits place) ≡ length bits
length-flipped [] place = refl
length-flipped (b ∷ bits) zero = refl
length-flipped (b ∷ bits) (suc place) = ap suc (length-flipped bits place)

-- a flip of a place leaves the other bits
pub bit_at-flipped : (bits : List Bool) (flip place : ℕ) → ¬ (flip ≡ place) → bit_at (flipped bits flip) place ≡ bit_at bits place
bit_at-flipped [] flip place apart = refl
bit_at-flipped (b ∷ bits) zero zero apart = absurd (apart refl)
bit_at-flipped (b ∷ bits) zero (suc place) apart = refl
bit_at-flipped (b ∷ bits) (suc flip) zero apart = refl
bit_at-flipped (b ∷ bits) (suc flip) (suc place) apart = bit_at-flipped bits flip place (λ same. apart (ap suc same))

-- and changes the bit at the place
pub bit_at-flipped_same : (bits : List Bool) (place : ℕ) → place < length bits → bit_at (flipped bits place) place ≡ not (bit_at bits place)
bit_at-flipped_same [] place inside = absurd (omega (arith, inside))
bit_at-flipped_same (b ∷ bits) zero inside = refl
bit_at-flipped_same (b ∷ bits) (suc place) inside = bit_at-flipped_same bits place (omega (arith, inside))

-- `number_bits` has as many bits as the width
pub length-number_bits : (width n : ℕ) → length (number_bits width n) ≡ width
length-number_bits zero n = refl
length-number_bits (suc width) n = ap suc (length-number_bits width (n / 2))

pub number_bits-zero : (width : ℕ) → number_bits width 0 ≡ replicate width false
number_bits-zero zero = refl
number_bits-zero (suc width) = ap (λ bits. false ∷ bits) (number_bits-zero width)

shr-suc : (n k : ℕ) → n / 2 ^ suc k ≡ n / 2 / 2 ^ k
shr-suc n k = let e : suc k ≡ 1 + k = omega arith in ap (λ j. n / 2 ^ j) e ∙ sym (shr-shr n 1 k)

half-mod : (n k : ℕ) → n % 2 ^ suc k / 2 ≡ n / 2 % 2 ^ k
half-mod n k = let e : suc k ≡ k + 1 = omega arith in ap (λ j. n % 2 ^ j / 2) e ∙ field_of n k 1

lowest-mod : (n k : ℕ) → n % 2 ^ suc k % 2 ≡ n % 2
lowest-mod n k = let e : suc k ≡ k + 1 = omega arith in ap (λ j. n % 2 ^ j % 2) e ∙ mod-mod-pow n k 1

-- the number is taken modulo 2^width
pub number_bits-mod : (width n : ℕ) → number_bits width (n % 2 ^ width) ≡ number_bits width n
number_bits-mod zero n = refl
number_bits-mod (suc width) n = rw (lowest-mod n width, half-mod n width, number_bits-mod width (n / 2)) refl

-- the bits of a number in two parts
pub number_bits-add : (low high n : ℕ) → number_bits (low + high) n ≡ number_bits low n ++ number_bits high (n / 2 ^ low)
number_bits-add zero high n = rw (zero-add, div-one) refl
number_bits-add (suc low) high n =
    let e : suc low + high ≡ suc (low + high) = omega arith in
    rw (e, shr-suc n low) (ap (λ bits. (n % 2 == 1) ∷ bits) (number_bits-add low high (n / 2)))

-- one bit of a number
pub bit_at-number_bits : (width n place : ℕ) → place < width → bit_at (number_bits width n) place ≡ (n / 2 ^ place % 2 == 1)
bit_at-number_bits zero n place inside = absurd (omega (arith, inside))
bit_at-number_bits (suc width) n zero inside = rw div-one refl
bit_at-number_bits (suc width) n (suc place) inside = rw (shr-suc n place) (bit_at-number_bits width (n / 2) place (omega (arith, inside)))

other_lowest : (b : ℕ) → b < 2 → nat_eq (bit_xor b 1) 1 ≡ not (nat_eq b 1)
other_lowest zero small = refl
other_lowest (suc zero) small = refl
other_lowest (suc (suc b)) small = absurd (omega (arith, small))

-- flipping a bit of a number is `^ (1 << place)`
pub flipped-number_bits : (width n place : ℕ) → flipped (number_bits width n) place ≡ number_bits width (bit_xor n (2 ^ place))
flipped-number_bits zero n place = refl
flipped-number_bits (suc width) n zero =
    let lowest : bit_xor n 1 % 2 ≡ bit_xor (n % 2) 1 = xor_mod n 1 1 in
    let others : bit_xor n 1 / 2 ≡ n / 2 = xor_shr n 1 1 ∙ xor_zero_r (n / 2) in
    rw (lowest, others, other_lowest (n % 2) (omega arith)) refl
flipped-number_bits (suc width) n (suc place) =
    let power : 2 ^ suc place ≡ 2 ^ place * 2 = pow-suc 2 place in
    let even : 2 ^ suc place % 2 ≡ 0 = omega arith in
    let half : 2 ^ suc place / 2 ≡ 2 ^ place = omega arith in
    let lowest : bit_xor n (2 ^ suc place) % 2 ≡ n % 2 = xor_mod n (2 ^ suc place) 1 ∙ ap (bit_xor (n % 2)) even ∙ xor_zero_r (n % 2) in
    let others : bit_xor n (2 ^ suc place) / 2 ≡ bit_xor (n / 2) (2 ^ place) = xor_shr n (2 ^ suc place) 1 ∙ ap (bit_xor (n / 2)) half in
    rw (lowest, others) (ap (λ bits. (n % 2 == 1) ∷ bits) (flipped-number_bits width (n / 2) place))

-- the number of a list of bits fits the list's length
pub bits_number-lt : (bits : List Bool) → bits_number bits < 2 ^ length bits
bits_number-lt [] = omega arith
bits_number-lt (true ∷ bits) = omega (arith, pow-suc 2 (length bits), bits_number-lt bits)
bits_number-lt (false ∷ bits) = omega (arith, pow-suc 2 (length bits), bits_number-lt bits)

-- each list of bits is the list of its number
pub number_bits-bits_number : (bits : List Bool) → number_bits (length bits) (bits_number bits) ≡ bits
number_bits-bits_number [] = refl
number_bits-bits_number (true ∷ bits) =
    let lowest : (1 + 2 * bits_number bits) % 2 ≡ 1 = omega arith in
    let others : (1 + 2 * bits_number bits) / 2 ≡ bits_number bits = omega arith in
    rw (lowest, others) (ap (λ rest. true ∷ rest) (number_bits-bits_number bits))
number_bits-bits_number (false ∷ bits) =
    let lowest : (0 + 2 * bits_number bits) % 2 ≡ 0 = omega arith in
    let others : (0 + 2 * bits_number bits) / 2 ≡ bits_number bits = omega arith in
    rw (lowest, others) (ap (λ rest. false ∷ rest) (number_bits-bits_number bits))

lowest_number : (b : ℕ) → b < 2 → (if nat_eq b 1 then 1 else 0) ≡ b
lowest_number zero small = refl
lowest_number (suc zero) small = refl
lowest_number (suc (suc b)) small = absurd (omega (arith, small))

-- the bits of a number are the number, modulo 2^width
pub bits_number-number_bits_mod : (width n : ℕ) → bits_number (number_bits width n) ≡ n % 2 ^ width
bits_number-number_bits_mod zero n = omega arith
bits_number-number_bits_mod (suc width) n =
    omega (arith, lowest_number (n % 2) (omega arith), bits_number-number_bits_mod width (n / 2), half-mod n width, lowest-mod n width)

pub bits_number-number_bits : (width n : ℕ) → n < 2 ^ width → bits_number (number_bits width n) ≡ n
bits_number-number_bits width n fits = bits_number-number_bits_mod width n ∙ mod-eq_of_lt fits

-- numbers that fit the width and have the same bits are equal
pub number_bits-injective : (width m n : ℕ) → m < 2 ^ width → n < 2 ^ width → number_bits width m ≡ number_bits width n → m ≡ n
number_bits-injective width m n fits fits' same =
    sym (bits_number-number_bits width m fits) ∙ ap bits_number same ∙ bits_number-number_bits width n fits'
