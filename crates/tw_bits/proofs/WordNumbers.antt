-- Words as one number: one of them read, and changed.
use Rattle.std.proofs.Common.{◌≡◌, ◌∙◌, ap, sym, refl, ℕ, zero, suc, ◌+◌, ◌*◌, ◌/◌, ◌%◌, ◌^◌, ◌<◌, List, [], ◌∷◌, length, get_or, set, drop, replicate, bit_or, bit_xor, Fits, w64, zero-add, add-zero, arith}
use Rattle.std.specs.Int.Bits.{xor_assoc, xor_zero_l, xor_zero_r, xor_block}
use Rattle.std.proofs.Math.Nat.{div-one, zero-div, mul_assoc, mod-lt}
use Rattle.std.proofs.lemmas.Nat.{pow-add, shr-shr, shr_high, shl_whole, mod_low, or_shifted, pow_pos}
use Rattle.std.proofs.lemmas.List.{drop_more}
use Rattle.tw_bits.specs.Words.{words_number}

-- each of these is a word
abbrev pub Fit : List ℕ → Type 0
Fit words = (k : ℕ) → Fits w64 (get_or words k 0)

small : (n : ℕ) → Fits w64 n → n < 2 ^ 64
small n fits = omega (arith, fits)

pub words_number-zeros : (n : ℕ) → words_number (replicate n 0) ≡ 0
words_number-zeros zero = refl
words_number-zeros (suc n) = omega (arith, words_number-zeros n)

next_place : (at : ℕ) → 64 + 64 * at ≡ 64 * suc at
next_place at = omega arith

next_power : (flips at : ℕ) → flips * 2 ^ (64 * suc at) ≡ flips * 2 ^ (64 * at) * 2 ^ 64 + 0
next_power flips at =
    let e : 64 * suc at ≡ 64 * at + 64 = omega arith in
    ap (λ k. flips * 2 ^ k) e ∙ ap (λ p. flips * p) (pow-add 2 (64 * at) 64) ∙ omega (arith, mul_assoc flips (2 ^ (64 * at)) (2 ^ 64))

turn : (high unit : ℕ) → high * unit * 2 ^ 64 + 0 ≡ high * 2 ^ 64 * unit + 0
turn high unit = omega (arith, mul_assoc high unit (2 ^ 64), mul_assoc high (2 ^ 64) unit)

-- the words from a place on
pub words_number-drop : (words : List ℕ) (at : ℕ) → Fit words → words_number (drop at words) ≡ words_number words / 2 ^ (64 * at)
words_number-drop [] zero fit = refl
words_number-drop [] (suc at) fit = sym (zero-div (2 ^ (64 * suc at)))
words_number-drop (word ∷ words) zero fit = sym (div-one (words_number words * 2 ^ 64 + word))
words_number-drop (word ∷ words) (suc at) fit =
    words_number-drop words at (λ k. fit (suc k))
    ∙ ap (λ m. m / 2 ^ (64 * at)) (sym (shr_high (words_number words) 64 word (small word (fit 0))))
    ∙ shr-shr (words_number (word ∷ words)) 64 (64 * at)
    ∙ ap (λ k. words_number (word ∷ words) / 2 ^ k) (next_place at)

-- a word that is changed by `^`
pub words_number-xor : (words : List ℕ) (at flips : ℕ) → at < length words → Fit words → Fits w64 flips → words_number (set words at (bit_xor (get_or words at 0) flips)) ≡ bit_xor (words_number words) (flips * 2 ^ (64 * at))
words_number-xor [] at flips inside fit fits = absurd (omega (arith, inside))
words_number-xor (word ∷ words) zero flips inside fit fits =
    let e : 0 * 2 ^ 64 + flips ≡ flips * 1 = omega arith in
    ap (λ m. m * 2 ^ 64 + bit_xor word flips) (sym (xor_zero_r (words_number words)))
    ∙ sym (xor_block 64 (words_number words) 0 word flips (small word (fit 0)) (small flips fits))
    ∙ ap (bit_xor (words_number (word ∷ words))) e
words_number-xor (word ∷ words) (suc at) flips inside fit fits =
    ap (λ m. m * 2 ^ 64 + word) (words_number-xor words at flips (omega (arith, inside)) (λ k. fit (suc k)) fits)
    ∙ ap (λ r. bit_xor (words_number words) (flips * 2 ^ (64 * at)) * 2 ^ 64 + r) (sym (xor_zero_r word))
    ∙ sym (xor_block 64 (words_number words) (flips * 2 ^ (64 * at)) word 0 (small word (fit 0)) (pow_pos 64))
    ∙ ap (bit_xor (words_number (word ∷ words))) (sym (next_power flips at))

-- the flips of two adjacent words are those of their number
pub two_flips : (n flips at : ℕ) → bit_xor (bit_xor n (flips % 2 ^ 64 * 2 ^ (64 * at))) (flips / 2 ^ 64 * 2 ^ (64 * (at + 1))) ≡ bit_xor n (flips * 2 ^ (64 * at))
two_flips n flips at =
    let low : ℕ = flips % 2 ^ 64 in
    let high : ℕ = flips / 2 ^ 64 in
    let unit : ℕ = 2 ^ (64 * at) in
    let e : at + 1 ≡ suc at = omega arith in
    let first : low * unit ≡ low * unit + 0 = omega arith in
    let second : high * 2 ^ (64 * (at + 1)) ≡ high * 2 ^ 64 * unit + 0 = ap (λ k. high * 2 ^ (64 * k)) e ∙ next_power high at ∙ turn high unit in
    let digits : bit_xor low (high * 2 ^ 64) ≡ flips =
    (λ i. bit_xor (sym (zero-add low) i) (sym (add-zero (high * 2 ^ 64)) i))
    ∙ xor_block 64 0 high low 0 (mod-lt flips (pow_pos 64)) (pow_pos 64)
    ∙ (λ i. xor_zero_l high i * 2 ^ 64 + xor_zero_r low i)
    ∙ omega arith in
    xor_assoc n (low * unit) (high * 2 ^ (64 * (at + 1)))
    ∙ ap (bit_xor n) ((λ i. bit_xor (first i) (second i))
    ∙ xor_block (64 * at) low (high * 2 ^ 64) 0 0 (pow_pos (64 * at)) (pow_pos (64 * at))
    ∙ ap (λ m. m * unit + 0) digits
    ∙ add-zero (flips * unit))

-- one digit to the base 2^64, and two of them
pub one_digit : (words : List ℕ) (at : ℕ) → at < length words → Fit words → words_number words / 2 ^ (64 * at) % 2 ^ 64 ≡ get_or words at 0
one_digit words at inside fit =
    ap (λ n. n % 2 ^ 64) (sym (words_number-drop words at fit) ∙ ap words_number (drop_more words at 0 inside))
    ∙ mod_low (words_number (drop (at + 1) words)) 64 (get_or words at 0) (small (get_or words at 0) (fit at))

pub two_digits : (words : List ℕ) (at : ℕ) → at + 1 < length words → Fit words → words_number words / 2 ^ (64 * at) % 2 ^ 128 ≡ bit_or (get_or words (at + 1) 0 * 2 ^ 64 % 2 ^ 128) (get_or words at 0)
two_digits words at inside fit =
    let low : ℕ = get_or words at 0 in
    let high : ℕ = get_or words (at + 1) 0 in
    let rest : ℕ = words_number (drop (at + 1 + 1) words) in
    let low_fits : low < 2 ^ 64 = small low (fit at) in
    let high_fits : high < 2 ^ 64 = small high (fit (at + 1)) in
    let e : (rest * 2 ^ 64 + high) * 2 ^ 64 + low ≡ rest * 2 ^ 128 + (high * 2 ^ 64 + low) = omega arith in
    ap (λ n. n % 2 ^ 128)
    (sym (words_number-drop words at fit)
    ∙ ap words_number (drop_more words at 0 (omega (arith, inside)))
    ∙ ap (λ ws. words_number ws * 2 ^ 64 + low) (drop_more words (at + 1) 0 inside)
    ∙ e)
    ∙ mod_low rest 128 (high * 2 ^ 64 + low) (omega (arith, low_fits, high_fits))
    ∙ sym (ap (λ m. bit_or m low) (shl_whole high 64 64 128 high_fits (omega arith)) ∙ or_shifted high 64 low low_fits)
