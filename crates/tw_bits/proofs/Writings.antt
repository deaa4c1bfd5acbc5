-- The laws of parts of a list of bits.
use Rattle.std.proofs.Common.{◌≡◌, ◌∙◌, ℕ, zero, suc, ◌+◌, ◌-◌, ◌^◌, ◌<◌, ◌≤◌, Bool, false, List, [], ◌∷◌, ◌++◌, length, take, drop, replicate, refl, ap, sym, arith, length-append, length-drop, append_assoc}
use Rattle.std.proofs.lemmas.List.{length-take-le, length-replicate, take-take, drop-drop, drop-take}
use Rattle.std.proofs.Math.Seq.{take-append_seam, drop-append-add}
use Rattle.tw_bits.specs.Lists.{bit_at}
use Rattle.tw_bits.specs.Numbers.{number_bits, bits_number}
use Rattle.tw_bits.specs.Writing.{written, taken, padded}
use Rattle.tw_bits.proofs.Laws.{bits_number-number_bits}

-- two writes, the second directly after the first, are one write of both lists
pub written_two : (at : ℕ) (xs ys old : List Bool) → at + length xs ≤ length old → written (at + length xs) ys (written at xs old) ≡ written at (xs ++ ys) old
written_two at xs ys old fits =
    let before : List Bool = take at old in
    let seam : ℕ = at + length xs in
    let len : length (before ++ xs) ≡ seam = length-append before xs ∙ ap (λ n. n + length xs) (length-take-le at old (omega (arith, fits))) in
    let whole : written at xs old ≡ (before ++ xs) ++ drop seam old = sym (append_assoc before xs (drop seam old)) in
    let prefix : take seam ((before ++ xs) ++ drop seam old) ≡ before ++ xs =
    ap (λ k. take k ((before ++ xs) ++ drop seam old)) (sym len) ∙ take-append_seam (before ++ xs) (drop seam old) in
    let suffix : drop (seam + length ys) ((before ++ xs) ++ drop seam old) ≡ drop (at + length (xs ++ ys)) old =
    ap (λ k. drop (k + length ys) ((before ++ xs) ++ drop seam old)) (sym len)
    ∙ drop-append-add (before ++ xs) (drop seam old) (length ys)
    ∙ drop-drop (length ys) seam old
    ∙ ap (λ n. drop n old) (rw (length-append) (omega arith)) in
    ap (λ bits. take seam bits ++ (ys ++ drop (seam + length ys) bits)) whole
    ∙ ap (λ bits. bits ++ (ys ++ drop (seam + length ys) ((before ++ xs) ++ drop seam old))) prefix
    ∙ ap (λ bits. (before ++ xs) ++ (ys ++ bits)) suffix
    ∙ append_assoc before xs (ys ++ drop (at + length (xs ++ ys)) old)
    ∙ ap (λ bits. before ++ bits) (sym (append_assoc xs ys (drop (at + length (xs ++ ys)) old)))

-- the first part of what is taken
pub taken_first : (at m n : ℕ) (bits : List Bool) → take m (taken at (m + n) bits) ≡ taken at m bits
taken_first at m n bits = take-take m (m + n) (drop at bits) (omega arith)

-- and its second part
pub taken_second : (at m n : ℕ) (bits : List Bool) → drop m (taken at (m + n) bits) ≡ taken (at + m) n bits
taken_second at m n bits = drop-take m n (drop at bits) ∙ ap (take n) (drop-drop m at bits)

-- `taken` has the length that is asked for, if the list has that many bits
pub length-taken : (at len : ℕ) (bits : List Bool) → at + len ≤ length bits → length (taken at len bits) ≡ len
length-taken at len bits within = length-take-le len (drop at bits) (rw length-drop (omega (arith, within)))

-- one bit that is taken is the bit at its place
pub bit_at-taken : (at : ℕ) (bits : List Bool) → bit_at (taken at 1 bits) 0 ≡ bit_at bits at
bit_at-taken zero [] = refl
bit_at-taken zero (bit ∷ bits) = refl
bit_at-taken (suc at) [] = refl
bit_at-taken (suc at) (bit ∷ bits) = bit_at-taken at bits

-- a number that fits the width is the number of its bits
pub number_of_bits : (width n : ℕ) (bits : List Bool) → n < 2 ^ width → number_bits width n ≡ bits → n ≡ bits_number bits
number_of_bits width n bits fits same = sym (bits_number-number_bits width n fits) ∙ ap bits_number same

-- bits that fit are padded to the whole length
pub length-padded : (len : ℕ) (bits : List Bool) → length bits ≤ len → length (padded len bits) ≡ len
length-padded len bits fits = rw (length-append, length-replicate) (omega arith)

-- the padding, by its length
pub padded-by : (len k : ℕ) (bits : List Bool) → len ≡ length bits + k → padded len bits ≡ bits ++ replicate k false
padded-by len k bits more = let rest : len - length bits ≡ k = omega arith in rw rest
