-- The encoding of a type's values is bijective, and its bits are read and written part by part.
use Rattle.std.proofs.Common.{◌≡◌, ◌∙◌, ℕ, zero, suc, ◌+◌, ◌^◌, ◌<◌, ◌≤◌, Bool, List, [], ◌∷◌, ◌++◌, length, take, drop, refl, ap, sym, arith, length-drop}
use Rattle.std.proofs.lemmas.List.{take-append-drop, length-take-le}
use Rattle.std.proofs.lemmas.Nat.{pow_pos}
use Rattle.std.proofs.Math.Seq.{take-append_seam, drop-append_seam}
use Rattle.tw_bits.specs.Lists.{bit_at}
use Rattle.tw_bits.specs.Numbers.{number_bits, bits_number}
use Rattle.tw_bits.specs.Writing.{written, taken}
use Rattle.tw_bits.proofs.Laws.{bits_number-number_bits, number_bits-bits_number, bits_number-lt}
use Rattle.tw_bits.proofs.Writings.{written_two, taken_first, taken_second, number_of_bits}
use Rattle.tw_types.specs.Types.{Widths, Ty, UnitTy, Word, Boolean, Pointer, PairTy, size, block_count}
use Rattle.tw_types.specs.Values.{Value, UnitValue, Number, Truth, Address, PairValue, HasType, value_bits, IsDecoded, IsBijective}
use Rattle.tw_types.proofs.Lengths.{length-value_bits}

-- the addresses of blocks, with null, are the numbers of that width
pub address_below : (widths : Widths) (block : ℕ) → block ≤ block_count widths → block < 2 ^ widths.addr
address_below widths block typed = let some = pow_pos widths.addr in omega arith

pub address_within : (widths : Widths) (block : ℕ) → block < 2 ^ widths.addr → block ≤ block_count widths
address_within widths block below = omega arith

-- numbers of a width that have the same bits are equal
pub number_bits-injective : (width m n : ℕ) → m < 2 ^ width → n < 2 ^ width → number_bits width m ≡ number_bits width n → m ≡ n
number_bits-injective width m n fits also same =
    number_of_bits width m (number_bits width n) fits same ∙ bits_number-number_bits width n also

-- if concatenations are equal and their first parts have one length, their parts are equal
pub append-injective : (xs ys us vs : List Bool) → length xs ≡ length us → xs ++ ys ≡ us ++ vs → (xs ≡ us) × (ys ≡ vs)
append-injective xs ys us vs len same = (
  sym (take-append_seam xs ys) ∙ (ap (take (length xs)) same ∙ (ap (λ n. take n (us ++ vs)) len ∙ take-append_seam us vs)),
  sym (drop-append_seam xs ys) ∙ (ap (drop (length xs)) same ∙ (ap (λ n. drop n (us ++ vs)) len ∙ drop-append_seam us vs)),
)

-- values of one type that have the same bits are equal
pub value_bits-injective : (widths : Widths) (ty : Ty) (x y : Value) → HasType widths x ty → HasType widths y ty → value_bits widths x ≡ value_bits widths y → x ≡ y
value_bits-injective widths UnitTy UnitValue UnitValue typed also same = refl
value_bits-injective widths Word (Number m) (Number n) typed also same = ap Number (number_bits-injective widths.word m n typed also same)
value_bits-injective widths Boolean (Truth x) (Truth y) typed also same = cc
value_bits-injective widths (Pointer target) (Address x) (Address y) typed also same =
    ap Address (number_bits-injective widths.addr x y (address_below widths x typed) (address_below widths y also) same)
value_bits-injective widths (PairTy first second) (PairValue a b) (PairValue c d) typed also same =
    let parts = append-injective (value_bits widths a) (value_bits widths b) (value_bits widths c) (value_bits widths d)
    (length-value_bits widths a first typed.0 ∙ sym (length-value_bits widths c first also.0)) same in
    ap (λ x. PairValue x b) (value_bits-injective widths first a c typed.0 also.0 parts.0)
    ∙ ap (PairValue c) (value_bits-injective widths second b d typed.1 also.1 parts.1)
value_bits-injective widths UnitTy UnitValue y typed also same = absurd also
value_bits-injective widths Word (Number m) y typed also same = absurd also
value_bits-injective widths Boolean (Truth x) y typed also same = absurd also
value_bits-injective widths (Pointer target) (Address x) y typed also same = absurd also
value_bits-injective widths (PairTy first second) (PairValue a b) y typed also same = absurd also
value_bits-injective widths ty x y typed also same = absurd typed

-- a value of the type that has these bits is the one that they encode
pub decoded : (widths : Widths) (ty : Ty) (bits : List Bool) (value : Value) → HasType widths value ty → value_bits widths value ≡ bits → IsDecoded widths ty bits value
decoded widths ty bits value typed encodes = record {
  typed = typed;
  encodes = encodes;
  only = λ other also same. value_bits-injective widths ty other value also typed (same ∙ sym encodes);
}

of_length : (width : ℕ) (bits : List Bool) → length bits ≡ width → number_bits width (bits_number bits) ≡ bits
of_length width bits len = rw (← len) (number_bits-bits_number bits)

-- each list of as many bits as the type has is the encoding of a value
encoded_value : (widths : Widths) (ty : Ty) (bits : List Bool) → length bits ≡ size widths ty → (value : Value) × HasType widths value ty × (value_bits widths value ≡ bits)
encoded_value widths UnitTy [] len = (UnitValue, tt, refl)
encoded_value widths UnitTy (bit ∷ bits) len = absurd (omega (arith, len))
encoded_value widths Word bits len = (Number (bits_number bits), (rw len at (bits_number-lt bits)), of_length widths.word bits len)
encoded_value widths Boolean [] len = absurd (omega (arith, len))
encoded_value widths Boolean (bit ∷ []) len = (Truth bit, tt, refl)
encoded_value widths Boolean (bit ∷ next ∷ bits) len = absurd (omega (arith, len))
encoded_value widths (Pointer target) bits len =
    (Address (bits_number bits), address_within widths (bits_number bits) (rw len at (bits_number-lt bits)), of_length widths.addr bits len)
encoded_value widths (PairTy first second) bits len =
    let n = size widths first in
    let x = encoded_value widths first (take n bits) (length-take-le n bits (omega (arith, len))) in
    let y = encoded_value widths second (drop n bits) (rw length-drop (omega (arith, len))) in
    (PairValue x.0 y.0, (x.1, y.1), rw (x.2, y.2) (take-append-drop n bits))

pub bijective : (widths : Widths) (ty : Ty) → IsBijective widths ty
bijective widths ty bits len =
    let value = encoded_value widths ty bits len in (value.0, decoded widths ty bits value.0 value.1 value.2)

-- one bit taken, as a list
pub one_taken : (at : ℕ) (bits : List Bool) → at + 1 ≤ length bits → bit_at bits at ∷ [] ≡ taken at 1 bits
one_taken at [] within = absurd (omega (arith, within))
one_taken zero (bit ∷ bits) within = refl
one_taken (suc at) (bit ∷ bits) within = one_taken at bits (omega (arith, within))

-- two parts taken, the second directly after the first
pub two_taken : (at m n next : ℕ) (bits xs ys : List Bool) → xs ≡ taken at m bits → next ≡ at + m → ys ≡ taken next n bits → xs ++ ys ≡ taken at (m + n) bits
two_taken at m n next bits xs ys one place two =
    ap (λ first. first ++ ys) (one ∙ sym (taken_first at m n bits))
    ∙ ap (λ second. take m (taken at (m + n) bits) ++ second) (two ∙ (ap (λ k. taken k n bits) place ∙ sym (taken_second at m n bits)))
    ∙ take-append-drop m (taken at (m + n) bits)

-- the second half of a pair is written directly after the first
pub pair_written : (widths : Widths) (x y : Value) (first : Ty) (n at next : ℕ) (old middle new : List Bool) → HasType widths x first → at + (size widths first + n) ≤ length old → next ≡ at + size widths first → middle ≡ written at (value_bits widths x) old → new ≡ written next (value_bits widths y) middle → new ≡ written at (value_bits widths (PairValue x y)) old
pair_written widths x y first n at next old middle new typed within place one two =
    let len = length-value_bits widths x first typed in
    two
    ∙ ap (λ bits. written next (value_bits widths y) bits) one
    ∙ ap (λ k. written k (value_bits widths y) (written at (value_bits widths x) old)) (place ∙ ap (λ k. at + k) (sym len))
    ∙ written_two at (value_bits widths x) (value_bits widths y) old (omega (arith, within, len))
