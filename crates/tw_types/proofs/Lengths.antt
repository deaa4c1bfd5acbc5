-- The number of bits of values.
use Rattle.std.proofs.Common.{◌≡◌, ◌≤◌, List, [], ◌∷◌, length, refl, arith, length-append}
use Rattle.tw_bits.proofs.Laws.{length-number_bits}
use Rattle.tw_types.specs.Types.{Widths, Ty, UnitTy, Word, Boolean, Pointer, PairTy, Target, size, block_size}
use Rattle.tw_types.specs.Values.{Value, UnitValue, Number, Truth, Address, PairValue, HasType, value_bits}

-- a value has as many bits as its type
pub length-value_bits : (widths : Widths) (value : Value) (ty : Ty) → HasType widths value ty → length (value_bits widths value) ≡ size widths ty
length-value_bits widths UnitValue UnitTy typed = refl
length-value_bits widths (Number n) Word typed = length-number_bits widths.word n
length-value_bits widths (Truth is) Boolean typed = refl
length-value_bits widths (Address block) (Pointer target) typed = length-number_bits widths.addr block
length-value_bits widths (PairValue x y) (PairTy first second) typed =
    rw (length-append, length-value_bits widths x first typed.0, length-value_bits widths y second typed.1) refl
length-value_bits widths value ty typed = absurd typed

-- an address fits into a block
pub addr-le-block_size : (widths : Widths) (targets : List Target) → widths.addr ≤ block_size widths targets
addr-le-block_size widths [] = omega arith
addr-le-block_size widths (target ∷ targets) = let rest = addr-le-block_size widths targets in omega arith
