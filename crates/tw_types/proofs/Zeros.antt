-- The zero of a type has the type, and its bits are zeros.
use Rattle.std.proofs.Common.{◌≡◌, ℕ, zero, suc, ◌+◌, false, ◌∷◌, ◌++◌, replicate, refl, ap, arith, zero-add, suc-add}
use Rattle.std.proofs.lemmas.Nat.{pow_pos}
use Rattle.tw_bits.proofs.Laws.{number_bits-zero}
use Rattle.tw_types.specs.Types.{Widths, Ty, UnitTy, Word, Boolean, Pointer, PairTy, size}
use Rattle.tw_types.specs.Values.{HasType, zero_value, value_bits}

-- the zero of a type has that type
pub zero_value-typed : (widths : Widths) (ty : Ty) → HasType widths (zero_value ty) ty
zero_value-typed widths UnitTy = tt
zero_value-typed widths Word = pow_pos widths.word
zero_value-typed widths Boolean = tt
zero_value-typed widths (Pointer target) = omega arith
zero_value-typed widths (PairTy first second) = (zero_value-typed widths first, zero_value-typed widths second)

-- zeros after zeros
replicate-append : (n k : ℕ) → replicate n false ++ replicate k false ≡ replicate (n + k) false
replicate-append zero k = rw (zero-add) refl
replicate-append (suc n) k = rw (suc-add) (ap (λ rest. false ∷ rest) (replicate-append n k))

-- the bits of the zero of a type
pub value_bits-zero : (widths : Widths) (ty : Ty) → value_bits widths (zero_value ty) ≡ replicate (size widths ty) false
value_bits-zero widths UnitTy = refl
value_bits-zero widths Word = number_bits-zero widths.word
value_bits-zero widths Boolean = refl
value_bits-zero widths (Pointer target) = number_bits-zero widths.addr
value_bits-zero widths (PairTy first second) =
    rw (value_bits-zero widths first, value_bits-zero widths second) (replicate-append (size widths first) (size widths second))
