-- The operands of an expression.
use Rattle.std.specs.Prelude.{◌≡◌, ℕ, ◌+◌, ◌≤◌, Bool, true, false, List, [], ◌∷◌, length, refl}
use Rattle.tw_code.specs.Functions.{Bits, placed, read, IsIn}
use Rattle.tw_arith.specs.declared.operand.Operand.{Operand}
use Rattle.tw_arith.specs.declared.operand.Operand.TheVariants as given

-- an operand, without the address of its bits in memory
pub data PlainOperand : Type 0 where
  Wires : (from : ℕ) → PlainOperand
  Fixed : (bits : List Bool) → PlainOperand

abbrev pub plain : Operand → PlainOperand
plain (given.Wires from) = Wires from
plain (given.Fixed bits) = Fixed bits.now

-- the bits of an operand of this width: those of its wires, or its own
abbrev pub operand_bits : PlainOperand → ℕ → Bits → List Bool
operand_bits (Wires from) width bits = read from width bits
operand_bits (Fixed own) width bits = own

-- a wire of an operand
abbrev pub IsOfOperand : PlainOperand → ℕ → ℕ → Type 0
IsOfOperand (Wires from) width wire = IsIn from width wire
IsOfOperand (Fixed bits) width wire = ⊥

-- a region of this number of wires from a wire on ends at or below the greatest number of a wire
abbrev pub EndsWithin : ℕ → ℕ → Type 0
EndsWithin from count = from + count ≤ 4294967295

-- the wires of an operand end at or below the limit, and an operand of its own bits has as many as its width
abbrev pub HasWidth : PlainOperand → ℕ → Type 0
HasWidth (Wires from) width = EndsWithin from width
HasWidth (Fixed bits) width = length bits ≡ width

pub operand_bits-wires : operand_bits (Wires 3) 2 (placed 4 (true ∷ [])) ≡ false ∷ true ∷ []
operand_bits-wires = refl
