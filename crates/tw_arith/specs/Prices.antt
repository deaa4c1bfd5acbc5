-- How many gates the code of each kind of expression has: the rows of its operands.
use Rattle.std.specs.Prelude.{◌≡◌, ℕ, true, false, [], ◌∷◌, map, refl}
use Rattle.tw_code.specs.Rows.{Load, Copied, Flipped, gates_in, ones, load_rows, and_rows}
use Rattle.tw_arith.specs.Operands.{PlainOperand, Wires, Fixed}

-- an operand of this width, as it is loaded
abbrev pub operand_load : PlainOperand → ℕ → Load
operand_load (Wires from) width = Copied width
operand_load (Fixed bits) width = Flipped (ones bits)

-- under one control: two loads of one wire and of a bit that is 1, and the work
pub and_rows-one : map (gates_in (and_rows (operand_load (Wires 3) 1) (operand_load (Fixed (true ∷ [])) 1) 1)) (0 ∷ 1 ∷ 2 ∷ 3 ∷ []) ≡ 2 ∷ 2 ∷ 0 ∷ 1 ∷ []
and_rows-one = refl

pub load_rows-fixed : map (gates_in (load_rows (operand_load (Fixed (true ∷ false ∷ true ∷ [])) 3) 2)) (0 ∷ 1 ∷ 2 ∷ 3 ∷ []) ≡ 0 ∷ 0 ∷ 2 ∷ 0 ∷ []
load_rows-fixed = refl
