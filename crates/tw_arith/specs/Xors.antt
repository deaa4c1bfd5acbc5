-- What the code of an expression does: it XORs the value into the wires of the result, and changes nothing else.
use Rattle.std.specs.Prelude.{◌≡◌, ℕ, ◌<◌, ◌+◌, Bool, true, false, ◌&&◌, List, [], ◌∷◌, ◌++◌, length, refl}
use Rattle.tw_bits.specs.Lists.{bit_at}
use Rattle.tw_code.specs.declared.code.Options.{Options}
use Rattle.tw_code.specs.Trees.{CodeTree}
use Rattle.tw_code.specs.Meaning.{mean}
use Rattle.tw_code.specs.Wires.{EachWire, IsProperCode}
use Rattle.tw_code.specs.Functions.{Bits, changed, placed, read, IsIn, AreDisjoint, AreZero, mean_wires}
use Rattle.tw_code.specs.Counts.{counts}
use Rattle.tw_code.specs.Rows.{Row, gates_in}
use Rattle.tw_arith.specs.Operands.{PlainOperand, IsOfOperand, operand_bits}

-- The regions of an expression: its operands and their widths, the wires of the result, and those of the scratch. An expression of
-- one operand has it twice.
pub record Regions : Type 0 where
  pub x : PlainOperand
  pub y : PlainOperand
  pub left : ℕ
  pub right : ℕ
  pub out : ℕ
  pub width : ℕ
  pub scratch : ℕ
  pub room : ℕ

-- the result and the scratch are disjoint from the operands and from each other; the operands may overlap
pub record AreApart (at : Regions) : Type 0 where
  pub x_out : AreDisjoint (IsOfOperand at.x at.left) (IsIn at.out at.width)
  pub y_out : AreDisjoint (IsOfOperand at.y at.right) (IsIn at.out at.width)
  pub x_scratch : AreDisjoint (IsOfOperand at.x at.left) (IsIn at.scratch at.room)
  pub y_scratch : AreDisjoint (IsOfOperand at.y at.right) (IsIn at.scratch at.room)
  pub out_scratch : AreDisjoint (IsIn at.out at.width) (IsIn at.scratch at.room)

-- a wire of the regions
pub data IsOf (at : Regions) : ℕ → Type 0 where
  InX : (wire : ℕ) → IsOfOperand at.x at.left wire → IsOf at wire
  InY : (wire : ℕ) → IsOfOperand at.y at.right wire → IsOf at wire
  InOut : (wire : ℕ) → IsIn at.out at.width wire → IsOf at wire
  InScratch : (wire : ℕ) → IsIn at.scratch at.room wire → IsOf at wire

-- a value by the bits of two operands
abbrev pub Value : Type 0
Value = List Bool → List Bool → List Bool

abbrev pub copy_value : Value
copy_value xs ys = xs

abbrev pub pair_value : Value
pair_value xs ys = xs ++ ys

-- the conjunction of two lists of one bit
abbrev pub and_value : Value
and_value xs ys = (bit_at xs 0 && bit_at ys 0) ∷ []

-- the value of an expression by the bits of all wires, on the wires of the result
abbrev pub result_bits : Regions → Value → Bits → Bits
result_bits at value bits = placed at.out (value (operand_bits at.x at.left bits) (operand_bits at.y at.right bits))

-- the code XORs the value into the bits of all wires if the scratch is 0
pub record XorsWires (at : Regions) (value : Value) (code : CodeTree) : Type 0 where
  pub proper : IsProperCode code
  pub uses : EachWire (IsOf at) code
  pub long : (bits : Bits) → length (value (operand_bits at.x at.left bits) (operand_bits at.y at.right bits)) ≡ at.width
  pub does : (bits : Bits) → AreZero (IsIn at.scratch at.room) bits → mean_wires code false bits ≡ changed bits (result_bits at value bits)

-- a list of bits, XORed with the bits of its wires
abbrev pub xored : List Bool → Bits → List Bool
xored bits by = read 0 (length bits) (changed (bit_at bits) by)

-- The code is proper, and uses wires of the regions alone. On each list of bits that has all wires of the regions and in which the
-- scratch is 0 it XORs the value into the result and changes nothing else, forward and backward. With all options and under all
-- numbers of controls it has the gates of the rows.
pub record Xors (at : Regions) (value : Value) (rows : ℕ → List Row) (code : CodeTree) : Type 0 where
  pub proper : IsProperCode code
  pub uses : EachWire (IsOf at) code
  pub does : (backward : Bool) (bits : List Bool) → ((wire : ℕ) → IsOf at wire → wire < length bits) → AreZero (IsIn at.scratch at.room) (bit_at bits)
      → mean code backward bits ≡ xored bits (result_bits at value (bit_at bits))
  pub prices : (options : Options) (under wanted : ℕ) → counts options code under wanted ≡ gates_in (rows under) wanted

-- the regions of a copy and of a pair
abbrev pub copy_regions : PlainOperand → ℕ → ℕ → Regions
copy_regions x out width = record { x = x; y = x; left = width; right = width; out = out; width = width; scratch = 0; room = 0 }

abbrev pub pair_regions : PlainOperand → PlainOperand → ℕ → ℕ → ℕ → Regions
pair_regions x y out left right = record { x = x; y = y; left = left; right = right; out = out; width = left + right; scratch = 0; room = 0 }

-- the regions of an operation on two operands of one width: the scratch has their loads, and this number of other wires
abbrev pub operation_regions : PlainOperand → PlainOperand → ℕ → ℕ → ℕ → ℕ → ℕ → Regions
operation_regions x y width out result scratch others =
    record { x = x; y = y; left = width; right = width; out = out; width = result; scratch = scratch; room = width + width + others }

abbrev pub and_regions : PlainOperand → PlainOperand → ℕ → ℕ → Regions
and_regions x y out scratch = operation_regions x y 1 out 1 scratch 0

pub xored-two : xored (true ∷ false ∷ true ∷ []) (placed 1 (true ∷ true ∷ [])) ≡ true ∷ true ∷ false ∷ []
xored-two = refl
