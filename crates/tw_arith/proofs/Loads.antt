-- What loads of operands do to the bits of all wires.
use Rattle.std.proofs.Common.{◌≡◌, ◌∙◌, ap, sym, refl, ℕ, zero, suc, ◌+◌, Bool, true, false, ◌&&◌, List, [], ◌∷◌, ◌++◌, length, arith}
use Rattle.tw_code.specs.Trees.{sequence}
use Rattle.tw_code.specs.Wires.{EachWire, IsProperCode}
use Rattle.tw_code.specs.Functions.{Bits, changed, one_at, placed, read, IsIn, AreDisjoint, AreZero, mean_wires}
use Rattle.tw_code.proofs.Changes.{changed_assoc, changed_zeros, one_at-elsewhere, placed_elsewhere, placed_append, length-read, read_changed}
use Rattle.tw_arith.specs.Operands.{PlainOperand, Wires, Fixed, IsOfOperand, HasWidth, operand_bits}
use Rattle.tw_arith.specs.Circuits.{copies, flips, copy_tree, pair_tree}

and_true : (k : Bool) → (k && true) ≡ k
and_true true = refl
and_true false = refl

-- the first wire of a region, and the others
pub in_first : (from count : ℕ) → IsIn from (suc count) from
in_first from count = record { from_start = omega arith; before_end = omega arith }

pub in_others : (from count wire : ℕ) → IsIn (suc from) count wire → IsIn from (suc count) wire
in_others from count wire inside = record { from_start = omega (arith, inside.from_start); before_end = omega (arith, inside.before_end) }

copies_do : (from to count : ℕ) (bits : Bits) → AreDisjoint (IsIn from count) (IsIn to count) → mean_wires (sequence (copies from to count)) false bits ≡ changed bits (placed to (read from count bits))
copies_do from to zero bits apart = sym (changed_zeros bits)
copies_do from to (suc count) bits apart =
    let by : Bits = one_at to (bits from) in
    let spared : AreZero (IsIn (suc from) count) by = λ wire inside. one_at-elsewhere to (bits from) wire (λ same. apart wire (in_others from count wire inside) (record { from_start = omega (arith, same); before_end = omega (arith, same) })) in
    ap (λ k. mean_wires (sequence (copies (suc from) (suc to) count)) false (changed bits (one_at to k))) (and_true (bits from))
    ∙ copies_do (suc from) (suc to) count (changed bits by) (λ wire u v. apart wire (in_others from count wire u) (in_others to count wire v))
    ∙ ap (λ rest. changed (changed bits by) (placed (suc to) rest)) (read_changed (suc from) count bits by spared)
    ∙ changed_assoc bits by (placed (suc to) (read (suc from) count bits))

flips_do : (to : ℕ) (own : List Bool) (bits : Bits) → mean_wires (sequence (flips to own)) false bits ≡ changed bits (placed to own)
flips_do to [] bits = sym (changed_zeros bits)
flips_do to (true ∷ own) bits = flips_do (suc to) own (changed bits (one_at to true)) ∙ changed_assoc bits (one_at to true) (placed (suc to) own)
flips_do to (false ∷ own) bits = flips_do (suc to) own bits

-- a load XORs the operand into the region
pub load_does : (x : PlainOperand) (to width : ℕ) (bits : Bits) → AreDisjoint (IsOfOperand x width) (IsIn to width) → mean_wires (copy_tree x to width) false bits ≡ changed bits (placed to (operand_bits x width bits))
load_does (Wires from) to width bits apart = copies_do from to width bits apart
load_does (Fixed own) to width bits apart = flips_do to own bits

copies_use : (P : ℕ → Type 0) (from to count : ℕ) → ((wire : ℕ) → IsIn from count wire → P wire) → ((wire : ℕ) → IsIn to count wire → P wire) → EachWire P (sequence (copies from to count))
copies_use P from to zero own given = tt
copies_use P from to (suc count) own given = (
  ((own from (in_first from count), tt), given to (in_first to count)),
  copies_use P (suc from) (suc to) count (λ wire inside. own wire (in_others from count wire inside)) (λ wire inside. given wire (in_others to count wire inside)),
)

flips_use : (P : ℕ → Type 0) (to : ℕ) (bits : List Bool) → ((wire : ℕ) → IsIn to (length bits) wire → P wire) → EachWire P (sequence (flips to bits))
flips_use P to [] given = tt
flips_use P to (true ∷ bits) given = ((tt, given to (in_first to (length bits))), flips_use P (suc to) bits (λ wire inside. given wire (in_others to (length bits) wire inside)))
flips_use P to (false ∷ bits) given = flips_use P (suc to) bits (λ wire inside. given wire (in_others to (length bits) wire inside))

-- a load uses the wires of the operand and of the region
pub load_uses : (P : ℕ → Type 0) (x : PlainOperand) (to width : ℕ) → HasWidth x width → ((wire : ℕ) → IsOfOperand x width wire → P wire) → ((wire : ℕ) → IsIn to width wire → P wire) → EachWire P (copy_tree x to width)
load_uses P (Wires from) to width wide own given = copies_use P from to width own given
load_uses P (Fixed bits) to width wide own given = flips_use P to bits (λ wire inside. given wire (record { from_start = inside.from_start; before_end = omega (arith, inside.before_end, wide) }))

copies_proper : (from to count : ℕ) → AreDisjoint (IsIn from count) (IsIn to count) → IsProperCode (sequence (copies from to count))
copies_proper from to zero apart = tt
copies_proper from to (suc count) apart = (
  (((λ same. apart from (in_first from count) (record { from_start = omega (arith, same); before_end = omega (arith, same) })), tt), (tt, tt)),
  copies_proper (suc from) (suc to) count (λ wire u v. apart wire (in_others from count wire u) (in_others to count wire v)),
)

flips_proper : (to : ℕ) (bits : List Bool) → IsProperCode (sequence (flips to bits))
flips_proper to [] = tt
flips_proper to (true ∷ bits) = ((tt, tt), flips_proper (suc to) bits)
flips_proper to (false ∷ bits) = flips_proper (suc to) bits

pub load_proper : (x : PlainOperand) (to width : ℕ) → AreDisjoint (IsOfOperand x width) (IsIn to width) → IsProperCode (copy_tree x to width)
load_proper (Wires from) to width apart = copies_proper from to width apart
load_proper (Fixed bits) to width apart = flips_proper to bits

pub length-operand : (x : PlainOperand) (width : ℕ) (bits : Bits) → HasWidth x width → length (operand_bits x width bits) ≡ width
length-operand (Wires from) width bits wide = length-read from width bits
length-operand (Fixed own) width bits wide = wide

-- a change that spares an operand does not change its bits
pub operand_spared : (x : PlainOperand) (width : ℕ) (bits by : Bits) → AreZero (IsOfOperand x width) by → operand_bits x width (changed bits by) ≡ operand_bits x width bits
operand_spared (Wires from) width bits by spared = read_changed from width bits by spared
operand_spared (Fixed own) width bits by spared = refl

-- bits that are placed in a region are 0 on wires apart from it
pub placed_apart : (P : ℕ → Type 0) (at count : ℕ) (bits : List Bool) → length bits ≡ count → AreDisjoint P (IsIn at count) → AreZero P (placed at bits)
placed_apart P at count bits long apart wire own =
    placed_elsewhere at bits wire (λ inside. apart wire own (record { from_start = inside.from_start; before_end = omega (arith, inside.before_end, long) }))

module _ (x y : PlainOperand) (to left right : ℕ) (wide_x : HasWidth x left) (wide_y : HasWidth y right)
    (apart_x : AreDisjoint (IsOfOperand x left) (IsIn to (left + right))) (apart_y : AreDisjoint (IsOfOperand y right) (IsIn to (left + right))) where
  in_left : (wire : ℕ) → IsIn to left wire → IsIn to (left + right) wire
  in_left wire inside = record { from_start = inside.from_start; before_end = omega (arith, inside.before_end) }

  in_right : (wire : ℕ) → IsIn (to + left) right wire → IsIn to (left + right) wire
  in_right wire inside = record { from_start = omega (arith, inside.from_start); before_end = omega (arith, inside.before_end) }

  -- two loads, one after the other
  pub both_split : (bits : Bits) → mean_wires (pair_tree x y to left right) false bits ≡ changed (changed bits (placed to (operand_bits x left bits))) (placed (to + left) (operand_bits y right bits))
  both_split bits =
      let xs : List Bool = operand_bits x left bits in
      let long : length xs ≡ left = length-operand x left bits wide_x in
      let spared : AreZero (IsOfOperand y right) (placed to xs) = placed_apart (IsOfOperand y right) to left xs long (λ wire u v. apart_y wire u (in_left wire v)) in
      ap (mean_wires (copy_tree y (to + left) right) false) (load_does x to left bits (λ wire u v. apart_x wire u (in_left wire v)))
      ∙ load_does y (to + left) right (changed bits (placed to xs)) (λ wire u v. apart_y wire u (in_right wire v))
      ∙ ap (λ own. changed (changed bits (placed to xs)) (placed (to + left) own)) (operand_spared y right bits (placed to xs) spared)

  pub both_do : (bits : Bits) → mean_wires (pair_tree x y to left right) false bits ≡ changed bits (placed to (operand_bits x left bits ++ operand_bits y right bits))
  both_do bits =
      let xs : List Bool = operand_bits x left bits in
      let ys : List Bool = operand_bits y right bits in
      both_split bits
      ∙ changed_assoc bits (placed to xs) (placed (to + left) ys)
      ∙ ap (changed bits) (sym (placed_append to xs ys ∙ ap (λ n. changed (placed to xs) (placed (to + n) ys)) (length-operand x left bits wide_x)))

  pub both_use : (P : ℕ → Type 0) → ((wire : ℕ) → IsOfOperand x left wire → P wire) → ((wire : ℕ) → IsOfOperand y right wire → P wire) → ((wire : ℕ) → IsIn to (left + right) wire → P wire) → EachWire P (pair_tree x y to left right)
  both_use P own_x own_y given = (
    load_uses P x to left wide_x own_x (λ wire inside. given wire (in_left wire inside)),
    (load_uses P y (to + left) right wide_y own_y (λ wire inside. given wire (in_right wire inside)), tt),
  )

  pub both_proper : IsProperCode (pair_tree x y to left right)
  both_proper = (load_proper x to left (λ wire u v. apart_x wire u (in_left wire v)), (load_proper y (to + left) right (λ wire u v. apart_y wire u (in_right wire v)), tt))
