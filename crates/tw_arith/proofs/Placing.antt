-- A code that XORs a value over the bits of all wires does so both ways, and over lists. Copies and pairs.
use Rattle.std.proofs.Common.{◌≡◌, ◌∙◌, ap, sym, subst, ℕ, ◌<◌, Bool, true, false, List, length, arith, length-append}
use Rattle.tw_bits.specs.Lists.{bit_at}
use Rattle.tw_code.specs.declared.code.Options.{Options}
use Rattle.tw_code.specs.Trees.{CodeTree}
use Rattle.tw_code.specs.Functions.{Bits, changed, placed, read, IsIn, AreZero, mean_wires}
use Rattle.tw_code.specs.Counts.{counts}
use Rattle.tw_code.proofs.Changes.{changed_twice, changed_spared}
use Rattle.tw_code.proofs.Wires.{each_weaker}
use Rattle.tw_code.proofs.WireMeaning.{undo}
use Rattle.tw_code.proofs.OnLists.{mean_on_list}
use Rattle.tw_arith.specs.Operands.{PlainOperand, IsOfOperand, HasWidth, operand_bits}
use Rattle.tw_arith.specs.Circuits.{copy_tree, pair_tree}
use Rattle.tw_code.specs.Rows.{Row, gates_in, load_rows, pair_rows}
use Rattle.tw_arith.specs.Prices.{operand_load}
use Rattle.tw_arith.specs.Xors.{Regions, AreApart, IsOf, InX, InY, InOut, Value, copy_value, pair_value, result_bits, XorsWires, Xors, copy_regions, pair_regions}
use Rattle.tw_arith.proofs.Loads.{load_does, load_uses, load_proper, length-operand, operand_spared, placed_apart, both_do, both_use, both_proper}
use Rattle.tw_arith.proofs.Pricing.{load_price, pair_price}

module _ (at : Regions) (value : Value) (code : CodeTree) (apart : AreApart at) (xors : XorsWires at value code) where
  -- the value that was XORed in is still that of the operands
  pub result_same : (bits : Bits) → result_bits at value (changed bits (result_bits at value bits)) ≡ result_bits at value bits
  result_same bits =
      let by : Bits = result_bits at value bits in
      let zs : List Bool = value (operand_bits at.x at.left bits) (operand_bits at.y at.right bits) in
      let spared_x : AreZero (IsOfOperand at.x at.left) by = placed_apart (IsOfOperand at.x at.left) at.out at.width zs (xors.long bits) apart.x_out in
      let spared_y : AreZero (IsOfOperand at.y at.right) by = placed_apart (IsOfOperand at.y at.right) at.out at.width zs (xors.long bits) apart.y_out in
      let same_x = operand_spared at.x at.left bits by spared_x in
      let same_y = operand_spared at.y at.right bits by spared_y in
      λ i. placed at.out (value (same_x i) (same_y i))

  -- forward takes the value out again
  pub takes : (bits : Bits) → AreZero (IsIn at.scratch at.room) bits → mean_wires code false (changed bits (result_bits at value bits)) ≡ bits
  takes bits clear =
      let by : Bits = result_bits at value bits in
      let zs : List Bool = value (operand_bits at.x at.left bits) (operand_bits at.y at.right bits) in
      let spared : AreZero (IsIn at.scratch at.room) by = placed_apart (IsIn at.scratch at.room) at.out at.width zs (xors.long bits) (λ wire u v. apart.out_scratch wire v u) in
      xors.does (changed bits by) (λ wire inside. changed_spared bits by wire (spared wire inside) ∙ clear wire inside)
      ∙ ap (changed (changed bits by)) (result_same bits)
      ∙ changed_twice bits by

  -- both ways the code XORs the value
  pub both_ways : (backward : Bool) (bits : Bits) → AreZero (IsIn at.scratch at.room) bits → mean_wires code backward bits ≡ changed bits (result_bits at value bits)
  both_ways false bits clear = xors.does bits clear
  both_ways true bits clear = ap (mean_wires code true) (sym (takes bits clear)) ∙ undo code false (changed bits (result_bits at value bits)) xors.proper

  -- over lists
  pub on_lists : (rows : ℕ → List Row) → ((options : Options) (under wanted : ℕ) → counts options code under wanted ≡ gates_in (rows under) wanted) → Xors at value rows code
  on_lists rows prices = record {
    proper = xors.proper;
    uses = xors.uses;
    does = λ backward bits all clear.
        mean_on_list code backward bits (each_weaker (IsOf at) (λ wire. wire < length bits) all code xors.uses) ∙ ap (read 0 (length bits)) (both_ways backward (bit_at bits) clear);
    prices = prices;
  }

pub copy_wires : (x : PlainOperand) (out width : ℕ) → HasWidth x width → AreApart (copy_regions x out width) → XorsWires (copy_regions x out width) copy_value (copy_tree x out width)
copy_wires x out width wide apart = record {
  proper = load_proper x out width apart.x_out;
  uses = load_uses (IsOf (copy_regions x out width)) x out width wide (λ wire own. InX wire own) (λ wire inside. InOut wire inside);
  long = λ bits. length-operand x width bits wide;
  does = λ bits clear. load_does x out width bits apart.x_out;
}

pub copy_xors : (x : PlainOperand) (out width : ℕ) → HasWidth x width → AreApart (copy_regions x out width) → Xors (copy_regions x out width) copy_value (load_rows (operand_load x width)) (copy_tree x out width)
copy_xors x out width wide apart =
    on_lists (copy_regions x out width) copy_value (copy_tree x out width) apart (copy_wires x out width wide apart) (load_rows (operand_load x width)) (λ options under wanted. load_price options x out width under wanted)

pub pair_wires : (x y : PlainOperand) (out left right : ℕ) → HasWidth x left → HasWidth y right → AreApart (pair_regions x y out left right)
    → XorsWires (pair_regions x y out left right) pair_value (pair_tree x y out left right)
pair_wires x y out left right wide_x wide_y apart = record {
  proper = both_proper x y out left right wide_x wide_y apart.x_out apart.y_out;
  uses = both_use x y out left right wide_x wide_y apart.x_out apart.y_out (IsOf (pair_regions x y out left right)) (λ wire own. InX wire own) (λ wire own. InY wire own) (λ wire inside. InOut wire inside);
  long = λ bits. omega (arith, length-append (operand_bits x left bits) (operand_bits y right bits), length-operand x left bits wide_x, length-operand y right bits wide_y);
  does = λ bits clear. both_do x y out left right wide_x wide_y apart.x_out apart.y_out bits;
}

pub pair_xors : (x y : PlainOperand) (out left right : ℕ) → HasWidth x left → HasWidth y right → AreApart (pair_regions x y out left right)
    → Xors (pair_regions x y out left right) pair_value (pair_rows (operand_load x left) (operand_load y right)) (pair_tree x y out left right)
pair_xors x y out left right wide_x wide_y apart =
    on_lists (pair_regions x y out left right) pair_value (pair_tree x y out left right) apart (pair_wires x y out left right wide_x wide_y apart) (pair_rows (operand_load x left) (operand_load y right))
    (λ options under wanted. pair_price options x y out left right under wanted)

-- a code with that tree
pub copy_made : (x : PlainOperand) (out width : ℕ) (code : CodeTree) → code ≡ copy_tree x out width → HasWidth x width → AreApart (copy_regions x out width) → Xors (copy_regions x out width) copy_value (load_rows (operand_load x width)) code
copy_made x out width code is wide apart = subst (Xors (copy_regions x out width) copy_value (load_rows (operand_load x width))) (sym is) (copy_xors x out width wide apart)

pub pair_made : (x y : PlainOperand) (out left right : ℕ) (code : CodeTree) → code ≡ pair_tree x y out left right → HasWidth x left → HasWidth y right → AreApart (pair_regions x y out left right)
    → Xors (pair_regions x y out left right) pair_value (pair_rows (operand_load x left) (operand_load y right)) code
pair_made x y out left right code is wide_x wide_y apart =
    subst (Xors (pair_regions x y out left right) pair_value (pair_rows (operand_load x left) (operand_load y right))) (sym is) (pair_xors x y out left right wide_x wide_y apart)
