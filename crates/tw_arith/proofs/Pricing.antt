-- How many gates the codes have.
use Rattle.std.proofs.Common.{◌≡◌, ◌∙◌, ap, ℕ, zero, suc, ◌+◌, ◌*◌, ◌==◌, Bool, true, false, if◌then◌else◌, List, [], ◌∷◌, ◌++◌, arith}
use Rattle.tw_code.specs.declared.code.Options.{Options}
use Rattle.tw_code.specs.Trees.{sequence}
use Rattle.tw_code.specs.Counts.{counts}
use Rattle.tw_code.specs.Rows.{Row, Load, Copied, row, gates_in, ones, load_rows, pair_rows, both_loads, and_rows}
use Rattle.tw_arith.specs.Operands.{PlainOperand, Wires, Fixed}
use Rattle.tw_arith.specs.Circuits.{copies, flips, copy_tree, pair_tree, and_tree}
use Rattle.tw_arith.specs.Prices.{operand_load}

pub gates_in-append : (xs ys : List Row) (wanted : ℕ) → gates_in (xs ++ ys) wanted ≡ gates_in xs wanted + gates_in ys wanted
gates_in-append [] ys wanted = omega arith
gates_in-append (first ∷ xs) ys wanted = omega (arith, gates_in-append xs ys wanted)

no_gates : (k : Bool) → 0 ≡ (if k then 0 else 0) + 0
no_gates true = omega arith
no_gates false = omega arith

one_more : (k : Bool) (n rest : ℕ) → rest ≡ (if k then n else 0) + 0 → (if k then 1 else 0) + rest ≡ (if k then suc n else 0) + 0
one_more true n rest e = omega (arith, e)
one_more false n rest e = omega (arith, e)

copies_price : (options : Options) (from to count under wanted : ℕ) → counts options (sequence (copies from to count)) under wanted ≡ gates_in (load_rows (Copied count) under) wanted
copies_price options from to zero under wanted = no_gates (1 + under == wanted)
copies_price options from to (suc count) under wanted =
    one_more (1 + under == wanted) count (counts options (sequence (copies (suc from) (suc to) count)) under wanted) (copies_price options (suc from) (suc to) count under wanted)

flips_price : (options : Options) (to : ℕ) (bits : List Bool) (under wanted : ℕ) → counts options (sequence (flips to bits)) under wanted ≡ (if under == wanted then ones bits else 0) + 0
flips_price options to [] under wanted = no_gates (under == wanted)
flips_price options to (true ∷ bits) under wanted =
    let e : 0 + under ≡ under = omega arith in
    let rest : ℕ = counts options (sequence (flips (suc to) bits)) under wanted in
    ap (λ n. (if n == wanted then 1 else 0) + rest) e
    ∙ one_more (under == wanted) (ones bits) rest (flips_price options (suc to) bits under wanted)
flips_price options to (false ∷ bits) under wanted = flips_price options (suc to) bits under wanted

pub load_price : (options : Options) (x : PlainOperand) (to width under wanted : ℕ) → counts options (copy_tree x to width) under wanted ≡ gates_in (load_rows (operand_load x width) under) wanted
load_price options (Wires from) to width under wanted = copies_price options from to width under wanted
load_price options (Fixed bits) to width under wanted = flips_price options to bits under wanted

pub pair_price : (options : Options) (x y : PlainOperand) (to left right under wanted : ℕ) → counts options (pair_tree x y to left right) under wanted ≡ gates_in (pair_rows (operand_load x left) (operand_load y right) under) wanted
pair_price options x y to left right under wanted =
    omega (arith, load_price options x to left under wanted, load_price options y (to + left) right under wanted, gates_in-append (load_rows (operand_load x left) under) (load_rows (operand_load y right) under) wanted)

-- two loads, which are undone
pub both_loads_twice : (x y : Load) (wanted : ℕ) → gates_in (both_loads x y) wanted ≡ 2 * gates_in (pair_rows x y 0) wanted
both_loads_twice x y wanted = gates_in-append (pair_rows x y 0) (pair_rows x y 0) wanted ∙ omega arith

pub and_price : (options : Options) (x y : PlainOperand) (out scratch under wanted : ℕ)
    → counts options (and_tree x y out scratch) under wanted ≡ gates_in (and_rows (operand_load x 1) (operand_load y 1) under) wanted
and_price options x y out scratch under wanted =
    let left = operand_load x 1 in
    let right = operand_load y 1 in
    omega (arith, pair_price options x y scratch 1 1 0 wanted, both_loads_twice left right wanted, gates_in-append (both_loads left right) (row 1 (2 + under) ∷ []) wanted)
