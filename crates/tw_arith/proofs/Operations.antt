-- Operations on two operands that are loaded into scratch. The loads are proved here once: of an operation's own code it is to be
-- shown what it does on scratch whose first wires hold any bits.
use Rattle.std.proofs.Common.{◌≡◌, ◌≢◌, ◌∙◌, ap, sym, subst, refl, ℕ, ◌+◌, ◌⊎◌, ⊎_elim, inl, inr, Bool, true, false, ◌&&◌, List, [], ◌∷◌, length, arith}
use Rattle.tw_code.specs.Trees.{CodeTree, FlipCode, sequence}
use Rattle.tw_code.specs.Wires.{EachWire, IsProperCode}
use Rattle.tw_code.specs.Functions.{xor, Bits, changed, one_at, placed, read, IsIn, AreDisjoint, AreZero, mean_wires}
use Rattle.tw_code.proofs.Changes.{changed_zeros, changed_spared, read_same, read_changed, read_placed}
use Rattle.tw_code.proofs.Wires.{each_weaker}
use Rattle.tw_code.proofs.WireMeaning.{around}
use Rattle.tw_arith.specs.Operands.{PlainOperand, IsOfOperand, HasWidth, operand_bits}
use Rattle.tw_arith.specs.Circuits.{copy_tree, pair_tree, operation, and_tree}
use Rattle.tw_code.specs.Rows.{and_rows}
use Rattle.tw_arith.specs.Prices.{operand_load}
use Rattle.tw_arith.specs.Xors.{AreApart, IsOf, InX, InY, InOut, InScratch, Value, and_value, result_bits, XorsWires, Xors, operation_regions, and_regions}
use Rattle.tw_arith.proofs.Loads.{load_uses, load_proper, length-operand, placed_apart, both_split}
use Rattle.tw_arith.proofs.Pricing.{and_price}
use Rattle.tw_arith.proofs.Placing.{on_lists}

-- bits that were placed in wires that are 0 are read there
read_loaded : (at count : ℕ) (own : List Bool) (bits : Bits) → length own ≡ count → AreZero (IsIn at count) bits → read at count (changed bits (placed at own)) ≡ own
read_loaded at count own bits long clear =
    read_same at count (changed bits (placed at own)) (placed at own) (λ wire inside. ap (λ k. xor k (placed at own wire)) (clear wire inside))
    ∙ ap (λ n. read at n (placed at own)) (sym long)
    ∙ read_placed at own

-- What is to be shown of an operation: its core works on the scratch, and its end XORs the value of the bits that the loads left there.
pub record IsCore (width out result s others : ℕ) (value : Value) (core : List CodeTree) (end : CodeTree) : Type 0 where
  pub uses : EachWire (IsIn s (width + width + others)) (sequence core)
  pub proper : IsProperCode (sequence core)
  pub end_uses : EachWire (λ wire. IsIn s (width + width + others) wire ⊎ IsIn out result wire) end
  pub end_proper : IsProperCode end
  pub long : (xs ys : List Bool) → length xs ≡ width → length ys ≡ width → length (value xs ys) ≡ result
  pub does : (bits : Bits) → AreZero (IsIn (s + width + width) others) bits
      → mean_wires end false (mean_wires (sequence core) false bits) ≡ changed (mean_wires (sequence core) false bits) (placed out (value (read s width bits) (read (s + width) width bits)))

module _ (x y : PlainOperand) (width out result s others : ℕ) (value : Value) (core : List CodeTree) (end : CodeTree)
    (wide_x : HasWidth x width) (wide_y : HasWidth y width) (apart : AreApart (operation_regions x y width out result s others)) (is : IsCore width out result s others value core end) where
  in_loads : (wire : ℕ) → IsIn s (width + width) wire → IsIn s (width + width + others) wire
  in_loads wire inside = record { from_start = inside.from_start; before_end = omega (arith, inside.before_end) }

  in_x : (wire : ℕ) → IsIn s width wire → IsIn s (width + width + others) wire
  in_x wire inside = record { from_start = inside.from_start; before_end = omega (arith, inside.before_end) }

  in_y : (wire : ℕ) → IsIn (s + width) width wire → IsIn s (width + width + others) wire
  in_y wire inside = record { from_start = omega (arith, inside.from_start); before_end = omega (arith, inside.before_end) }

  in_others : (wire : ℕ) → IsIn (s + width + width) others wire → IsIn s (width + width + others) wire
  in_others wire inside = record { from_start = omega (arith, inside.from_start); before_end = omega (arith, inside.before_end) }

  setup : CodeTree
  setup = sequence (copy_tree x s width ∷ copy_tree y (s + width) width ∷ core)

  setup_uses : (P : ℕ → Type 0) → ((wire : ℕ) → IsOfOperand x width wire → P wire) → ((wire : ℕ) → IsOfOperand y width wire → P wire) → ((wire : ℕ) → IsIn s (width + width + others) wire → P wire) → EachWire P setup
  unfolding setup
  setup_uses P own_x own_y given = (
    load_uses P x s width wide_x own_x (λ wire inside. given wire (in_x wire inside)),
    (load_uses P y (s + width) width wide_y own_y (λ wire inside. given wire (in_y wire inside)), each_weaker (IsIn s (width + width + others)) P given (sequence core) is.uses),
  )

  setup_proper : IsProperCode setup
  unfolding setup
  setup_proper = (
    load_proper x s width (λ wire u v. apart.x_scratch wire u (in_x wire v)),
    (load_proper y (s + width) width (λ wire u v. apart.y_scratch wire u (in_y wire v)), is.proper),
  )

  operation_does : (bits : Bits) → AreZero (IsIn s (width + width + others)) bits
      → mean_wires (operation x y s width core end) false bits ≡ changed bits (result_bits (operation_regions x y width out result s others) value bits)
  unfolding setup
  operation_does bits clear =
      let xs : List Bool = operand_bits x width bits in
      let ys : List Bool = operand_bits y width bits in
      let long_x : length xs ≡ width = length-operand x width bits wide_x in
      let long_y : length ys ≡ width = length-operand y width bits wide_y in
      let one : Bits = changed bits (placed s xs) in
      let loaded : Bits = mean_wires (pair_tree x y s width width) false bits in
      let both : loaded ≡ changed one (placed (s + width) ys) =
      both_split x y s width width wide_x wide_y (λ wire u v. apart.x_scratch wire u (in_loads wire v)) (λ wire u v. apart.y_scratch wire u (in_loads wire v)) bits in
      let x_spares_y : AreZero (IsIn (s + width) width) (placed s xs) = placed_apart (IsIn (s + width) width) s width xs long_x (λ wire u v. omega (arith, u.from_start, v.before_end)) in
      let y_spares_x : AreZero (IsIn s width) (placed (s + width) ys) = placed_apart (IsIn s width) (s + width) width ys long_y (λ wire u v. omega (arith, u.before_end, v.from_start)) in
      let x_spares : AreZero (IsIn (s + width + width) others) (placed s xs) = placed_apart (IsIn (s + width + width) others) s width xs long_x (λ wire u v. omega (arith, u.from_start, v.before_end)) in
      let y_spares : AreZero (IsIn (s + width + width) others) (placed (s + width) ys) =
      placed_apart (IsIn (s + width + width) others) (s + width) width ys long_y (λ wire u v. omega (arith, u.from_start, v.before_end)) in
      let reads_x : read s width loaded ≡ xs =
      ap (read s width) both ∙ read_changed s width one (placed (s + width) ys) y_spares_x ∙ read_loaded s width xs bits long_x (λ wire inside. clear wire (in_x wire inside)) in
      let reads_y : read (s + width) width loaded ≡ ys =
      ap (read (s + width) width) both
      ∙ read_loaded (s + width) width ys one long_y (λ wire inside. changed_spared bits (placed s xs) wire (x_spares_y wire inside) ∙ clear wire (in_y wire inside)) in
      let rest : AreZero (IsIn (s + width + width) others) loaded = λ wire inside.
      ap (λ (b : Bits). b wire) both
      ∙ changed_spared one (placed (s + width) ys) wire (y_spares wire inside)
      ∙ changed_spared bits (placed s xs) wire (x_spares wire inside)
      ∙ clear wire (in_others wire inside) in
      let zs : List Bool = value xs ys in
      let by : Bits = placed out zs in
      let long : length zs ≡ result = is.long xs ys long_x long_y in
      let spared : EachWire (λ wire. by wire ≡ false) setup =
      setup_uses (λ wire. by wire ≡ false)
      (placed_apart (IsOfOperand x width) out result zs long apart.x_out)
      (placed_apart (IsOfOperand y width) out result zs long apart.y_out)
      (placed_apart (IsIn s (width + width + others)) out result zs long (λ wire u v. apart.out_scratch wire v u)) in
      let work = is.does loaded rest ∙ (λ i. changed (mean_wires (sequence core) false loaded) (placed out (value (reads_x i) (reads_y i)))) in
      around setup end false bits by setup_proper spared work

  -- the operation XORs its value
  pub operates : XorsWires (operation_regions x y width out result s others) value (operation x y s width core end)
  unfolding setup
  operates = record {
    proper = (setup_proper, is.end_proper);
    uses = (
      setup_uses (IsOf (operation_regions x y width out result s others)) (λ wire own. InX wire own) (λ wire own. InY wire own) (λ wire inside. InScratch wire inside),
      each_weaker (λ wire. IsIn s (width + width + others) wire ⊎ IsIn out result wire) (IsOf (operation_regions x y width out result s others))
          (λ wire either. ⊎_elim (λ inside. InScratch wire inside) (λ inside. InOut wire inside) either) end is.end_uses,
    );
    long = λ bits. is.long (operand_bits x width bits) (operand_bits y width bits) (length-operand x width bits wide_x) (length-operand y width bits wide_y);
    does = operation_does;
  }

and_true : (k : Bool) → (k && true) ≡ k
and_true true = refl
and_true false = refl

module _ (out s : ℕ) (apart : AreDisjoint (IsIn out 1) (IsIn s 2)) where
  out_first : out ≢ s
  out_first same = apart s (record { from_start = omega (arith, same); before_end = omega (arith, same) }) (record { from_start = omega arith; before_end = omega arith })

  out_second : out ≢ s + 1
  out_second same = apart (s + 1) (record { from_start = omega (arith, same); before_end = omega (arith, same) }) (record { from_start = omega arith; before_end = omega arith })

  and_core : IsCore 1 out 1 s 0 and_value [] (FlipCode (s ∷ (s + 1) ∷ []) out)
  and_core = record {
    uses = tt;
    proper = tt;
    end_uses = ((inl (record { from_start = omega arith; before_end = omega arith }), (inl (record { from_start = omega arith; before_end = omega arith }), tt)), inr (record { from_start = omega arith; before_end = omega arith }));
    end_proper = ((out_first, (out_second, tt)), (((λ same. omega (arith, same)), tt), (tt, tt)));
    long = λ xs ys long_x long_y. refl;
    does = λ bits clear.
        ap (λ k. changed bits (one_at out (bits s && k))) (and_true (bits (s + 1))) ∙ ap (changed bits) (sym (changed_zeros (one_at out (bits s && bits (s + 1)))));
  }

pub and_wires : (x y : PlainOperand) (out s : ℕ) → HasWidth x 1 → HasWidth y 1 → AreApart (and_regions x y out s) → XorsWires (and_regions x y out s) and_value (and_tree x y out s)
and_wires x y out s wide_x wide_y apart = operates x y 1 out 1 s 0 and_value [] (FlipCode (s ∷ (s + 1) ∷ []) out) wide_x wide_y apart (and_core out s apart.out_scratch)

pub and_xors : (x y : PlainOperand) (out s : ℕ) → HasWidth x 1 → HasWidth y 1 → AreApart (and_regions x y out s) → Xors (and_regions x y out s) and_value (and_rows (operand_load x 1) (operand_load y 1)) (and_tree x y out s)
and_xors x y out s wide_x wide_y apart =
    on_lists (and_regions x y out s) and_value (and_tree x y out s) apart (and_wires x y out s wide_x wide_y apart) (and_rows (operand_load x 1) (operand_load y 1)) (λ options under wanted. and_price options x y out s under wanted)

-- a code with that tree
pub and_made : (x y : PlainOperand) (out s : ℕ) (code : CodeTree) → code ≡ and_tree x y out s → HasWidth x 1 → HasWidth y 1 → AreApart (and_regions x y out s) → Xors (and_regions x y out s) and_value (and_rows (operand_load x 1) (operand_load y 1)) code
and_made x y out s code is wide_x wide_y apart = subst (Xors (and_regions x y out s) and_value (and_rows (operand_load x 1) (operand_load y 1))) (sym is) (and_xors x y out s wide_x wide_y apart)
