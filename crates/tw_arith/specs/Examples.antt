-- Worked examples: regions that are apart, and what codes do to bits.
use Rattle.std.proofs.Common.{arith}
use Rattle.std.specs.Prelude.{◌≡◌, Bool, true, false, List, [], ◌∷◌, refl}
use Rattle.tw_code.specs.Meaning.{mean}
use Rattle.tw_arith.specs.Operands.{Wires, Fixed}
use Rattle.tw_arith.specs.Circuits.{pair_tree, and_tree}
use Rattle.tw_arith.specs.Xors.{AreApart, copy_regions, pair_regions, and_regions}

pub apart_copy : AreApart (copy_regions (Wires 0) 4 2)
apart_copy = record {
  x_out = λ wire u v. omega (arith, u.before_end, v.from_start);
  y_out = λ wire u v. omega (arith, u.before_end, v.from_start);
  x_scratch = λ wire u v. omega (arith, v.from_start, v.before_end);
  y_scratch = λ wire u v. omega (arith, v.from_start, v.before_end);
  out_scratch = λ wire u v. omega (arith, v.from_start, v.before_end);
}

-- the wires of the operand reach into the result
pub not_apart : ¬ AreApart (copy_regions (Wires 3) 4 2)
not_apart apart = apart.x_out 4 (record { from_start = omega arith; before_end = omega arith }) (record { from_start = omega arith; before_end = omega arith })

-- both operands are the same wire
pub apart_and : AreApart (and_regions (Wires 3) (Wires 3) 5 7)
apart_and = record {
  x_out = λ wire u v. omega (arith, u.before_end, v.from_start);
  y_out = λ wire u v. omega (arith, u.before_end, v.from_start);
  x_scratch = λ wire u v. omega (arith, u.before_end, v.from_start);
  y_scratch = λ wire u v. omega (arith, u.before_end, v.from_start);
  out_scratch = λ wire u v. omega (arith, u.before_end, v.from_start);
}

pub apart_two : AreApart (and_regions (Wires 0) (Wires 1) 2 3)
apart_two = record {
  x_out = λ wire u v. omega (arith, u.before_end, v.from_start);
  y_out = λ wire u v. omega (arith, u.before_end, v.from_start);
  x_scratch = λ wire u v. omega (arith, u.before_end, v.from_start);
  y_scratch = λ wire u v. omega (arith, u.before_end, v.from_start);
  out_scratch = λ wire u v. omega (arith, u.before_end, v.from_start);
}

-- a constant has no wires
pub apart_constant : (bits : List Bool) → AreApart (copy_regions (Fixed bits) 5 3)
apart_constant bits = record {
  x_out = λ wire u v. u;
  y_out = λ wire u v. u;
  x_scratch = λ wire u v. u;
  y_scratch = λ wire u v. u;
  out_scratch = λ wire u v. omega (arith, v.from_start, v.before_end);
}

pub apart_pair : (bits : List Bool) → AreApart (pair_regions (Fixed bits) (Wires 0) 4 2 1)
apart_pair bits = record {
  x_out = λ wire u v. u;
  y_out = λ wire u v. omega (arith, u.before_end, v.from_start);
  x_scratch = λ wire u v. u;
  y_scratch = λ wire u v. omega (arith, v.from_start, v.before_end);
  out_scratch = λ wire u v. omega (arith, v.from_start, v.before_end);
}

-- the conjunction of wires 0 and 1 on wire 2, with scratch from wire 3 on
pub mean-and_both : mean (and_tree (Wires 0) (Wires 1) 2 3) false (true ∷ true ∷ false ∷ false ∷ false ∷ []) ≡ true ∷ true ∷ true ∷ false ∷ false ∷ []
mean-and_both = refl

pub mean-and_one : mean (and_tree (Wires 0) (Wires 1) 2 3) false (true ∷ false ∷ true ∷ false ∷ false ∷ []) ≡ true ∷ false ∷ true ∷ false ∷ false ∷ []
mean-and_one = refl

pub mean-and_fixed : mean (and_tree (Fixed (true ∷ [])) (Wires 0) 1 2) true (true ∷ true ∷ false ∷ false ∷ []) ≡ true ∷ false ∷ false ∷ false ∷ []
mean-and_fixed = refl

-- a pair of the bits 0 and 1, least first, and wire 0
pub mean-pair : mean (pair_tree (Fixed (false ∷ true ∷ [])) (Wires 0) 1 2 1) false (true ∷ false ∷ false ∷ false ∷ []) ≡ true ∷ false ∷ true ∷ true ∷ []
mean-pair = refl
