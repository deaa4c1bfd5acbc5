-- Constants as bits of numbers.
use Rattle.std.proofs.Common.{◌≡◌, ◌∙◌, ◌<◌, sym, ap, arith, ℕ, Bool, false, suc, ◌+◌, ◌-◌, ◌/◌, ◌%◌, ◌==◌, List, [], ◌∷◌, ◌++◌, length, replicate, Option, Some, None, option_map, unwrap_or, Result, IfOk, subst, append_assoc}
use Rattle.std.proofs.lemmas.List.{length-replicate}
use Rattle.std.proofs.lemmas.Result.{IfOk-weaker}
use Rattle.tw_bits.specs.Numbers.{number_bits}
use Rattle.tw_bits.proofs.Laws.{length-number_bits, number_bits-zero}
use Rattle.tw_text.specs.declared.place.Pos.{Pos}
use Rattle.tw_syntax.specs.Terms.{AtomTree, NumberAtom, TrueAtom, FalseAtom, UnitAtom, NullAtom, ZeroAtom}
use Rattle.tw_syntax.specs.Types.{WrittenTree}
use Rattle.tw_types.specs.Types.{Widths, Ty, size}
use Rattle.tw_types.specs.Values.{value_bits, zero_value}
use Rattle.tw_types.proofs.Zeros.{value_bits-zero}
use Rattle.tw_resolve.specs.Setting.{Setting, type_of}
use Rattle.tw_arith.specs.declared.operand.Operand.{Operand}
use Rattle.tw_arith.specs.Operands.{PlainOperand, Fixed, HasWidth, plain}
use Rattle.tw_frames.specs.Frames.{Frame}
use Rattle.tw_lower.specs.Operands.{operand_of}

-- one more bit of a number, and the bits of the rest
pub bit_pushed : (bits all : List Bool) (width count n : ℕ) → count < width → bits ++ number_bits (width - count) n ≡ all
    → (bits ++ (n % 2 == 1) ∷ []) ++ number_bits (width - (count + 1)) (n / 2) ≡ all
bit_pushed bits all width count n inside is =
    let one : width - count ≡ suc (width - (count + 1)) = omega (arith, inside) in
    append_assoc bits ((n % 2 == 1) ∷ []) (number_bits (width - (count + 1)) (n / 2)) ∙ ap (λ w. bits ++ number_bits w n) (sym one) ∙ is

-- the zero of a type, or no bits, as a number of as many bits
zero_bits : (widths : Widths) (ty : Option Ty) (width : ℕ) → length (unwrap_or (option_map (value_bits widths) (option_map zero_value ty)) []) ≡ width
    → number_bits width 0 ≡ unwrap_or (option_map (value_bits widths) (option_map zero_value ty)) []
zero_bits widths None width wide = ap (λ w. number_bits w 0) (sym wide)
zero_bits widths (Some ty) width wide =
    let same : width ≡ size widths ty = sym wide ∙ ap length (value_bits-zero widths ty) ∙ length-replicate (size widths ty) false in
    ap (λ w. number_bits w 0) same ∙ number_bits-zero (size widths ty) ∙ sym (value_bits-zero widths ty)

module _ (setting : Setting) (frame : Frame) (at : Pos) (width : ℕ) where
  -- the number is that of the constant
  abbrev IsNumber : AtomTree → ℕ → Type 0
  IsNumber atom n = HasWidth (operand_of setting frame atom) width → Fixed (number_bits width n) ≡ operand_of setting frame atom

  pub number_is : (n : ℕ) → IsNumber (NumberAtom at n) n
  number_is n wide = ap (λ w. Fixed (number_bits w n)) (sym wide ∙ length-number_bits setting.widths.word n)

  pub true_is : IsNumber (TrueAtom at) 1
  true_is wide = ap (λ w. Fixed (number_bits w 1)) (sym wide)

  pub false_is : IsNumber (FalseAtom at) 0
  false_is wide = ap (λ w. Fixed (number_bits w 0)) (sym wide)

  pub unit_is : IsNumber (UnitAtom at) 0
  unit_is wide = ap (λ w. Fixed (number_bits w 0)) (sym wide)

  pub null_is : (to : WrittenTree) → IsNumber (NullAtom at to) 0
  null_is to wide = ap (λ w. Fixed (number_bits w 0)) (sym wide ∙ length-number_bits setting.widths.addr 0)

  pub zero_is : (written : WrittenTree) → IsNumber (ZeroAtom at written) 0
  zero_is written wide = ap Fixed (zero_bits setting.widths (type_of setting written) width wide)

  -- an operand that is made of this number is that of the constant
  pub operand_made : {E : Type 0} (result : Result Operand E) (atom constant : AtomTree) (n : ℕ) → atom ≡ constant → IsNumber constant n → HasWidth (operand_of setting frame atom) width
      → IfOk result (λ x. plain x ≡ Fixed (number_bits width n)) → IfOk result (λ x. plain x ≡ operand_of setting frame atom)
  operand_made result atom constant n same is_number wide made =
      IfOk-weaker result _ _ (λ x is. is ∙ is_number (subst (λ (a : AtomTree). HasWidth (operand_of setting frame a) width) same wide) ∙ sym (ap (operand_of setting frame) same)) made
