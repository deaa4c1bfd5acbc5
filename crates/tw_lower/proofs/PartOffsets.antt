-- The parts of a value lie within it.
use Rattle.std.proofs.Common.{◌≡◌, ◌∙◌, ◌≤◌, ◌<◌, refl, ap, arith, ℕ, zero, suc, ◌+◌, List, [], ◌∷◌, Option, Some, None, option_map, unwrap_or}
use Rattle.tw_types.specs.Types.{Widths, Ty, UnitTy, Word, Boolean, Pointer, PairTy, size}
use Rattle.tw_syntax.specs.Names.{PathTree}
use Rattle.tw_resolve.specs.Setting.{Setting, reported}
use Rattle.tw_arith.specs.Operands.{EndsWithin}
use Rattle.tw_frames.specs.Frames.{Frame}
use Rattle.tw_frames.specs.Sizes.{name_size, type_size}
use Rattle.tw_lower.specs.Operands.{part_offset, path_wire}

-- types other than pairs have no parts
pub unit_offset : (widths : Widths) (steps : List ℕ) → part_offset widths steps UnitTy ≡ 0
unit_offset widths [] = refl
unit_offset widths (zero ∷ steps) = refl
unit_offset widths (suc zero ∷ steps) = refl
unit_offset widths (suc (suc zero) ∷ steps) = refl
unit_offset widths (suc (suc (suc step)) ∷ steps) = refl

pub word_offset : (widths : Widths) (steps : List ℕ) → part_offset widths steps Word ≡ 0
word_offset widths [] = refl
word_offset widths (zero ∷ steps) = refl
word_offset widths (suc zero ∷ steps) = refl
word_offset widths (suc (suc zero) ∷ steps) = refl
word_offset widths (suc (suc (suc step)) ∷ steps) = refl

pub truth_offset : (widths : Widths) (steps : List ℕ) → part_offset widths steps Boolean ≡ 0
truth_offset widths [] = refl
truth_offset widths (zero ∷ steps) = refl
truth_offset widths (suc zero ∷ steps) = refl
truth_offset widths (suc (suc zero) ∷ steps) = refl
truth_offset widths (suc (suc (suc step)) ∷ steps) = refl

pub pointer_offset : (widths : Widths) (steps : List ℕ) (target : ℕ) → part_offset widths steps (Pointer target) ≡ 0
pointer_offset widths [] target = refl
pointer_offset widths (zero ∷ steps) target = refl
pointer_offset widths (suc zero ∷ steps) target = refl
pointer_offset widths (suc (suc zero) ∷ steps) target = refl
pointer_offset widths (suc (suc (suc step)) ∷ steps) target = refl

-- a part lies within the value
pub offset_within : (widths : Widths) (steps : List ℕ) (ty : Ty) → part_offset widths steps ty ≤ size widths ty
offset_within widths [] ty = omega arith
offset_within widths (zero ∷ steps) ty = omega arith
offset_within widths (suc zero ∷ steps) UnitTy = omega arith
offset_within widths (suc zero ∷ steps) Word = omega arith
offset_within widths (suc zero ∷ steps) Boolean = omega arith
offset_within widths (suc zero ∷ steps) (Pointer target) = omega arith
offset_within widths (suc zero ∷ steps) (PairTy first second) = let inner = offset_within widths steps first in omega (arith, inner)
offset_within widths (suc (suc zero) ∷ steps) UnitTy = omega arith
offset_within widths (suc (suc zero) ∷ steps) Word = omega arith
offset_within widths (suc (suc zero) ∷ steps) Boolean = omega arith
offset_within widths (suc (suc zero) ∷ steps) (Pointer target) = omega arith
offset_within widths (suc (suc zero) ∷ steps) (PairTy first second) = let inner = offset_within widths steps second in omega (arith, inner)
offset_within widths (suc (suc (suc step)) ∷ steps) ty = omega arith

module _ (setting : Setting) (frame : Frame) (path : PathTree) where
  -- a path lies at its part of the value of its name
  pub path_at : (ty : Ty) → frame.types path.root.text ≡ Some ty → path_wire setting frame path ≡ frame.wire path.root.text + part_offset setting.widths path.steps ty
  path_at ty is = ap (λ o. frame.wire path.root.text + unwrap_or (option_map (part_offset setting.widths path.steps) o) 0) is

  pub part_within : (ty : Ty) → frame.types path.root.text ≡ Some ty → EndsWithin (frame.wire path.root.text) (name_size setting.widths frame.types path.root.text)
      → EndsWithin (frame.wire path.root.text) (part_offset setting.widths path.steps ty)
  part_within ty is within =
      let all = ap (type_size setting.widths) is in
      let inner = offset_within setting.widths path.steps ty in
      omega (arith, all, inner, within)

  -- the first wire of a path, computed from that of its name and from the offset, which stops at the greatest `u64`
  pub record IsFound (first offset : ℕ) : Type 0 where
    pub fits : offset < 4294967296
    pub sum_fits : first + offset < 4294967296
    pub is : first + offset ≡ path_wire setting frame path

  pub path_found : (ty : Ty) (first offset : ℕ) → frame.types path.root.text ≡ Some ty → EndsWithin (frame.wire path.root.text) (name_size setting.widths frame.types path.root.text)
      → first ≡ frame.wire path.root.text → offset ≡ reported (part_offset setting.widths path.steps ty) → IsFound first offset
  path_found ty first offset typed within first_is offset_is =
      let inner = part_within ty typed within in
      let at = path_at ty typed in
      let count : offset ≡ part_offset setting.widths path.steps ty = omega (arith, offset_is, inner) in
      record { fits = omega (arith, count, inner); sum_fits = omega (arith, count, inner, first_is); is = omega (arith, count, first_is, at) }

  -- a path from a name without a type lies at its first wire
  pub path_untyped : frame.types path.root.text ≡ None → path_wire setting frame path ≡ frame.wire path.root.text
  path_untyped is = ap (λ o. frame.wire path.root.text + unwrap_or (option_map (part_offset setting.widths path.steps) o) 0) is ∙ omega arith
