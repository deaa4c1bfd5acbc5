-- A type's size is at most its extent.
use Rattle.std.proofs.Common.{◌≤◌, arith}
use Rattle.tw_types.specs.Types.{Widths, Ty, UnitTy, Word, Boolean, Pointer, PairTy, size, extent}

-- the size is at most the extent
pub size_le_extent : (widths : Widths) (ty : Ty) → size widths ty ≤ extent widths ty
size_le_extent widths UnitTy = omega arith
size_le_extent widths Word = omega arith
size_le_extent widths Boolean = omega arith
size_le_extent widths (Pointer target) = omega arith
size_le_extent widths (PairTy first second) =
    let left = size_le_extent widths first in let right = size_le_extent widths second in omega arith
