-- Types with their sizes.
use Rattle.std.specs.Prelude.{◌≡◌}
use Rattle.tw_types.specs.Types.{Widths, depth, extent}
use Rattle.tw_types.specs.FromCode.{ty_of}
use Rattle.tw_resolve.specs.declared.sizes.SizedTy.{SizedTy}
use Rattle.tw_resolve.specs.Setting.{reported}

-- a type has these sizes, as far as a refusal can report them
pub record IsSized (widths : Widths) (sized : SizedTy) : Type 0 where
  pub depth : sized.depth ≡ reported (depth (ty_of sized.ty))
  pub extent : sized.extent ≡ reported (extent widths (ty_of sized.ty))
