use Rattle.std.proofs.Common.{map}
use Rattle.tw_state.specs.FromCode.{cell_of}
use Rattle.tw_state.specs.Renamings.{ArePlaced}
use Rattle.tw_state.proofs.renaming.renamed_cells.Given as goal

abbrev pub invariant-loop-place : goal.invariant-loop-place
invariant-loop-place l = ArePlaced l.perm (map cell_of l.cells) l.place (map cell_of l.new.items)
