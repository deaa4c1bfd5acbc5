use Rattle.std.proofs.Common.{drop}
use Rattle.tw_frames.specs.Found.{setting_of, types_of}
use Rattle.tw_lower.specs.NameWires.{local_names_at, wires_of}
use Rattle.tw_lower.proofs.NamedWires.{ArePlaced}
use Rattle.tw_lower.proofs.placing.place_locals.Given as goal

abbrev pub invariant-loop-place : goal.invariant-loop-place
invariant-loop-place l =
    let names = local_names_at (setting_of l.body) l.body.fun in
    ArePlaced (setting_of l.body).widths (types_of l.body) (wires_of l.initial.names) l.initial.wire names (drop l.place names) (wires_of l.names) l.wire
