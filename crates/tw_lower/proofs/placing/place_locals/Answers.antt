use Rattle.tw_types.specs.FromCode.{ty_of}
use Rattle.tw_frames.specs.Found.{setting_of, types_of}
use Rattle.tw_lower.proofs.NamedWires.{local_next, one_placed, one_within}
use Rattle.tw_lower.proofs.placing.place_locals.Goals as goal

pub place_name-requires : goal.place_name-requires
place_name-requires c =
    let next = local_next (setting_of c.args.body.now) c.args.body.now.fun c.loop-place.place c.local.result.0.now (ty_of c.local.result.1) c.local.ensures in
    one_within (setting_of c.args.body.now).widths (types_of c.args.body.now) c.loop-place.invariant next c.requires

pub loop-place-preserved : goal.loop-place-preserved
loop-place-preserved c =
    let next = local_next (setting_of c.args.body.now) c.args.body.now.fun c.loop-place.place c.local.result.0.now (ty_of c.local.result.1) c.local.ensures in
    one_placed (setting_of c.args.body.now).widths (types_of c.args.body.now) c.loop-place.invariant next c.in_ok-wire.ensures.next c.in_ok-wire.ensures.placed
