use Rattle.tw_syntax.specs.Programs.{fun_tree}
use Rattle.tw_frames.specs.Found.{setting_of, types_of}
use Rattle.tw_lower.proofs.NamedWires.{one_placed, one_within, shared_next}
use Rattle.tw_lower.proofs.placing.place_shared.Goals as goal

pub place_name-requires : goal.place_name-requires
place_name-requires c =
    let next = shared_next (setting_of c.args.body.now) c.args.body.now.fun c.loop-place.place c.name_at.result.now (fun_tree c.fun_at-fun.result.now) c.fun_at-fun.ensures c.name_at.ensures in
    one_within (setting_of c.args.body.now).widths (types_of c.args.body.now) c.loop-place.invariant next c.requires

pub loop-place-preserved : goal.loop-place-preserved
loop-place-preserved c =
    let next = shared_next (setting_of c.args.body.now) c.args.body.now.fun c.loop-place.place c.name_at.result.now (fun_tree c.fun_at-fun.result.now) c.fun_at-fun.ensures c.name_at.ensures in
    one_placed (setting_of c.args.body.now).widths (types_of c.args.body.now) c.loop-place.invariant next c.in_ok-wire.ensures.next c.in_ok-wire.ensures.placed
