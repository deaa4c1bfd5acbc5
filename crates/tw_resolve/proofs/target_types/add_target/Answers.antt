use Rattle.tw_types.specs.FromCode.{ty_of}
use Rattle.tw_resolve.proofs.TargetTypes.{added}
use Rattle.tw_resolve.proofs.target_types.add_target.Goals as goal

pub returns : goal.returns
returns c =
    added c.args.targets.now c.intern.new.self c.define.new.self c.args.text.now (ty_of c.args.ty) c.in_ok-id.id.0
    c.requires.new c.in_ok-id.ensures.appended c.in_ok-id.ensures.place c.define.ensures
