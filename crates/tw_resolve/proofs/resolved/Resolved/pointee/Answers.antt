use Rattle.std.proofs.Common.{◌∙◌, sym, arith}
use Rattle.tw_resolve.specs.Resolved.{resolved_setting}
use Rattle.tw_resolve.proofs.Pointees.{pointee_is, pointee_past}
use Rattle.tw_resolve.proofs.resolved.Resolved.pointee.Goals as goal

pub returns-then-target-len : goal.returns-then-target-len
returns-then-target-len c = sym c.ty.ensures ∙ pointee_is (resolved_setting c.args.self.now) c.args.self.now.targets c.args.target.0 c.args.self.now.of_targets

pub returns-else-target-len : goal.returns-else-target-len
returns-else-target-len c =
    pointee_past (resolved_setting c.args.self.now) c.args.self.now.targets c.args.target.0 c.args.self.now.of_targets
    (omega (arith, c.if-target-len.false, c.len.ensures.count))
