use Rattle.std.proofs.Common.{◌∙◌, ap}
use Rattle.tw_types.specs.FromCode.{ty_of, targets_of}
use Rattle.tw_types.specs.Table.{defined}
use Rattle.tw_types.proofs.Tables.{targets_of-defined, length-defined, distinct-defined}
use Rattle.tw_types.proofs.targets.Targets.define.Goals as goal

pub invariant_of-self : goal.invariant_of-self
invariant_of-self c =
    let entries = c.self.inside.table.entries in
    rw (targets_of-defined entries c.args.id.0 c.args.ty, length-defined c.args.id.0 (ty_of c.args.ty) (targets_of entries))
    (c.self.invariant.0, distinct-defined c.args.id.0 (ty_of c.args.ty) (targets_of entries) c.self.invariant.1)

pub returns : goal.returns
returns c =
    targets_of-defined c.self.inside.table.entries c.args.id.0 c.args.ty ∙ ap (defined c.args.id.0 (ty_of c.args.ty)) c.self.view_is
