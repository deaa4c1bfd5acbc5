use Rattle.tw_types.proofs.Tables.{ty_at-values}
use Rattle.tw_types.proofs.targets.Targets.ty.Goals as goal

pub returns : goal.returns
returns c = rw (← c.self.view_is) (ty_at-values c.self.inside.table.entries c.args.id.0 c.index.result.now c.index.ensures)
