use Rattle.tw_state.proofs.EntryNames.{param_at, returned_at}
use Rattle.tw_state.proofs.names.name_at.Goals as goal

pub returns-then-place-params : goal.returns-then-place-params
returns-then-place-params c = param_at c.args.fun.now c.args.place _ c.if-place-params.true

pub returns-else-place-params : goal.returns-else-place-params
returns-else-place-params c = returned_at c.args.fun.now c.args.place c.if-place-params.false c.requires
