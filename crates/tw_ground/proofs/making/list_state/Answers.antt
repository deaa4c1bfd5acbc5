use Rattle.std.proofs.Common.{◌≤◌, sym, subst, arith, length}
use Rattle.tw_types.specs.Types.{block_count}
use Rattle.tw_state.specs.FreeCells.{FormedAt}
use Rattle.tw_state.specs.TypedLists.{IsTypedMemory}
use Rattle.tw_ground.specs.Lists.{list_targets}
use Rattle.tw_ground.proofs.ListStates.{list_typed, list_formed}
use Rattle.tw_ground.proofs.making.list_state.Goals as goal

pub returns-clause-typed : goal.returns-clause-typed
returns-clause-typed c =
    let fits : length c.args.items.now ≤ block_count c.args.widths = (let few = c.if-items-blocks.false in let blocks = c.block_count-blocks.ensures in omega (arith, few, blocks)) in
    subst (IsTypedMemory c.args.widths list_targets) (sym c.in_ok-made_state.ensures.state) (list_typed c.args.widths c.args.items.now c.requires.words fits)

pub returns-clause-formed : goal.returns-clause-formed
returns-clause-formed c =
    let fits : length c.args.items.now ≤ block_count c.args.widths = (let few = c.if-items-blocks.false in let blocks = c.block_count-blocks.ensures in omega (arith, few, blocks)) in
    subst (FormedAt c.args.widths) (sym c.in_ok-made_state.ensures.state) (list_formed c.args.widths c.args.items.now fits)
