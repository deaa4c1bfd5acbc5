use Rattle.std.proofs.Common.{arith}
use Rattle.tw_syntax.specs.Types.{written_tree}
use Rattle.tw_types.specs.FromCode.{ty_of}
use Rattle.tw_resolve.specs.Tables.{setting_in}
use Rattle.tw_resolve.proofs.TargetTypes.{new_text, room, first_next}
use Rattle.tw_resolve.proofs.target_types.target_types.Goals as goal

pub add_target-requires-clause-new : goal.add_target-requires-clause-new
add_target-requires-clause-new c =
    new_text (setting_in c.args.tables.now) c.args.tables.now.targets.table.entries c.loop-number.number c.loop-number.targets
    (written_tree c.target_at.result.1.now) c.target_at.result.0.now c.args.tables.now.targets.keyed c.len-number-end.ensures.unique
    c.loop-number.invariant c.target_at.ensures.written c.target_at.ensures.text

pub add_target-requires-clause-room : goal.add_target-requires-clause-room
add_target-requires-clause-room c =
    let below = c.loop-number-test.true in
    let few = c.args.tables.now.targets.few in
    let len = c.len-number-end.ensures.len in
    room (setting_in c.args.tables.now) (setting_in c.args.tables.now).scope.targets c.loop-number.number 4294967295 c.loop-number.targets c.loop-number.invariant
    (omega (arith, below, few, len))

pub loop-number-preserved : goal.loop-number-preserved
loop-number-preserved c =
    first_next (setting_in c.args.tables.now) (setting_in c.args.tables.now).scope.targets c.loop-number.number c.loop-number.targets c.add_target.new.targets
    (written_tree c.target_at.result.1.now) c.target_at.result.0.now (ty_of c.in_ok-ty.ty)
    c.loop-number.invariant c.target_at.ensures.written c.target_at.ensures.text c.in_ok-ty.ensures c.in_ok-add_target.ensures
