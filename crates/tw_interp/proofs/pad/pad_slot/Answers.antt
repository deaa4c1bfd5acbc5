use Rattle.std.proofs.Common.{true, false}
use Rattle.tw_types.specs.FromCode.{ty_of}
use Rattle.tw_resolve.specs.Variables.{variables_in}
use Rattle.tw_interp.specs.Machines.{names_of, setting_of, state_in}
use Rattle.tw_interp.proofs.Ready.{named_variable, names_different, pads_slot}
use Rattle.tw_interp.proofs.Slots.{number_of_name}
use Rattle.tw_interp.proofs.pad.pad_slot.Goals as goal

pub returns-then-is_live : goal.returns-then-is_live
returns-then-is_live c =
    let act = c.args.act.now in
    let variables = variables_in c.variables-variables.result.now.table.entries in
    let are = c.variables-variables.ensures.types in
    let slot = c.args.slot in
    let name = c.at.result.0.now in
    let ty = ty_of c.at.result.1 in
    pads_slot act variables are slot name ty c.at.ensures c.args.at c.args.is_live (state_in act c.args.machine.now) (state_in act c.fill.new.machine) c.fill.result true c.if-is_live.true
    (c.fill.ensures c.args.at name (number_of_name (names_of act) name slot (names_different act) (named_variable (setting_of act) act.fun variables are slot name ty c.at.ensures)))

pub returns-else-is_live : goal.returns-else-is_live
returns-else-is_live c =
    let act = c.args.act.now in
    let variables = variables_in c.variables-variables.result.now.table.entries in
    let are = c.variables-variables.ensures.types in
    let slot = c.args.slot in
    let name = c.at.result.0.now in
    let ty = ty_of c.at.result.1 in
    pads_slot act variables are slot name ty c.at.ensures c.args.at c.args.is_live (state_in act c.args.machine.now) (state_in act c.clear.new.machine) c.clear.result false c.if-is_live.false
    (c.clear.ensures name (number_of_name (names_of act) name slot (names_different act) (named_variable (setting_of act) act.fun variables are slot name ty c.at.ensures)))
