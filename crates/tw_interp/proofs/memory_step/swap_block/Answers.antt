use Rattle.std.proofs.Common.{◌∙◌, ap, ap₂, sym, List, option_map}
use Rattle.tw_types.specs.FromCode.{value_of}
use Rattle.tw_types.specs.declared.types.TargetId.{TargetId}
use Rattle.tw_state.specs.States.{Cell, Live, Store, with_cell}
use Rattle.tw_interp.specs.Machines.{activation_of, names_of, setting_of, state_in}
use Rattle.tw_interp.specs.NumberedTrees.{var_path_tree}
use Rattle.tw_interp.proofs.MemorySwaps.{memory_swapped, not_live_swapped, not_placed, pointer_is, without_target}
use Rattle.tw_interp.proofs.memory_step.swap_block.Goals as goal

pub returns-in_default : goal.returns-in_default
returns-in_default c = λ is_place target_is points.
    let act = c.args.act.now in
    without_target (setting_of act) (activation_of act) c.args.at (var_path_tree c.args.pointer.now) (var_path_tree c.args.place.now) (state_in act c.args.machine.now) c.args.block c.requires points _ _
    (sym (ap (option_map (λ (id : TargetId). id.0)) c.in_default.is) ∙ target_is)

pub returns-in_default-free_cell : goal.returns-in_default-free_cell
returns-in_default-free_cell c = λ is_place target_is points.
    let act = c.args.act.now in
    not_live_swapped (setting_of act) (activation_of act) c.args.at (var_path_tree c.args.pointer.now) (var_path_tree c.args.place.now) (state_in act c.args.machine.now) c.args.block c.requires points
    c.in-Some.target.0 (pointer_is _ c.in-Some.target.0 (sym (ap (option_map (λ (id : TargetId). id.0)) c.in-Some.is) ∙ target_is))
    _ _ c.in_default-free_cell.ensures.not_live c.stuck.ensures

pub returns-in_default-replace_at : goal.returns-in_default-replace_at
returns-in_default-replace_at c = λ is_place target_is points.
    let act = c.args.act.now in
    not_placed (setting_of act) (activation_of act) c.args.at (var_path_tree c.args.pointer.now) (var_path_tree c.args.place.now) (state_in act c.args.machine.now) c.args.block c.requires points
    c.in-Some.target.0 (pointer_is _ c.in-Some.target.0 (sym (ap (option_map (λ (id : TargetId). id.0)) c.in-Some.is) ∙ target_is))
    (value_of c.in-Some-free_cell.content) c.in-Some-free_cell.ensures.live _ _ (c.in_default-replace_at.ensures.old (names_of act) is_place)

pub returns : goal.returns
returns c = λ is_place target_is points.
    let act = c.args.act.now in
    let old = state_in act c.args.machine.now in
    let target = c.in-Some.target.0 in
    memory_swapped (setting_of act) (activation_of act) c.args.at (var_path_tree c.args.pointer.now) (var_path_tree c.args.place.now) old c.args.block c.requires points
    target (pointer_is _ target (sym (ap (option_map (λ (id : TargetId). id.0)) c.in-Some.is) ∙ target_is))
    (value_of c.in-Some-free_cell.content) c.in-Some-free_cell.ensures.live
    (value_of c.in-Some-replace_at.val) (sym (c.in-Some-replace_at.ensures.old (names_of act) is_place))
    (state_in act (record { free = c.args.machine.now.free; cells = c.replace_cell.new.cells; frame = c.replace_at.new.self }))
    (ap₂ (λ (cells : List Cell) (store : Store). record old { cells = cells; store = store })
    (c.replace_cell.ensures.new ∙ ap (λ (cells : List Cell). with_cell cells c.args.block (Live target (value_of c.in-Some-replace_at.val))) c.in-Some-free_cell.ensures.free)
    (c.in-Some-replace_at.ensures.value (names_of act) is_place))
