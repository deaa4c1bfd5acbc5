use Rattle.tw_interp.specs.Machines.{activation_of, names_of, setting_of, state_in}
use Rattle.tw_interp.specs.NumberedTrees.{var_path_tree}
use Rattle.tw_interp.proofs.MemorySwaps.{not_pointed, null_swapped}
use Rattle.tw_interp.proofs.memory_step.swap_memory.Goals as goal

pub returns-in_default : goal.returns-in_default
returns-in_default c = λ is_pointer is_place target_is.
    let act = c.args.act.now in
    not_pointed (setting_of act) (activation_of act) c.args.at (var_path_tree c.args.pointer.now) (var_path_tree c.args.place.now) (state_in act c.args.machine.now) _ _
    (c.in_default.ensures.none (names_of act) is_pointer)

pub returns-then-block-eq0 : goal.returns-then-block-eq0
returns-then-block-eq0 c = λ is_pointer is_place target_is.
    let act = c.args.act.now in
    null_swapped (setting_of act) (activation_of act) c.args.at (var_path_tree c.args.pointer.now) (var_path_tree c.args.place.now) (state_in act c.args.machine.now) c.in-Some.block
    (c.in-Some.ensures.address (names_of act) is_pointer) c.if-block-eq0.true

pub returns : goal.returns
returns c = λ is_pointer is_place target_is. c.swap_block.ensures is_place target_is (c.in-Some.ensures.address (names_of c.args.act.now) is_pointer)
