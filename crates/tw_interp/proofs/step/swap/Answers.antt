use Rattle.tw_types.specs.FromCode.{value_of}
use Rattle.tw_types.specs.Values.{UnitValue}
use Rattle.tw_interp.specs.Frames.{store_of}
use Rattle.tw_interp.specs.Machines.{activation_of, names_of, setting_of, state_in}
use Rattle.tw_interp.specs.NumberedTrees.{var_path_tree}
use Rattle.tw_interp.proofs.Following.{swap_undefined, swapped}
use Rattle.tw_interp.proofs.step.swap.Goals as goal

pub returns-in_default-replace_at : goal.returns-in_default-replace_at
returns-in_default-replace_at c = λ is_left is_right.
    let act = c.args.act.now in
    let names = names_of act in
    swap_undefined (setting_of act) (activation_of act) c.args.at (var_path_tree c.args.left.now) (var_path_tree c.args.right.now) (value_of c.in-Some.x) UnitValue
    (state_in act c.args.machine.now) (store_of names c.replace_at.new.self)
    (c.in-Some.ensures.old names is_left) (c.in-Some.ensures.value names is_left) _ _ (c.in_default-replace_at.ensures.old names is_right)

pub returns : goal.returns
returns c = λ is_left is_right.
    let act = c.args.act.now in
    let names = names_of act in
    swapped (setting_of act) (activation_of act) c.args.at (var_path_tree c.args.left.now) (var_path_tree c.args.right.now) (value_of c.in-Some.x) UnitValue
    (state_in act c.args.machine.now) (store_of names c.replace_at.new.self)
    (c.in-Some.ensures.old names is_left) (c.in-Some.ensures.value names is_left) (value_of c.in-Some-replace_at.y) (store_of names c.replace_at-2.new.self) (store_of names c.replace_at-3.new.self)
    (c.in-Some-replace_at.ensures.old names is_right) (c.in-Some-replace_at.ensures.value names is_right) (c.replace_at-3.ensures.value names is_left)
