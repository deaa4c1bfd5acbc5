use Rattle.std.proofs.Common.{ap}
use Rattle.tw_types.specs.FromCode.{value_of}
use Rattle.tw_state.specs.States.{Store}
use Rattle.tw_interp.specs.Frames.{store_of}
use Rattle.tw_interp.specs.Machines.{activation_of, names_of, setting_of, state_in}
use Rattle.tw_interp.specs.NumberedTrees.{formula_tree, var_tree}
use Rattle.tw_interp.proofs.Following.{let_assigned, let_undefined}
use Rattle.tw_interp.proofs.Values.{found_as}
use Rattle.tw_interp.proofs.step.assign.Goals as goal

pub returns-in_default : goal.returns-in_default
returns-in_default c = λ is_target is_formula.
    let act = c.args.act.now in
    let old = state_in act c.args.machine.now in
    let_undefined (setting_of act) (activation_of act) c.args.at (var_tree c.args.target.now) (formula_tree c.args.formula.now) old old _ c.in_ok-val.field-0 c.in_default.is
    (c.in_ok-val.ensures (names_of act) is_formula)

pub returns : goal.returns
returns c = λ is_target is_formula.
    let act = c.args.act.now in
    let names = names_of act in
    let old = state_in act c.args.machine.now in
    let_assigned (setting_of act) (activation_of act) c.args.at (var_tree c.args.target.now) (formula_tree c.args.formula.now) old (record old { store = store_of names c.set.new.self }) (value_of c.in-Some.val)
    (found_as c.in_ok-val.field-0 c.in-Some.val c.in-Some.is (c.in_ok-val.ensures names is_formula))
    (ap (λ (s : Store). record old { store = s }) (c.in_ok-set.ensures names is_target))
