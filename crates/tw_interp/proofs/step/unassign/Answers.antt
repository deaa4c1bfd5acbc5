use Rattle.std.proofs.Common.{ap, refl}
use Rattle.std.proofs.lemmas.Bool.{false≢true}
use Rattle.tw_types.specs.FromCode.{value_of}
use Rattle.tw_state.specs.States.{State, Store}
use Rattle.tw_interp.specs.Frames.{store_of}
use Rattle.tw_interp.specs.Machines.{activation_of, names_of, setting_of, state_in}
use Rattle.tw_interp.specs.NumberedTrees.{formula_tree, var_tree}
use Rattle.tw_interp.proofs.Following.{taken_adds, unlet_unheld, unlet_undefined, unlet_differs, unlet_equal}
use Rattle.tw_interp.proofs.Values.{found_as}
use Rattle.tw_interp.proofs.step.unassign.Goals as goal

pub returns-in_default : goal.returns-in_default
returns-in_default c = λ is_target is_formula.
    let act = c.args.act.now in
    unlet_unheld (setting_of act) (activation_of act) c.args.at (var_tree c.args.target.now) (formula_tree c.args.formula.now) (state_in act c.args.machine.now) _ _
    (c.in_default.ensures.value (names_of act) is_target.0)

pub returns-in_default-2 : goal.returns-in_default-2
returns-in_default-2 c = λ is_target is_formula.
    let act = c.args.act.now in
    let names = names_of act in
    let old = state_in act c.args.machine.now in
    let target = var_tree c.args.target.now in
    let held = value_of c.in-Some.held in
    let bare : State = record old { store = store_of names c.take.new.self } in
    unlet_undefined (setting_of act) (activation_of act) c.args.at target (formula_tree c.args.formula.now) held old bare _ _ c.in_ok-val.field-0
    (taken_adds (setting_of act) (activation_of act) target held old bare (c.in-Some.ensures.value names is_target.0) (ap (λ (s : Store). record old { store = s }) (c.in-Some.ensures.store names is_target.0)))
    c.in_default-2.is (c.in_ok-val.ensures names is_formula)

pub returns-then-not-same : goal.returns-then-not-same
returns-then-not-same c = λ is_target is_formula.
    let act = c.args.act.now in
    let names = names_of act in
    let old = state_in act c.args.machine.now in
    let target = var_tree c.args.target.now in
    let held = value_of c.in-Some.held in
    let bare : State = record old { store = store_of names c.take.new.self } in
    unlet_differs (setting_of act) (activation_of act) c.args.at target (formula_tree c.args.formula.now) held (value_of c.in-Some-2.val) old bare
    (taken_adds (setting_of act) (activation_of act) target held old bare (c.in-Some.ensures.value names is_target.0) (ap (λ (s : Store). record old { store = s }) (c.in-Some.ensures.store names is_target.0)))
    (found_as c.in_ok-val.field-0 c.in-Some-2.val c.in-Some-2.is (c.in_ok-val.ensures names is_formula)) _ _ (λ equal. false≢true (c.if-not-same.ensures.1 equal)) c.stuck.ensures

pub returns : goal.returns
returns c = λ is_target is_formula.
    let act = c.args.act.now in
    let names = names_of act in
    let old = state_in act c.args.machine.now in
    let target = var_tree c.args.target.now in
    let held = value_of c.in-Some.held in
    let bare : State = record old { store = store_of names c.take.new.self } in
    unlet_equal (setting_of act) (activation_of act) c.args.at target (formula_tree c.args.formula.now) held (value_of c.in-Some-2.val) old bare
    (taken_adds (setting_of act) (activation_of act) target held old bare (c.in-Some.ensures.value names is_target.0) (ap (λ (s : Store). record old { store = s }) (c.in-Some.ensures.store names is_target.0)))
    (found_as c.in_ok-val.field-0 c.in-Some-2.val c.in-Some-2.is (c.in_ok-val.ensures names is_formula)) (c.if-not-same.ensures.0 refl)
