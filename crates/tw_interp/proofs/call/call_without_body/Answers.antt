use Rattle.std.proofs.Common.{ap, refl}
use Rattle.std.proofs.lemmas.Bool.{false≢true}
use Rattle.tw_types.specs.FromCode.{ty_of, value_of}
use Rattle.tw_state.specs.States.{State, Store}
use Rattle.tw_interp.specs.Frames.{store_of}
use Rattle.tw_interp.specs.Machines.{activation_of, names_of, setting_of, state_in}
use Rattle.tw_interp.specs.NumberedTrees.{var_tree}
use Rattle.tw_interp.proofs.Calling.{zero_unheld, zero_differs, zero_removed}
use Rattle.tw_interp.proofs.Following.{taken_adds}
use Rattle.tw_interp.proofs.call.call_without_body.Goals as goal

pub returns-in_default : goal.returns-in_default
returns-in_default c = λ is_target.
    let act = c.args.act.now in
    zero_unheld (setting_of act) c.args.at c.args.assigns (var_tree c.args.target.now) c.args.number (state_in act c.args.machine.now) c.if-assigns.false _ _ (c.in_default.ensures.value (names_of act) is_target.0)

pub returns-then-not-same : goal.returns-then-not-same
returns-then-not-same c = λ is_target.
    let act = c.args.act.now in
    let names = names_of act in
    let old = state_in act c.args.machine.now in
    let bare : State = record old { store = store_of names c.take.new.self } in
    zero_differs (setting_of act) c.args.at c.args.assigns (var_tree c.args.target.now) c.args.number old c.if-assigns.false
    (value_of c.in-Some.held) (value_of c.in_ok-zero.zero) (ty_of c.result.result) bare c.result.ensures c.in_ok-zero.ensures
    (taken_adds (setting_of act) (activation_of act) (var_tree c.args.target.now) (value_of c.in-Some.held) old bare (c.in-Some.ensures.value names is_target.0)
    (ap (λ (s : Store). record old { store = s }) (c.in-Some.ensures.store names is_target.0)))
    _ _ (λ equal. false≢true (c.if-not-same.ensures.1 equal)) c.stuck.ensures

pub returns : goal.returns
returns c = λ is_target.
    let act = c.args.act.now in
    let names = names_of act in
    let old = state_in act c.args.machine.now in
    let bare : State = record old { store = store_of names c.take.new.self } in
    zero_removed (setting_of act) c.args.at c.args.assigns (var_tree c.args.target.now) c.args.number old c.if-assigns.false
    (value_of c.in-Some.held) (value_of c.in_ok-zero.zero) (ty_of c.result.result) bare c.result.ensures c.in_ok-zero.ensures
    (taken_adds (setting_of act) (activation_of act) (var_tree c.args.target.now) (value_of c.in-Some.held) old bare (c.in-Some.ensures.value names is_target.0)
    (ap (λ (s : Store). record old { store = s }) (c.in-Some.ensures.store names is_target.0)))
    (c.if-not-same.ensures.0 refl)
