use Rattle.std.proofs.Common.{◌∙◌, ap, sym, Some}
use Rattle.tw_types.specs.FromCode.{value_of}
use Rattle.tw_types.specs.Values.{Address}
use Rattle.tw_state.specs.States.{State, Store}
use Rattle.tw_interp.specs.Frames.{store_of}
use Rattle.tw_interp.specs.Machines.{activation_of, names_of, setting_of, state_in}
use Rattle.tw_interp.specs.NumberedTrees.{var_tree}
use Rattle.tw_interp.proofs.Following.{taken_adds}
use Rattle.tw_interp.proofs.Freeing.{free_unheld, free_no_address, free_null, free_null_unmet, free_rest}
use Rattle.tw_interp.proofs.MemorySwaps.{no_address}
use Rattle.tw_interp.proofs.memory_step.free.Goals as goal

pub returns-in_default : goal.returns-in_default
returns-in_default c = λ written is_target to_is.
    free_unheld (setting_of c.args.act.now) (activation_of c.args.act.now) c.args.at (var_tree c.args.target.now) written (state_in c.args.act.now c.args.machine.now) _ _ (c.in_default.ensures.value (names_of c.args.act.now) is_target.0)

pub returns-in_default-held : goal.returns-in_default-held
returns-in_default-held c = λ written is_target to_is.
    free_no_address (setting_of c.args.act.now) (activation_of c.args.act.now) c.args.at (var_tree c.args.target.now) written (state_in c.args.act.now c.args.machine.now) _ _
    (value_of c.in-Some.held) (c.in-Some.ensures.value (names_of c.args.act.now) is_target.0) (no_address c.in-Some.held c.in_default-held.not-Ptr)

pub returns-then-block-ne0 : goal.returns-then-block-ne0
returns-then-block-ne0 c = λ written is_target to_is.
    let old = state_in c.args.act.now c.args.machine.now in
    let bare : State = record old { store = store_of (names_of c.args.act.now) c.take.new.self } in
    let setting = setting_of c.args.act.now in
    let act = activation_of c.args.act.now in
    let target = var_tree c.args.target.now in
    free_rest setting act c.args.at target written old c.in-Ptr.block bare
    (taken_adds setting act target (Address c.in-Ptr.block) old bare (sym (ap (λ held. Some (value_of held)) c.in-Ptr.is) ∙ c.in-Some.ensures.value (names_of c.args.act.now) is_target.0) (ap (λ (s : Store). record old { store = s }) (c.in-Some.ensures.store (names_of c.args.act.now) is_target.0)))
    _ _ c.if-block-ne0.true (c.free_block.ensures written to_is)

pub returns-then-machine-ne0 : goal.returns-then-machine-ne0
returns-then-machine-ne0 c = λ written is_target to_is.
    let old = state_in c.args.act.now c.args.machine.now in
    let bare : State = record old { store = store_of (names_of c.args.act.now) c.take.new.self } in
    let setting = setting_of c.args.act.now in
    let act = activation_of c.args.act.now in
    let target = var_tree c.args.target.now in
    free_null_unmet setting act c.args.at target written old c.in-Ptr.block bare
    (taken_adds setting act target (Address c.in-Ptr.block) old bare (sym (ap (λ held. Some (value_of held)) c.in-Ptr.is) ∙ c.in-Some.ensures.value (names_of c.args.act.now) is_target.0) (ap (λ (s : Store). record old { store = s }) (c.in-Some.ensures.store (names_of c.args.act.now) is_target.0)))
    _ _ c.if-block-ne0.false c.if-machine-ne0.true c.stuck.ensures

pub returns : goal.returns
returns c = λ written is_target to_is.
    let old = state_in c.args.act.now c.args.machine.now in
    let bare : State = record old { store = store_of (names_of c.args.act.now) c.take.new.self } in
    let setting = setting_of c.args.act.now in
    let act = activation_of c.args.act.now in
    let target = var_tree c.args.target.now in
    free_null setting act c.args.at target written old c.in-Ptr.block bare
    (taken_adds setting act target (Address c.in-Ptr.block) old bare (sym (ap (λ held. Some (value_of held)) c.in-Ptr.is) ∙ c.in-Some.ensures.value (names_of c.args.act.now) is_target.0) (ap (λ (s : Store). record old { store = s }) (c.in-Some.ensures.store (names_of c.args.act.now) is_target.0)))
    c.if-block-ne0.false c.if-machine-ne0.false
