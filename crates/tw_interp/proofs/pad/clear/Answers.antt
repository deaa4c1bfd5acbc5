use Rattle.std.proofs.Common.{◌∙◌, ap, refl, None, Some, option_and_then}
use Rattle.tw_types.specs.FromCode.{ty_of, value_of}
use Rattle.tw_state.specs.States.{Store}
use Rattle.tw_interp.specs.Frames.{slots_of, store_by, store_of}
use Rattle.tw_interp.specs.Machines.{names_of, state_in}
use Rattle.tw_interp.proofs.Padding.{stays_clear, cleared}
use Rattle.tw_interp.proofs.Slots.{store_put}
use Rattle.tw_interp.proofs.pad.clear.Goals as goal

pub returns-in_default : goal.returns-in_default
returns-in_default c = λ name is.
    let act = c.args.act.now in
    let names = names_of act in
    let slots = slots_of c.args.machine.now.frame in
    let old = state_in act c.args.machine.now in
    stays_clear (Some (ty_of c.args.ty.now)) c.args.at name old (record old { store = store_of names c.take_slot.new.self }) (c.in_default.ensures.value ∙ ap (option_and_then slots) is)
    (ap (λ (s : Store). record old { store = s }) (ap (store_by names) c.in_default.ensures.slots ∙ store_put names name c.args.slot is slots None))

pub returns : goal.returns
returns c = λ name is.
    let act = c.args.act.now in
    let names = names_of act in
    let slots = slots_of c.args.machine.now.frame in
    let old = state_in act c.args.machine.now in
    cleared (Some (ty_of c.args.ty.now)) (ty_of c.args.ty.now) c.args.at name (value_of c.in-Some.val) old (record old { store = store_of names c.take_slot.new.self }) refl
    (c.in-Some.ensures.value ∙ ap (option_and_then slots) is) (c.if-not-same.ensures.0 refl ∙ c.in_ok-zero.ensures)
    (ap (λ (s : Store). record old { store = s }) (ap (store_by names) c.in-Some.ensures.slots ∙ store_put names name c.args.slot is slots None))
