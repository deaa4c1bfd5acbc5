use Rattle.std.proofs.Common.{◌∙◌, ap, sym, refl, Some, option_and_then}
use Rattle.tw_types.specs.FromCode.{ty_of, value_of}
use Rattle.tw_state.specs.States.{Store, with_value}
use Rattle.tw_interp.specs.Frames.{slots_of, store_by, store_of}
use Rattle.tw_interp.specs.Machines.{names_of, state_in}
use Rattle.tw_interp.proofs.Padding.{filled, no_value}
use Rattle.tw_interp.proofs.Slots.{store_put}
use Rattle.tw_interp.proofs.pad.fill.Goals as goal

pub returns : goal.returns
returns c = λ at name is.
    let act = c.args.act.now in
    let names = names_of act in
    let slots = slots_of c.args.machine.now.frame in
    let old = state_in act c.args.machine.now in
    filled (Some (ty_of c.args.ty.now)) (ty_of c.args.ty.now) at name old (record old { store = store_of names c.set_slot.new.self }) refl
    (sym (no_value c.in_slot.result (λ val. value_of val.now) (sym c.if-is_some.ensures)) ∙ c.in_slot.ensures ∙ ap (option_and_then slots) is)
    (ap (λ (s : Store). record old { store = s })
    (ap (store_by names) c.in_ok-set_slot.ensures ∙ store_put names name c.args.slot is slots _ ∙ ap (with_value old.store name) c.in_ok-zero.ensures))
