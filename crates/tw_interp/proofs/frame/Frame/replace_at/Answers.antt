use Rattle.std.proofs.Common.{◌∙◌, ap, sym, option_map, option_and_then}
use Rattle.tw_types.specs.FromCode.{value_of}
use Rattle.tw_state.specs.Parts.{part_of, with_part}
use Rattle.tw_interp.specs.Frames.{slots_of, store_by, store_of, with_found}
use Rattle.tw_interp.specs.NumberedTrees.{var_path_tree}
use Rattle.tw_interp.proofs.Slots.{no_slot, nothing_put, part_put, store_put}
use Rattle.tw_interp.proofs.frame.Frame.replace_at.Goals as goal

pub returns-in-Some-clause-value : goal.returns-in-Some-clause-value
returns-in-Some-clause-value c = λ names is.
    let path = c.args.path.now in
    let slots = slots_of c.args.self.now in
    let store = store_of names c.args.self.now in
    let here = sym c.in-Some.is ∙ is in
    ap (store_by names) c.replace_in_slot.ensures.slots
    ∙ store_put names path.root.name.text.now c.in-Some.slot here slots _
    ∙ ap (λ o. with_found store path.root.name.text.now (option_map (λ whole. with_part path.steps.now whole (value_of c.args.val)) (option_and_then slots o))) here
    ∙ part_put store (var_path_tree path) (value_of c.args.val)

pub returns-in-Some-clause-old : goal.returns-in-Some-clause-old
returns-in-Some-clause-old c = λ names is.
    c.replace_in_slot.ensures.old ∙ ap (λ o. option_and_then (part_of c.args.path.now.steps.now) (option_and_then (slots_of c.args.self.now) o)) (sym c.in-Some.is ∙ is)

pub returns-in-None-clause-value : goal.returns-in-None-clause-value
returns-in-None-clause-value c = λ names is.
    let path = c.args.path.now in
    nothing_put (store_of names c.args.self.now) (var_path_tree path) (value_of c.args.val) (no_slot names (slots_of c.args.self.now) path.root.name.text.now (sym c.in-None.is ∙ is))

pub returns-in-None-clause-old : goal.returns-in-None-clause-old
returns-in-None-clause-old c = λ names is.
    ap (option_and_then (part_of c.args.path.now.steps.now)) (no_slot names (slots_of c.args.self.now) c.args.path.now.root.name.text.now (sym c.in-None.is ∙ is))
