use Rattle.std.proofs.Common.{◌∙◌, ◌+◌, ap, subst, arith, drop, List, ℕ, slice_get}
use Rattle.tw_check.specs.Names.{Names}
use Rattle.tw_state.specs.Results.{directed}
use Rattle.tw_state.specs.Steps.{live_names}
use Rattle.tw_interp.specs.Following.{PadsAll}
use Rattle.tw_interp.specs.Frames.{changed_slots, names_at}
use Rattle.tw_interp.specs.Machines.{activation_of, names_of, setting_of, state_in}
use Rattle.tw_interp.specs.NumberedTrees.{steps_tree}
use Rattle.tw_interp.proofs.Ahead.{ahead_next, ahead_none}
use Rattle.tw_interp.proofs.Looping.{err_is}
use Rattle.tw_interp.proofs.Padding.{Pending, all_padded, decided, live_directed, none_padded, slot_padded, slot_stopped}
use Rattle.tw_interp.proofs.Ready.{names_different}
use Rattle.tw_interp.proofs.pad.pad.Goals as goal

pub loop-place-init : goal.loop-place-init
loop-place-init c = λ are.
    let act = c.args.act.now in
    let names = names_of act in
    let steps = steps_tree c.args.steps.now in
    none_padded (activation_of act).types (directed c.args.forward steps) c.args.at (state_in act c.args.machine.now) names c.note_changes.new.changes
    (live_directed names c.args.forward steps c.new-changes.result c.note_changes.new.changes (c.new-changes.ensures names) (λ live. c.in_ok-note_changes.ensures (setting_of act) act.fun live are))

pub returns-in_err-pad_slot : goal.returns-in_err-pad_slot
returns-in_err-pad_slot c = λ are.
    let act = c.args.act.now in
    let names = names_of act in
    let steps = steps_tree c.args.steps.now in
    let s = directed c.args.forward steps in
    let types = (activation_of act).types in
    let old = state_in act c.args.machine.now in
    let now = state_in act c.loop-place.machine in
    let changes = c.note_changes.new.changes in
    let slots = changed_slots changes in
    let place = c.loop-place.place in
    let change = c.at-slot.result in
    let live = live_directed names c.args.forward steps c.new-changes.result changes (c.new-changes.ensures names) (λ live. c.in_ok-note_changes.ensures (setting_of act) act.fun live are) in
    subst (λ r. PadsAll types s c.args.at old (state_in act c.pad_slot.new.machine) r) (err_is c.from_residual-in_err-pad_slot.result c.in_err-pad_slot.field-0.0 c.from_residual-in_err-pad_slot.ensures.1)
    (slot_stopped types s c.args.at old now (slice_get names change.0) (names_at names (drop (place + 1) slots)) change.1
    (subst (λ (ahead : List ℕ). Pending types s c.args.at old now (names_at names ahead)) (ahead_next slots place change.0 c.at-slot.ensures.slot) (c.loop-place.invariant are))
    (λ name there.
    decided names changes (live_names old.store) change.0 change.1 name (names_different act) there c.at-slot.ensures.change ∙ ap (λ (l : Names). l name) (live (live_names old.store)))
    (state_in act c.pad_slot.new.machine) c.in_err-pad_slot.field-0.0 c.in_err-pad_slot.ensures)

pub loop-place-preserved : goal.loop-place-preserved
loop-place-preserved c = λ are.
    let act = c.args.act.now in
    let names = names_of act in
    let steps = steps_tree c.args.steps.now in
    let s = directed c.args.forward steps in
    let types = (activation_of act).types in
    let old = state_in act c.args.machine.now in
    let now = state_in act c.loop-place.machine in
    let changes = c.note_changes.new.changes in
    let slots = changed_slots changes in
    let place = c.loop-place.place in
    let change = c.at-slot.result in
    let live = live_directed names c.args.forward steps c.new-changes.result changes (c.new-changes.ensures names) (λ live. c.in_ok-note_changes.ensures (setting_of act) act.fun live are) in
    slot_padded types s c.args.at old now (slice_get names change.0) (names_at names (drop (place + 1) slots)) change.1
    (subst (λ (ahead : List ℕ). Pending types s c.args.at old now (names_at names ahead)) (ahead_next slots place change.0 c.at-slot.ensures.slot) (c.loop-place.invariant are))
    (λ name there.
    decided names changes (live_names old.store) change.0 change.1 name (names_different act) there c.at-slot.ensures.change ∙ ap (λ (l : Names). l name) (live (live_names old.store)))
    (state_in act c.pad_slot.new.machine) c.in_ok-pad_slot.ensures

pub returns : goal.returns
returns c = λ are.
    let act = c.args.act.now in
    let names = names_of act in
    let s = directed c.args.forward (steps_tree c.args.steps.now) in
    let types = (activation_of act).types in
    let old = state_in act c.args.machine.now in
    let now = state_in act c.loop-place.machine in
    all_padded types s c.args.at old now
    (subst (λ (ahead : List ℕ). Pending types s c.args.at old now (names_at names ahead))
    (ahead_none (changed_slots c.note_changes.new.changes) c.loop-place.place (omega (arith, c.loop-place-test.false, c.len-place-end.ensures))) (c.loop-place.invariant are))
