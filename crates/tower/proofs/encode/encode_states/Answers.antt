use Rattle.std.proofs.Common.{◌≡◌, ◌⊎◌, sym, subst, List, ℕ, Ok, Err, map}
use Rattle.std.specs.List.{AllByRecursion}
use Rattle.tw_io.specs.Devices.{Wrote}
use Rattle.tw_resolve.specs.Resolved.{resolved_setting}
use Rattle.tw_state.specs.declared.state.Side.{Side}
use Rattle.tw_state.specs.declared.state.State.{State}
use Rattle.tw_state.specs.declared.state_fault.StateFault.TheVariants as state_fault
use Rattle.tw_state.specs.FromCode.{listed_of}
use Rattle.tw_state.specs.StateRefusals.{AreStatesIn, IsRefusedIn}
use Rattle.tower.specs.Encodings.{CanEncode}
use Rattle.tower.proofs.Doing.{did_break, did_print}
use Rattle.tower.proofs.Encoding.{can_encode, did_refuse_states, length-zero_bits, same_lines, states_encoded}
use Rattle.tower.proofs.encode.encode_states.Goals as goal

pub returns-in_err-states : goal.returns-in_err-states
returns-in_err-states g c = λ fun there.
    let found = c.args.found.now in
    let setting = resolved_setting found.checked.resolved in
    let refused = subst (λ (s : Side). (c.in_err-states.field-0.0 ≡ state_fault.Memory) ⊎ IsRefusedIn setting found.entry.fun s c.args.lines.now c.in_err-states.field-0.0) c.first_side-side.ensures c.in_err-states.ensures.refused in
    did_refuse_states g.K.Sink.taken g.K.Sink.faults found.priced.layout.wires setting found.entry.fun _ c.args.lines.now fun there c.args.output.now c.in_err-states.field-0.0 c.from_residual.result c.from_residual.ensures.1 refused

pub write_encodings-requires-clause-encodable : goal.write_encodings-requires-clause-encodable
write_encodings-requires-clause-encodable g c =
    let found = c.args.found.now in
    let setting = resolved_setting found.checked.resolved in
    let side = c.first_side-side.result in
    subst (λ (n : ℕ). AllByRecursion (CanEncode n setting found.entry.fun side) (map listed_of c.deref.result.now)) (sym (length-zero_bits c.in_ok-bits.bits found.priced.layout.wires c.in_ok-bits.ensures))
    (subst (λ (items : List State). AllByRecursion (CanEncode found.priced.layout.wires setting found.entry.fun side) (map listed_of items)) (sym c.deref.ensures.value)
    (can_encode found.checked found.entry found.priced c.requires.priced side c.args.lines.now (map listed_of c.in_ok-states.states.items) c.in_ok-states.ensures.read))

pub returns-in_err-write_encodings : goal.returns-in_err-write_encodings
returns-in_err-write_encodings g c = λ fun there.
    let found = c.args.found.now in
    let setting = resolved_setting found.checked.resolved in
    let wires = found.priced.layout.wires in
    let states = c.in_ok-states.states.items in
    let are = subst (λ (s : Side). AreStatesIn setting found.entry.fun s c.args.lines.now (map listed_of states)) c.first_side-side.ensures c.in_ok-states.ensures.read in
    did_break g.K.Sink.taken g.K.Sink.faults c.args.output.now c.write_encodings.new.output _ c.in_err-write_encodings.field-0.0 c.from_residual-in_err-write_encodings.result _ c.from_residual-in_err-write_encodings.ensures.1
    (states_encoded g.K.Sink.taken g.K.Sink.faults wires setting found.entry.fun _ c.args.lines.now fun there (map listed_of states) are)
    (subst (λ text. Wrote g.K.Sink.taken g.K.Sink.faults c.args.output.now c.write_encodings.new.output (Err c.in_err-write_encodings.field-0.0) text)
    (same_lines setting fun (length-zero_bits c.in_ok-bits.bits wires c.in_ok-bits.ensures) c.first_side-side.ensures c.deref.ensures.value) (c.in_err-write_encodings.ensures fun there))

pub returns : goal.returns
returns g c = λ fun there.
    let found = c.args.found.now in
    let setting = resolved_setting found.checked.resolved in
    let wires = found.priced.layout.wires in
    let states = c.in_ok-states.states.items in
    let are = subst (λ (s : Side). AreStatesIn setting found.entry.fun s c.args.lines.now (map listed_of states)) c.first_side-side.ensures c.in_ok-states.ensures.read in
    did_print g.K.Sink.taken g.K.Sink.faults c.args.output.now c.write_encodings.new.output _ tt _
    (states_encoded g.K.Sink.taken g.K.Sink.faults wires setting found.entry.fun _ c.args.lines.now fun there (map listed_of states) are)
    (subst (λ text. Wrote g.K.Sink.taken g.K.Sink.faults c.args.output.now c.write_encodings.new.output (Ok tt) text)
    (same_lines setting fun (length-zero_bits c.in_ok-bits.bits wires c.in_ok-bits.ensures) c.first_side-side.ensures c.deref.ensures.value) (c.in_ok-write_encodings.ensures fun there))
