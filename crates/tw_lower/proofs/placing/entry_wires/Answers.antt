use Rattle.std.proofs.Common.{◌≡◌, ◌∙◌, ap}
use Rattle.tw_resolve.specs.Resolved.{resolved_setting}
use Rattle.tw_lower.specs.NameWires.{wires_of}
use Rattle.tw_lower.proofs.EntryWires.{entry_wires, frame_same, locals_within, names_within, shared_within, wires_are}
use Rattle.tw_lower.proofs.placing.entry_wires.Goals as goal

pub place_shared-requires : goal.place_shared-requires
place_shared-requires c = shared_within (resolved_setting c.args.checked.now.resolved) c.args.entry c.args.layout.now c.requires.layout c.requires.entry.fun c.requires.entry.at c.args.own c.requires.own

pub place_locals-requires : goal.place_locals-requires
place_locals-requires c = locals_within (resolved_setting c.args.checked.now.resolved) c.args.entry c.args.layout.now c.requires.layout c.requires.entry.fun c.requires.entry.at c.args.own c.requires.own

pub invariant_of-result : goal.invariant_of-result
invariant_of-result c =
    let setting = resolved_setting c.args.checked.now.resolved in
    let layout = c.args.layout.now in
    let fun = c.requires.entry.fun in
    let found = c.requires.entry.at in
    let wires = wires_of c.place_locals.new.names in
    let are = wires_are setting c.args.entry.fun layout fun found (wires_of c.new-names.result) (wires_of c.place_shared.new.names) wires c.new-names.ensures c.in_ok-place_shared.ensures c.in_ok-ifs.ensures.placed in
    record { within = names_within setting c.args.entry layout c.requires.layout fun found c.args.own c.requires.own wires c.in_ok-ifs.ifs (frame_same setting c.args.entry.fun layout fun found wires c.in_ok-ifs.ifs are c.in_ok-ifs.ensures.next) }

pub returns-clause-frame : goal.returns-clause-frame
returns-clause-frame c =
    λ fun found.
    let setting = resolved_setting c.args.checked.now.resolved in
    let layout = c.args.layout.now in
    let wires = wires_of c.place_locals.new.names in
    let are = wires_are setting c.args.entry.fun layout fun found (wires_of c.new-names.result) (wires_of c.place_shared.new.names) wires c.new-names.ensures c.in_ok-place_shared.ensures c.in_ok-ifs.ensures.placed in
    frame_same setting c.args.entry.fun layout fun found wires c.in_ok-ifs.ifs are c.in_ok-ifs.ensures.next
