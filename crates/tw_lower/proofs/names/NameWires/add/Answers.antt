use Rattle.std.proofs.Common.{sym}
use Rattle.tw_lower.specs.NameWires.{wires_of}
use Rattle.tw_lower.proofs.NamedWires.{wire_inserted, wire_kept}
use Rattle.tw_lower.proofs.names.NameWires.add.Goals as goal

pub returns-then-contains_key : goal.returns-then-contains_key
returns-then-contains_key c = wire_kept (wires_of c.args.self.now) c.args.name.now c.args.wire (sym c.if-contains_key.ensures)

pub returns : goal.returns
returns c =
    wire_inserted (wires_of c.args.self.now) _ c.args.name.now c.args.wire (sym c.if-contains_key.ensures)
    (λ other. c.in_ok-insert.ensures.updates.0 (record { ref_ptr = (0, 0); now = other }))
