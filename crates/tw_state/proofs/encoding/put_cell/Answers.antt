use Rattle.std.proofs.Common.{subst, sym, arith}
use Rattle.tw_types.specs.FromCode.{ty_of, value_of}
use Rattle.tw_types.proofs.Lengths.{addr-le-block_size}
use Rattle.tw_state.specs.Encoding.{cell_bits}
use Rattle.tw_state.specs.EntryEncoding.{Appends}
use Rattle.tw_state.specs.FromCode.{cell_of}
use Rattle.tw_state.specs.TypedLists.{IsCell}
use Rattle.tw_state.proofs.CellBits.{target_known, free_appended, live_appended}
use Rattle.tw_state.proofs.Sizes.{size-le-block_size}
use Rattle.tw_state.proofs.encoding.put_cell.Goals as goal

pub encode_into-requires-clause-within : goal.encode_into-requires-clause-within
encode_into-requires-clause-within c =
    let room = addr-le-block_size c.args.widths c.args.targets.now in
    let whole = c.requires.within in
    omega (arith, room, whole)

pub ty-requires : goal.ty-requires
ty-requires c =
    let typed = subst (λ cell. IsCell c.args.widths c.args.targets.now (cell_of cell)) c.in-Live.is c.requires.typed in
    record { known = target_known c.args.targets.now c.in-Live.target.0 typed.0 typed.1 }

pub encode_into-requires-in-Live-clause-within : goal.encode_into-requires-in-Live-clause-within
encode_into-requires-in-Live-clause-within c =
    let room = size-le-block_size c.args.widths c.args.targets.now c.in-Live.target.0 (ty_of c.ty.result) c.ty.ensures in
    let whole = c.requires.within in
    omega (arith, room, whole)

pub returns-in-Free : goal.returns-in-Free
returns-in-Free c =
    let typed = subst (λ cell. IsCell c.args.widths c.args.targets.now (cell_of cell)) c.in-Free.is c.requires.typed in
    subst (λ cell. Appends c.args.at (cell_bits c.args.widths c.args.targets.now (cell_of cell)) c.args.bits.now c.encode_into.new.bits) (sym c.in-Free.is)
    (free_appended c.args.widths c.args.targets.now c.args.at c.args.bits.now c.encode_into.new.bits c.requires.within c.in-Free.next typed c.encode_into.ensures.bits c.encode_into.ensures.len)

pub returns-in-Live : goal.returns-in-Live
returns-in-Live c =
    let typed = subst (λ cell. IsCell c.args.widths c.args.targets.now (cell_of cell)) c.in-Live.is c.requires.typed in
    subst (λ cell. Appends c.args.at (cell_bits c.args.widths c.args.targets.now (cell_of cell)) c.args.bits.now c.encode_into-in-Live.new.bits) (sym c.in-Live.is)
    (live_appended c.args.widths c.args.targets.now c.args.at c.args.bits.now c.encode_into-in-Live.new.bits c.requires.within c.in-Live.target.0 (value_of c.in-Live.val) typed.0 typed.1 typed.2
    c.encode_into-in-Live.ensures.bits c.encode_into-in-Live.ensures.len)
