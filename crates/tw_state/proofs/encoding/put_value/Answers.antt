use Rattle.std.proofs.Common.{rules, ◌∙◌, ◌<◌, ◌+◌, ap, arith}
use Rattle.tw_types.specs.Values.{value_bits}
use Rattle.tw_types.specs.FromCode.{value_of}
use Rattle.tw_bits.specs.Writing.{written}
use Rattle.tw_state.proofs.Appending.{appends_written}
use Rattle.tw_state.proofs.CellBits.{value_length}
use Rattle.tw_state.proofs.encoding.put_value.Goals as goal

pub encode_into-requires-clause-within : goal.encode_into-requires-clause-within
encode_into-requires-clause-within c =
    let len = value_length c.args.checked.now.resolved.tables.types.widths c.widths-widths.result c.type_of.result c.unwrap-ty.result _ (value_of c.args.val.now) c.widths-widths.ensures c.unwrap-ty.ensures c.type_of.ensures.types c.requires.typed in
    let within = c.requires.within in
    omega (arith, len, within)

pub bit_count-requires : goal.bit_count-requires
bit_count-requires c =
    let len = value_length c.args.checked.now.resolved.tables.types.widths c.widths-widths.result c.type_of.result c.unwrap-ty.result _ (value_of c.args.val.now) c.widths-widths.ensures c.unwrap-ty.ensures c.type_of.ensures.types c.requires.typed in
    let within = c.requires.within in
    let bits = c.len.ensures in
    let fits = c.len.type_inv in
    omega (arith, len, within, bits, fits)

pub overflow_add-result : goal.overflow_add-result
overflow_add-result c =
    let len = value_length c.args.checked.now.resolved.tables.types.widths c.widths-widths.result c.type_of.result c.unwrap-ty.result _ (value_of c.args.val.now) c.widths-widths.ensures c.unwrap-ty.ensures c.type_of.ensures.types c.requires.typed in
    let within = c.requires.within in
    let count = c.bit_count.ensures in
    let bits = c.len.ensures in
    let fits = c.len.type_inv in
    let sum : c.args.at + c.bit_count.result < 18446744073709551616 = omega (arith, len, within, count, bits, fits) in
    search (rules, sum)

pub returns-clause-next : goal.returns-clause-next
returns-clause-next c =
    let len = value_length c.args.checked.now.resolved.tables.types.widths c.widths-widths.result c.type_of.result c.unwrap-ty.result _ (value_of c.args.val.now) c.widths-widths.ensures c.unwrap-ty.ensures c.type_of.ensures.types c.requires.typed in
    let count = c.bit_count.ensures in
    omega (arith, len, count)

pub returns-clause-bits : goal.returns-clause-bits
returns-clause-bits c =
    let widths = c.args.checked.now.resolved.tables.types.widths in
    appends_written c.args.at (value_bits widths (value_of c.args.val.now)) c.args.bits.now c.encode_into.new.bits
    (c.encode_into.ensures.bits ∙ ap (λ w. written c.args.at (value_bits w (value_of c.args.val.now)) c.args.bits.now) c.widths-widths.ensures) c.encode_into.ensures.len c.requires.within
