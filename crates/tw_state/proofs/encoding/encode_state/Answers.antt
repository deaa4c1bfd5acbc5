use Rattle.std.proofs.Common.{◌≡◌, ◌∙◌, ◌+◌, ◌*◌, sym, ap, ap₂, subst, subst₂, arith, length, map, flat_map}
use Rattle.std.specs.List.{AllByRecursion}
use Rattle.std.proofs.lemmas.List.{length-map}
use Rattle.tw_syntax.specs.Programs.{fun_tree}
use Rattle.tw_bits.specs.Numbers.{number_bits}
use Rattle.tw_bits.specs.Writing.{written}
use Rattle.tw_bits.proofs.Laws.{length-number_bits}
use Rattle.tw_types.specs.Types.{Widths, block_size}
use Rattle.tw_types.specs.FromCode.{value_of}
use Rattle.tw_types.specs.Values.{Address, value_bits}
use Rattle.tw_resolve.specs.Resolved.{resolved_setting}
use Rattle.tw_state.specs.Encoding.{cell_bits}
use Rattle.tw_state.specs.EntryEncoding.{Appends}
use Rattle.tw_state.specs.FromCode.{cell_of, listed_of}
use Rattle.tw_state.specs.Listed.{HaveTypes}
use Rattle.tw_state.specs.Steps.{fun_types}
use Rattle.tw_state.specs.TypedLists.{IsCell}
use Rattle.tw_state.proofs.Appending.{appends_written}
use Rattle.tw_state.proofs.CellBits.{some_blocks}
use Rattle.tw_state.proofs.EntryEncodings.{targets_are, parts_encoded}
use Rattle.tw_state.proofs.EntryNames.{names_taken}
use Rattle.tw_state.proofs.TypedStates.{entry_counted, entry_memory, entry_values}
use Rattle.tw_state.proofs.encoding.encode_state.Goals as goal

pub put_cells-values-requires-clause-typed : goal.put_cells-values-requires-clause-typed
put_cells-values-requires-clause-typed c =
    let targets = c.targets.result.now in
    let memory = entry_memory c.args.checked.now c.args.entry.fun c.args.side (listed_of c.args.state.now) (fun_tree c.fun_at-fun.result.now) c.fun_at-fun.ensures targets c.targets.ensures c.requires.typed in
    subst₂ (λ w cells. AllByRecursion (IsCell w targets) (map cell_of cells)) (sym c.widths-widths.ensures) (sym c.deref.ensures.value) memory.each_cell

pub put_cells-values-requires-clause-some : goal.put_cells-values-requires-clause-some
put_cells-values-requires-clause-some c =
    let state = c.args.state.now in
    let memory = entry_memory c.args.checked.now c.args.entry.fun c.args.side (listed_of state) (fun_tree c.fun_at-fun.result.now) c.fun_at-fun.ensures c.targets.result.now c.targets.ensures c.requires.typed in
    let count : length c.deref.result.now ≡ length (map cell_of state.cells.items) = ap length c.deref.ensures.value ∙ sym (length-map state.cells.items cell_of) in
    let all = memory.all_blocks in
    let view = ap (λ (w : Widths). w.addr) c.widths.view_is in
    let own = ap (λ (w : Widths). w.addr) c.widths-widths.ensures in
    let from = c.widths.invariant.addr_from in
    let some = some_blocks (resolved_setting c.args.checked.now.resolved).widths (omega (arith, view, own, from)) in
    omega (arith, count, all, some)

pub put_cells-values-requires-clause-within : goal.put_cells-values-requires-clause-within
put_cells-values-requires-clause-within c =
    let setting = resolved_setting c.args.checked.now.resolved in
    let state = c.args.state.now in
    let targets = c.targets.result.now in
    let count : length c.deref.result.now ≡ length (map cell_of state.cells.items) = ap length c.deref.ensures.value ∙ sym (length-map state.cells.items cell_of) in
    let sizes = ap₂ block_size c.widths-widths.ensures (targets_are setting targets c.targets.ensures) in
    let product = ap₂ (λ m n. m * n) count sizes in
    let first = c.bit_count-cells.ensures ∙ ap (λ w. w.addr) c.widths-widths.ensures in
    let room = c.requires.room in
    let len = c.encode_into.ensures.len in
    omega (arith, product, first, room, len)

pub put_values-requires-clause-typed : goal.put_values-requires-clause-typed
put_values-requires-clause-typed c =
    let setting = resolved_setting c.args.checked.now.resolved in
    let state = c.args.state.now in
    let fun = fun_tree c.fun_at-fun.result.now in
    let counted = entry_counted c.args.checked.now c.args.entry.fun c.args.side (listed_of state) fun c.fun_at-fun.ensures c.requires.typed in
    let count = ap length c.deref-2.ensures.value ∙ sym (length-map state.store.items value_of) ∙ counted in
    subst₂ (λ names values. HaveTypes setting.widths (fun_types setting fun) names (map value_of values)) (sym (names_taken c.args.side fun (length c.deref-2.result.now) count)) (sym c.deref-2.ensures.value)
    (entry_values c.args.checked.now c.args.entry.fun c.args.side (listed_of state) fun c.fun_at-fun.ensures c.targets.result.now c.targets.ensures c.requires.typed)

pub put_values-requires-clause-within : goal.put_values-requires-clause-within
put_values-requires-clause-within c =
    let setting = resolved_setting c.args.checked.now.resolved in
    let state = c.args.state.now in
    let targets = c.targets.result.now in
    let count : length c.deref.result.now ≡ length (map cell_of state.cells.items) = ap length c.deref.ensures.value ∙ sym (length-map state.cells.items cell_of) in
    let sizes = ap₂ block_size c.widths-widths.ensures (targets_are setting targets c.targets.ensures) in
    let product = ap₂ (λ m n. m * n) count sizes in
    let first = c.bit_count-cells.ensures ∙ ap (λ w. w.addr) c.widths-widths.ensures in
    let values = ap (λ vs. length (flat_map (value_bits setting.widths) (map value_of vs))) c.deref-2.ensures.value in
    let room = c.requires.room in
    let next = c.put_cells-values.ensures.next in
    let len = c.encode_into.ensures.len in
    let many = c.put_cells-values.ensures.bits.as_many in
    omega (arith, product, first, room, len, many, next, values)

pub returns-clause-bits : goal.returns-clause-bits
returns-clause-bits c =
    let checked = c.args.checked.now in
    let setting = resolved_setting checked.resolved in
    let state = c.args.state.now in
    let fun = fun_tree c.fun_at-fun.result.now in
    let targets = c.targets.result.now in
    let none = c.args.bits.now in
    let first = c.encode_into.new.bits in
    let second = c.put_cells-values.new.bits in
    let counted = entry_counted checked c.args.entry.fun c.args.side (listed_of state) fun c.fun_at-fun.ensures c.requires.typed in
    let start = c.bit_count-cells.ensures ∙ ap (λ w. w.addr) c.widths-widths.ensures in
    parts_encoded checked c.args.entry.fun c.args.side fun (listed_of state) targets c.put_cells-values.result none first second c.put_values.new.bits c.fun_at-fun.ensures counted c.targets.ensures c.requires.zeros
    (appends_written 0 (number_bits setting.widths.addr state.free) none first (c.encode_into.ensures.bits ∙ ap (λ w. written 0 (value_bits w (Address state.free)) none) c.widths-widths.ensures) c.encode_into.ensures.len
    (let len = length-number_bits setting.widths.addr state.free in let room = c.requires.room in omega (arith, len, room)))
    (subst (λ at. Appends at (flat_map (cell_bits setting.widths targets) (map cell_of state.cells.items)) first second) start
    (subst₂ (λ w cells. Appends c.bit_count-cells.result (flat_map (cell_bits w targets) (map cell_of cells)) first second) c.widths-widths.ensures c.deref.ensures.value c.put_cells-values.ensures.bits))
    (c.put_cells-values.ensures.after ∙ ap₂ (λ m n. m + n) start (ap₂ (λ w cells. length (flat_map (cell_bits w targets) (map cell_of cells))) c.widths-widths.ensures c.deref.ensures.value))
    (subst (λ values. Appends c.put_cells-values.result (flat_map (value_bits setting.widths) (map value_of values)) second c.put_values.new.bits) c.deref-2.ensures.value c.put_values.ensures)
