use Rattle.std.proofs.Common.{◌∙◌, ◌+◌, ◌*◌, sym, ap, subst, arith, length, map, flat_map, take, drop, option_map, Some, length-append}
use Rattle.std.proofs.lemmas.Option.{slice_get-map, slice_get-get_or}
use Rattle.tw_types.specs.Types.{block_size}
use Rattle.tw_state.specs.Encoding.{cell_bits}
use Rattle.tw_state.specs.EntryEncoding.{Appends}
use Rattle.tw_state.specs.FromCode.{cell_of}
use Rattle.tw_state.specs.TypedLists.{IsCell}
use Rattle.tw_state.proofs.Appending.{appends_both}
use Rattle.tw_state.proofs.Blocks.{get_all}
use Rattle.tw_state.proofs.CellBits.{one_more_given, one_fewer_left}
use Rattle.tw_state.proofs.Sizes.{length-cell_bits}
use Rattle.tw_state.proofs.encoding.put_cells.Goals as goal

pub put_cell-requires-clause-typed : goal.put_cell-requires-clause-typed
put_cell-requires-clause-typed c =
    let cells = c.args.cells.now in
    let i = c.loop-cell.cell-index in
    get_all (IsCell c.args.widths c.args.targets.now) (map cell_of cells) i (cell_of c.cell-item.result) c.requires.typed
    (slice_get-map cell_of cells i ∙ ap (option_map cell_of) (slice_get-get_or cells i c.cell-item.result c.loop-cell-test.true ∙ ap Some (sym c.cell-item.is)))

pub loop-cell-preserved : goal.loop-cell-preserved
loop-cell-preserved c =
    let widths = c.args.widths in
    let targets = c.args.targets.now in
    let cells = c.args.cells.now in
    let i = c.loop-cell.cell-index in
    let cell = cell_of c.cell-item.result in
    let so = c.loop-cell.invariant in
    let found = slice_get-map cell_of cells i ∙ ap (option_map cell_of) (slice_get-get_or cells i c.cell-item.result c.loop-cell-test.true ∙ ap Some (sym c.cell-item.is)) in
    let typed = get_all (IsCell widths targets) (map cell_of cells) i cell c.requires.typed found in
    let done = flat_map (cell_bits widths targets) (take i (map cell_of cells)) in
    let more = one_more_given (cell_bits widths targets) (map cell_of cells) i cell found in
    let size = length-cell_bits widths targets cell typed in
    let whole = ap length more ∙ length-append done (cell_bits widths targets cell) in
    let place = so.place in
    let is_size = so.is_size in
    record {
      is_size = so.is_size;
      left = ap (λ n. (c.loop-cell.next + n) + length (drop (i + 1) (map cell_of cells)) * block_size widths targets) so.is_size ∙ one_fewer_left widths targets (map cell_of cells) i c.loop-cell.next _ cell found so.left;
      place = omega (arith, whole, size, place, is_size);
      appended = subst (λ bits. Appends c.args.at bits c.args.bits.now c.put_cell.new.bits) (sym more) (appends_both c.args.at c.loop-cell.next done (cell_bits widths targets cell) _ _ _ so.place so.appended c.put_cell.ensures);
    }
