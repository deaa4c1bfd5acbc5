use Rattle.std.proofs.Common.{refl}
use Rattle.tw_state.specs.Reading.{IsCellLine}
use Rattle.tw_state.proofs.ReadLines.{if_ok, free_line, live_cell_line}
use Rattle.tw_state.proofs.line_text.read_cell.Goals as goal

pub returns-in-Some : goal.returns-in-Some
returns-in-Some c = free_line c.args.widths c.args.targets.now c.args.block c.args.bytes.now c.in-Some.behind.now c.in-Some.ensures.some c.free_cell.result c.free_cell.ensures

pub returns : goal.returns
returns c =
    if_ok c.live_cell.result _ (IsCellLine c.args.widths c.args.targets.now c.args.block c.args.bytes.now)
    (live_cell_line c.args.widths c.args.targets.now c.args.block c.args.bytes.now (c.in_default.ensures.none refl) c.in-Some-after_number.behind.now c.in-Some-after_number.ensures.some)
    c.live_cell.ensures
