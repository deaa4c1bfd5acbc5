use Rattle.std.proofs.Common.{rules, ◌≡◌, ◌∙◌, arith, sym, subst, ap, inr, ◌+◌, None, Some}
use Rattle.tw_state.specs.Reading.{IsCellLine, IsRefusedFrom}
use Rattle.tw_state.proofs.TakenLines.{cell_taken, cell_refused, cell_shorter}
use Rattle.tw_state.proofs.reading.read_cells.Goals as goal

pub returns-in_default-clause-refused : goal.returns-in_default-clause-refused
returns-in_default-clause-refused c =
    let none = subst (IsCellLine c.args.widths c.args.targets.now (c.loop-block.block + 1) c.loop-block.rest.now) c.in_default.is c.in_ok-cell.ensures in
    inr
    (λ setting side fun states head same are.
    subst (IsRefusedFrom setting side fun _ c.args.lines c.args.bytes.now) (sym c.wrong_line.ensures)
    (cell_refused setting side fun _ c.args.lines c.loop-block.read c.args.bytes.now c.loop-block.rest.now c.args.targets.now are c.args.widths same states head c.loop-block.cells.items c.loop-block.block
    c.loop-block.invariant.counted (search rules) (c.loop-block.invariant.led setting side fun states head same are) none))

pub loop-block-preserved : goal.loop-block-preserved
loop-block-preserved c =
    let found = subst (IsCellLine c.args.widths c.args.targets.now (c.loop-block.block + 1) c.loop-block.rest.now) c.in-Some.is c.in_ok-cell.ensures in
    record {
      counted = search rules;
      lines_counted = omega (arith, c.loop-block.invariant.lines_counted);
      within = omega (arith, c.loop-block.invariant.within, cell_shorter c.args.widths c.args.targets.now (c.loop-block.block + 1) c.loop-block.rest.now (c.in-Some.cell, c.in-Some.behind) found);
      led = λ setting side fun states head same are.
          cell_taken setting side fun _ c.args.lines c.loop-block.read c.args.bytes.now c.loop-block.rest.now c.args.targets.now are c.args.widths same states head c.loop-block.cells.items c.loop-block.block
          c.loop-block.invariant.counted (search rules) (c.loop-block.invariant.led setting side fun states head same are) (c.in-Some.cell, c.in-Some.behind) c.push.new.self.items c.in_ok-push.ensures.items found;
    }
