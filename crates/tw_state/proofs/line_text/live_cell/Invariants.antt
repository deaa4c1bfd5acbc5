use Rattle.tw_state.proofs.ReadLines.{NoneOf}
use Rattle.tw_state.proofs.line_text.live_cell.Given as goal

abbrev pub invariant-loop-number : goal.invariant-loop-number
invariant-loop-number l = NoneOf l.widths l.targets l.bytes l.number
