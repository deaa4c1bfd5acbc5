use Rattle.tw_print.proofs.Going.{goes_then}
use Rattle.tw_print.proofs.terms.print_expr.Goals as goal

pub returns-in-Two : goal.returns-in-Two
returns-in-Two g c = rw c.in-Two.is (goes_then c.text-progress.ensures (goes_then c.print_atom-progress.ensures (goes_then c.text-progress-in-Two.ensures (goes_then c.print_atom-progress-in-Two.ensures c.text.ensures))))

pub returns-in-Not : goal.returns-in-Not
returns-in-Not g c = rw c.in-Not.is (goes_then c.text-progress-in-Not.ensures c.print_atom-in-Not.ensures)

pub returns-in-Op : goal.returns-in-Op
returns-in-Op g c = rw (c.in-Op.is, ← c.op_text.ensures) (goes_then c.print_atom-progress-in-Op.ensures (goes_then c.text-progress-in-Op.ensures (goes_then c.text-progress-in-Op-2.ensures (goes_then c.text-progress-in-Op-3.ensures c.print_atom-in-Op.ensures))))
