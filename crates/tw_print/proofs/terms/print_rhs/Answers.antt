use Rattle.tw_print.proofs.Going.{goes_then}
use Rattle.tw_print.proofs.terms.print_rhs.Goals as goal

pub returns-in-Call : goal.returns-in-Call
returns-in-Call g c = rw (c.in-Call.is) (goes_then c.text-progress.ensures (goes_then c.print_call_bound-progress.ensures (goes_then c.text-progress-in-Call.ensures (goes_then c.print_names-progress.ensures c.text.ensures))))
