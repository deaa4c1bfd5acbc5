use Rattle.tw_print.proofs.Going.{goes_then}
use Rattle.tw_print.proofs.terms.print_call_bound.Goals as goal

pub returns-in-Some : goal.returns-in-Some
returns-in-Some g c = rw (c.in-Some.is) (goes_then c.text-progress.ensures (goes_then c.print_bound-progress.ensures c.text.ensures))
