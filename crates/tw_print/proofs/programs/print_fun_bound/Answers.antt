use Rattle.tw_print.proofs.Going.{goes_then}
use Rattle.tw_print.proofs.programs.print_fun_bound.Goals as goal

pub returns-in-Some : goal.returns-in-Some
returns-in-Some g c = rw (c.in-Some.is) (goes_then c.text-progress.ensures (goes_then c.text-progress-in-Some.ensures c.text.ensures))
