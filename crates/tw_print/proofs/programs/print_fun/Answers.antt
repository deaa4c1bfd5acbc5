use Rattle.tw_print.proofs.Going.{goes_then}
use Rattle.tw_print.proofs.programs.print_fun.Goals as goal

pub returns : goal.returns
returns g c = goes_then c.print_head-progress.ensures (goes_then c.print_stmts-progress.ensures c.print_return.ensures)
