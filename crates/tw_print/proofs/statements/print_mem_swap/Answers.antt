use Rattle.tw_print.proofs.Going.{goes_then}
use Rattle.tw_print.proofs.statements.print_mem_swap.Goals as goal

pub returns : goal.returns
returns g c = goes_then c.text-progress.ensures c.print_swap.ensures
