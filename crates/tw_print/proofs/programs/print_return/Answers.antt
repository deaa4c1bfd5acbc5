use Rattle.tw_print.proofs.Going.{goes_then}
use Rattle.tw_print.proofs.programs.print_return.Goals as goal

pub returns : goal.returns
returns g c = goes_then c.text-progress.ensures (goes_then c.text-progress-2.ensures c.text.ensures)
