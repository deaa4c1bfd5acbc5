use Rattle.tw_print.proofs.Going.{goes_then}
use Rattle.tw_print.proofs.statements.print_line.Goals as goal

pub returns : goal.returns
returns g c = goes_then c.print_indent-progress.ensures c.text.ensures
