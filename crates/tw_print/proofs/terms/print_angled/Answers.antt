use Rattle.tw_print.proofs.Going.{goes_then}
use Rattle.tw_print.proofs.terms.print_angled.Goals as goal

pub returns : goal.returns
returns g c = goes_then c.text-progress.ensures (goes_then c.print_type-progress.ensures c.text.ensures)
