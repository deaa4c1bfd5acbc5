use Rattle.tw_print.proofs.Going.{goes_then}
use Rattle.tw_print.proofs.types.print_path.Goals as goal

pub returns : goal.returns
returns g c = goes_then c.text-progress.ensures c.print_steps.ensures
