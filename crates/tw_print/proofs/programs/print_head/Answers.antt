use Rattle.tw_print.proofs.Going.{goes_then}
use Rattle.tw_print.proofs.programs.print_head.Goals as goal

pub returns : goal.returns
returns g c =
    goes_then c.text-progress.ensures (goes_then c.text-progress-2.ensures (goes_then c.print_fun_bound-progress.ensures (goes_then c.text-progress-3.ensures (
    goes_then c.print_params-progress.ensures (goes_then c.text-progress-4.ensures (goes_then c.print_type-progress.ensures c.text.ensures))))))
