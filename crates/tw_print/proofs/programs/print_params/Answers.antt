use Rattle.std.proofs.Common.{map}
use Rattle.tw_syntax.specs.Programs.{param_tree}
use Rattle.tw_print.specs.Programs.{params_print}
use Rattle.tw_print.proofs.Going.{goes_then}
use Rattle.tw_print.proofs.Items.{first_item}
use Rattle.tw_print.proofs.programs.print_params.Goals as goal

pub returns-in-len1-up : goal.returns-in-len1-up
returns-in-len1-up g c = first_item (λ params. params_print (map param_tree params)) c.args.params.now _ c.in-len1-up.len_at_least (goes_then c.print_param-progress.ensures c.print_more_params.ensures)
