use Rattle.std.proofs.Common.{map}
use Rattle.tw_syntax.specs.Programs.{param_tree}
use Rattle.tw_print.specs.Programs.{more_params_print}
use Rattle.tw_print.proofs.Going.{goes_then}
use Rattle.tw_print.proofs.Items.{next_item}
use Rattle.tw_print.proofs.programs.print_more_params.Goals as goal

pub loop-param-preserved : goal.loop-param-preserved
loop-param-preserved g c = λ s r rest. c.loop-param.invariant s r (next_item (λ params. more_params_print (map param_tree params)) c.args.params.now c.loop-param.param-index _ c.loop-param-test.true (goes_then c.text-progress.ensures (goes_then c.print_param-progress.ensures rest)))
