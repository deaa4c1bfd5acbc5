use Rattle.std.proofs.Common.{map}
use Rattle.tw_syntax.specs.Names.{name_tree}
use Rattle.tw_print.specs.Terms.{more_names_print}
use Rattle.tw_print.proofs.Items.{next_item}
use Rattle.tw_print.proofs.Going.{goes_then}
use Rattle.tw_print.proofs.terms.print_more_names.Goals as goal

pub loop-name-preserved : goal.loop-name-preserved
loop-name-preserved g c = λ s r rest. c.loop-name.invariant s r (next_item (λ names. more_names_print (map name_tree names)) c.args.names.now c.loop-name.name-index _ c.loop-name-test.true (goes_then c.text-progress.ensures (goes_then c.text-progress-in-loop-name.ensures rest)))
