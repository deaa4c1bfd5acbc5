use Rattle.std.proofs.Common.{codes, append_assoc}
use Rattle.tw_syntax.specs.Names.{path_tree}
use Rattle.tw_print.specs.Terms.{path_print}
use Rattle.tw_print.proofs.Going.{goes_then}
use Rattle.tw_print.proofs.statements.print_condition.Goals as goal

pub returns : goal.returns
returns g c =
    rw (append_assoc (path_print (path_tree c.args.cond.now)) (codes " {") (codes "\n")) (goes_then c.text-progress.ensures (goes_then c.print_path-progress.ensures c.text.ensures))
