use Rattle.std.proofs.Common.{codes}
use Rattle.tw_syntax.specs.Names.{path_tree}
use Rattle.tw_print.specs.Terms.{path_print}
use Rattle.tw_print.proofs.Going.{goes_then, ends_two, ends_three}
use Rattle.tw_print.proofs.statements.print_swap.Goals as goal

pub returns : goal.returns
returns g c =
    rw (ends_three (path_print (path_tree c.args.left.now)) (codes " <-> ") (path_print (path_tree c.args.right.now)) (codes ";") (codes "\n"))
    (goes_then c.print_path-progress.ensures (goes_then c.text-progress.ensures (goes_then c.print_path-progress-2.ensures c.text.ensures)))
