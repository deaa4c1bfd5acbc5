use Rattle.std.proofs.Common.{codes}
use Rattle.tw_syntax.specs.Names.{name_tree}
use Rattle.tw_syntax.specs.Terms.{rhs_tree}
use Rattle.tw_print.specs.Programs.{arrow_print}
use Rattle.tw_print.specs.Terms.{rhs_print}
use Rattle.tw_print.proofs.Going.{goes_then, ends_three}
use Rattle.tw_print.proofs.statements.print_let.Goals as goal

pub returns : goal.returns
returns g c =
    rw (ends_three (name_tree c.args.target.now).text (arrow_print c.args.forward) (rhs_print (rhs_tree c.args.rhs.now)) (codes ";") (codes "\n"), ← c.arrow.ensures)
    (goes_then c.text-progress.ensures (goes_then c.text-progress-2.ensures (goes_then c.text-progress-3.ensures (goes_then c.print_rhs-progress.ensures c.text.ensures))))
