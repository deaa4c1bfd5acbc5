use Rattle.std.proofs.Common.{map}
use Rattle.tw_syntax.specs.Names.{name_tree}
use Rattle.tw_print.specs.Terms.{names_print}
use Rattle.tw_print.proofs.Going.{goes_then}
use Rattle.tw_print.proofs.Items.{first_item}
use Rattle.tw_print.proofs.terms.print_names.Goals as goal

pub returns-in-len1-up : goal.returns-in-len1-up
returns-in-len1-up g c = first_item (λ names. names_print (map name_tree names)) c.args.names.now _ c.in-len1-up.len_at_least (goes_then c.text-progress.ensures c.print_more_names.ensures)
