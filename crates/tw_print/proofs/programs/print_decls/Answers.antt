use Rattle.std.proofs.Common.{map}
use Rattle.tw_syntax.specs.Programs.{decl_tree}
use Rattle.tw_print.specs.Programs.{decls_print}
use Rattle.tw_print.proofs.Going.{goes_then}
use Rattle.tw_print.proofs.Items.{next_item}
use Rattle.tw_print.proofs.programs.print_decls.Goals as goal

pub loop-decl-preserved : goal.loop-decl-preserved
loop-decl-preserved g c = λ s r rest. c.loop-decl.invariant s r (next_item (λ decls. decls_print (map decl_tree decls)) c.args.decls.now c.loop-decl.decl-index c.decl-item.result c.loop-decl-test.true (rw (← c.decl-item.is) (goes_then c.print_decl-progress.ensures rest)))
