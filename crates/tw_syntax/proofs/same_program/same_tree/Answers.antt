use Rattle.std.proofs.lemmas.Bool.Decides.{Decides-at}
use Rattle.tw_syntax.specs.Programs.{program_tree}
use Rattle.tw_syntax.proofs.DecidedPrograms.{program_decides}
use Rattle.tw_syntax.proofs.same_program.same_tree.Goals as goal

pub returns : goal.returns
returns c = Decides-at _ _ c.same_decls.ensures (program_decides (program_tree c.args.x.now) (program_tree c.args.y.now))
