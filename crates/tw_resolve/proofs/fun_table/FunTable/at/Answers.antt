use denote.Bor.{Bor}
use Rattle.tw_syntax.specs.declared.program.Fun.{Fun}
use Rattle.tw_syntax.specs.Programs.{fun_tree}
use Rattle.tw_resolve.proofs.AtPlaces.{value_at}
use Rattle.tw_resolve.proofs.fun_table.FunTable.at.Goals as goal

pub returns : goal.returns
returns c = value_at (λ (fun : Bor Fun). fun_tree fun.now) c.args.self.now.table.entries c.args.number c.index.result.now c.index.ensures
