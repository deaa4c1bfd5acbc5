use Rattle.std.proofs.Common.{◌≡◌, subst, List, Some, slice_get}
use Rattle.std.proofs.Math.Logic.{∥∥₁_elim}
use Rattle.tw_syntax.specs.Programs.{FunTree, fun_tree}
use Rattle.tw_syntax.proofs.Sets.{found_functions}
use Rattle.tw_resolve.proofs.resolved.Resolved.fun_at.Goals as goal

pub returns : goal.returns
returns c = ∥∥₁_elim c.args.self.now.typed (found_functions _ _)
    (λ are. subst (λ (funs : List FunTree). slice_get funs c.args.number ≡ Some (fun_tree c.at.result.now)) are.tables_of.funs c.at.ensures)
