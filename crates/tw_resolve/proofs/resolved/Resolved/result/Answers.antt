use Rattle.std.proofs.Common.{◌∙◌, ap, sym, option_map}
use Rattle.std.proofs.Math.Bool.{Bool-set}
use Rattle.std.proofs.Math.Logic.{∥∥₁_elim}
use Rattle.tw_syntax.specs.Programs.{fun_tree, program_tree}
use Rattle.tw_types.specs.FromCode.{ty_of}
use Rattle.tw_resolve.specs.Resolved.{resolved_setting}
use Rattle.tw_resolve.proofs.Asking.{result_found, type_there}
use Rattle.tw_resolve.proofs.Sets.{found_types}
use Rattle.tw_resolve.proofs.WellTyped.{all_funs}
use Rattle.tw_resolve.proofs.resolved.Resolved.result.Goals as goal

pub unwrap-requires : goal.unwrap-requires
unwrap-requires c =
    let resolved = c.args.self.now in
    type_there c.type_of.result
    (∥∥₁_elim resolved.typed (Bool-set _ _)
    (λ are. (result_found (resolved_setting resolved) (all_funs (program_tree resolved.program.now) resolved.tables are) c.args.number
    (fun_tree c.fun_at-fun.result.now) (option_map ty_of c.type_of.result) c.fun_at-fun.ensures c.type_of.ensures.types).1))

pub returns : goal.returns
returns c =
    let resolved = c.args.self.now in
    ∥∥₁_elim resolved.typed (found_types _ _)
    (λ are. sym (result_found (resolved_setting resolved) (all_funs (program_tree resolved.program.now) resolved.tables are) c.args.number
    (fun_tree c.fun_at-fun.result.now) (option_map ty_of c.type_of.result) c.fun_at-fun.ensures c.type_of.ensures.types).0
    ∙ ap (option_map ty_of) c.unwrap.ensures)
