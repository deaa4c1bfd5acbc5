use Rattle.std.proofs.Math.Logic.{∥∥₁_elim}
use Rattle.std.specs.Coded.{le_prop}
use Rattle.tw_syntax.specs.Programs.{program_tree}
use Rattle.tw_types.specs.FromCode.{ty_of}
use Rattle.tw_resolve.specs.Resolved.{resolved_setting}
use Rattle.tw_resolve.specs.Variables.{variables_in}
use Rattle.tw_resolve.proofs.Asking.{fun_there, param_found, place_found}
use Rattle.tw_resolve.proofs.Sets.{found_types}
use Rattle.tw_resolve.proofs.WellTyped.{all_funs}
use Rattle.tw_resolve.proofs.resolved.Resolved.param_type.Goals as goal

pub at-requires : goal.at-requires
at-requires c =
    let resolved = c.args.self.now in
    let setting = resolved_setting resolved in
    let variables = variables_in c.variables.result.now.table.entries in
    let there = fun_there setting c.args.number variables c.variables.ensures.types in
    ∥∥₁_elim resolved.typed (hlevel le_prop)
    (λ are. place_found setting (all_funs (program_tree resolved.program.now) resolved.tables are) c.args.number there.0 variables c.args.place there.1
    c.variables.ensures.types c.requires.param)

pub returns : goal.returns
returns c =
    let resolved = c.args.self.now in
    let setting = resolved_setting resolved in
    let variables = variables_in c.variables.result.now.table.entries in
    let there = fun_there setting c.args.number variables c.variables.ensures.types in
    ∥∥₁_elim resolved.typed (found_types _ _)
    (λ are. param_found setting (all_funs (program_tree resolved.program.now) resolved.tables are) c.args.number there.0 variables c.args.place
    c.at.result.0.now (ty_of c.at.result.1) there.1 c.variables.ensures.types c.requires.param c.at.ensures)
