use Rattle.std.proofs.Math.Logic.{∥∥₁_elim}
use Rattle.tw_syntax.specs.Programs.{program_tree}
use Rattle.tw_resolve.specs.Resolved.{resolved_setting}
use Rattle.tw_resolve.specs.Variables.{variables_in}
use Rattle.tw_resolve.proofs.Asking.{names_found, variables_found}
use Rattle.tw_resolve.proofs.Sets.{found_names, found_variables}
use Rattle.tw_resolve.proofs.WellTyped.{all_named}
use Rattle.tw_resolve.proofs.resolved.Resolved.variables.Goals as goal

pub returns-clause-types : goal.returns-clause-types
returns-clause-types c =
    let resolved = c.args.self.now in
    ∥∥₁_elim resolved.of_funs (found_variables _ _)
    (λ are. variables_found (resolved_setting resolved) resolved.variables.items c.args.number c.index.result.now are c.requires c.index.ensures)

pub returns-clause-names : goal.returns-clause-names
returns-clause-names c =
    let resolved = c.args.self.now in
    ∥∥₁_elim resolved.typed (found_names _ _)
    (λ typed. ∥∥₁_elim resolved.of_funs (found_names _ _)
    (λ are. names_found (resolved_setting resolved) c.args.number (variables_in c.index.result.now.table.entries)
    (all_named (program_tree resolved.program.now) resolved.tables typed)
    (variables_found (resolved_setting resolved) resolved.variables.items c.args.number c.index.result.now are c.requires c.index.ensures)))
