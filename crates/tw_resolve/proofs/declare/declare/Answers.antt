use Rattle.tw_syntax.specs.Programs.{program_tree}
use Rattle.tw_resolve.specs.Entries.{aliases_in}
use Rattle.tw_resolve.proofs.Ending.{stopped}
use Rattle.tw_resolve.proofs.NameRules.{reports_alias, reports_fun, reports_name, names_hold}
use Rattle.tw_resolve.proofs.declare.declare.Goals as goal

pub returns-in_err-aliases-clause-tried : goal.returns-in_err-aliases-clause-tried
returns-in_err-aliases-clause-tried c =
    let why = c.in_err-aliases.field-0.0 in
    stopped _ why (reports_alias (program_tree c.args.program.now) why c.in_err-aliases.ensures.tried.reported) c.from_residual.result c.from_residual.ensures.1

pub returns-in_err-funs-clause-tried : goal.returns-in_err-funs-clause-tried
returns-in_err-funs-clause-tried c =
    let why = c.in_err-funs.field-0.0 in
    stopped _ why (reports_fun (program_tree c.args.program.now) why c.in_ok-aliases.ensures.tried.kept c.in_err-funs.ensures.tried.reported) c.from_residual-in_err-funs.result c.from_residual-in_err-funs.ensures.1

pub returns-in_err-aliases_known-clause-tried : goal.returns-in_err-aliases_known-clause-tried
returns-in_err-aliases_known-clause-tried c =
    let why = c.in_err-aliases_known.field-0.0 in
    stopped _ why
    (reports_name (program_tree c.args.program.now) why (aliases_in c.in_ok-aliases.aliases.table.entries) c.in_ok-aliases.ensures.table
    c.in_ok-aliases.ensures.tried.kept c.in_ok-funs.ensures.tried.kept c.in_err-aliases_known.ensures.reported)
    c.from_residual-in_err-aliases_known.result c.from_residual-in_err-aliases_known.ensures.1

pub returns-clause-tried : goal.returns-clause-tried
returns-clause-tried c = record {
  kept = names_hold (program_tree c.args.program.now) (aliases_in c.in_ok-aliases.aliases.table.entries) c.in_ok-aliases.ensures.table
      c.in_ok-aliases.ensures.tried.kept c.in_ok-funs.ensures.tried.kept c.in_ok-aliases_known.ensures.kept;
  reported = tt;
}
