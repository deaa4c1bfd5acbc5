use Rattle.std.proofs.Common.{◌∙◌}
use Rattle.tw_resolve.specs.declared.variables.Variables.{Variables}
use Rattle.tw_resolve.specs.Entries.{funs_in}
use Rattle.tw_resolve.specs.Programs.{end_variables}
use Rattle.tw_resolve.specs.Tables.{setting_in}
use Rattle.tw_resolve.specs.Variables.{variables_in}
use Rattle.tw_resolve.proofs.AtPlaces.{fun_stopped, fun_kept, found_next}
use Rattle.tw_resolve.proofs.Trying.{tries_same}
use Rattle.tw_resolve.proofs.functions.check_funs.Goals as goal

pub returns-in_err-variables-clause-tried : goal.returns-in_err-variables-clause-tried
returns-in_err-variables-clause-tried c =
    tries_same _ _ _ c.loop-number.invariant.demands
    (fun_stopped (setting_in c.args.tables.now) (funs_in c.args.tables.now.funs.table.entries) c.loop-number.number _ c.at.ensures
    _ _ c.in_err-variables.ensures.tried c.from_residual.ensures.1)

pub loop-number-preserved : goal.loop-number-preserved
loop-number-preserved c = record {
  demands = c.loop-number.invariant.demands
      ∙ fun_kept (setting_in c.args.tables.now) (funs_in c.args.tables.now.funs.table.entries) c.loop-number.number _ c.at.ensures
      _ c.in_ok-variables.ensures.tried;
  after = found_next (λ (v : Variables). variables_in v.table.entries) (end_variables (setting_in c.args.tables.now)) (funs_in c.args.tables.now.funs.table.entries)
      c.loop-number.number _ c.loop-number.found.items _ _ c.at.ensures c.in_ok-push.ensures.items c.in_ok-variables.ensures.after c.loop-number.invariant.after;
}
