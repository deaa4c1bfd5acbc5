use Rattle.std.proofs.Common.{◌∙◌}
use Rattle.tw_resolve.specs.Tables.{setting_in}
use Rattle.tw_resolve.specs.Variables.{variables_in, texts_in}
use Rattle.tw_resolve.proofs.Naming.{arg_kept, arg_stopped}
use Rattle.tw_resolve.proofs.Trying.{tries_same}
use Rattle.tw_resolve.proofs.calls.check_args.Goals as goal

pub returns-in_err-check_arg : goal.returns-in_err-check_arg
returns-in_err-check_arg c =
    tries_same _ _ _ c.loop-i.invariant
    (arg_stopped (setting_in c.args.tables.now) (variables_in c.args.variables.now.table.entries) (texts_in c.loop-i.earlier.set.keys) c.args.params.now c.args.args.now
    c.loop-i.i _ c.loop-i-test.true _ c.in_ok-needed.ensures _ _ c.in_err-check_arg.ensures.tried c.from_residual-in_err-check_arg.ensures.1)

pub loop-i-preserved : goal.loop-i-preserved
loop-i-preserved c =
    c.loop-i.invariant
    ∙ arg_kept (setting_in c.args.tables.now) (variables_in c.args.variables.now.table.entries) (texts_in c.loop-i.earlier.set.keys) c.args.params.now c.args.args.now
    c.loop-i.i _ c.loop-i-test.true _ c.in_ok-needed.ensures _ _ c.in_ok-check_arg.ensures.tried c.in_ok-check_arg.ensures.added
