use Rattle.std.proofs.Common.{◌+◌, map, drop}
use Rattle.std.proofs.lemmas.List.{at_drop_all}
use Rattle.tw_syntax.specs.Programs.{param_tree}
use Rattle.tw_resolve.specs.Tables.{setting_in}
use Rattle.tw_resolve.specs.Variables.{texts_in, variables_in}
use Rattle.tw_resolve.proofs.Parameters.{all_left, left_at, left_next, left_stopped, none_left, params_next}
use Rattle.tw_resolve.proofs.functions.check_params.Goals as goal

pub loop-i-init : goal.loop-i-init
loop-i-init c = all_left _ _ _ _ c.new-earlier.ensures c.new-variables.ensures

pub returns-in_err-check_param-clause-tried : goal.returns-in_err-check_param-clause-tried
returns-in_err-check_param-clause-tried c =
    let params = c.args.params.now in
    let i = c.loop-i.i in
    left_stopped (setting_in c.args.tables.now) (map param_tree params) (map param_tree (drop (i + 1) params)) (texts_in c.loop-i.earlier.set.keys)
    (variables_in c.loop-i.variables.table.entries) _ _ _
    (left_at _ _ _ _ _ _ (params_next params i _ c.loop-i-test.true) c.loop-i.invariant) c.in_err-check_param.ensures.tried c.from_residual.ensures.1

pub loop-i-preserved : goal.loop-i-preserved
loop-i-preserved c =
    let params = c.args.params.now in
    let i = c.loop-i.i in
    left_next (setting_in c.args.tables.now) (map param_tree params) (map param_tree (drop (i + 1) params)) (texts_in c.loop-i.earlier.set.keys) _
    (variables_in c.loop-i.variables.table.entries) _ _ _
    (left_at _ _ _ _ _ _ (params_next params i _ c.loop-i-test.true) c.loop-i.invariant) c.in_ok-check_param.ensures.tried
    c.in_ok-check_param.ensures.added c.in_ok-check_param.ensures.declared

pub returns-clause-after : goal.returns-clause-after
returns-clause-after c =
    none_left _ _ _ _ (left_at _ _ _ _ _ _ (at_drop_all (map param_tree) c.args.params.now c.loop-i.i c.loop-i-test.false) c.loop-i.invariant)
