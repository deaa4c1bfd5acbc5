use Rattle.std.proofs.Common.{◌∙◌, arith}
use Rattle.tw_syntax.specs.Programs.{fun_tree}
use Rattle.tw_resolve.specs.Variables.{variables_in}
use Rattle.tw_resolve.proofs.Asking.{are_locals_of, returned_there}
use Rattle.tw_resolve.proofs.resolved.Resolved.local_count.Goals as goal

pub unwrap-requires : goal.unwrap-requires
unwrap-requires c =
    c.number_of.ensures.there
    ∙ returned_there c.args.self.now c.args.number (fun_tree c.fun_at-fun.result.now) (variables_in c.variables-variables.result.now.table.entries)
    c.fun_at-fun.ensures c.variables-variables.ensures.types

pub overflow_sub-result : goal.overflow_sub-result
overflow_sub-result c =
    let are = are_locals_of c.args.self.now c.args.number c.fun_at-fun.result.now (variables_in c.variables-variables.result.now.table.entries) c.unwrap.result c.number_of.result
    c.fun_at-fun.ensures c.variables-variables.ensures.types c.number_of.ensures.different c.number_of.ensures.place c.unwrap.ensures in
    let count = are.0 in
    let len = c.len.ensures in
    omega (arith, count, len)

pub overflow_sub-result-2 : goal.overflow_sub-result-2
overflow_sub-result-2 c =
    let are = are_locals_of c.args.self.now c.args.number c.fun_at-fun.result.now (variables_in c.variables-variables.result.now.table.entries) c.unwrap.result c.number_of.result
    c.fun_at-fun.ensures c.variables-variables.ensures.types c.number_of.ensures.different c.number_of.ensures.place c.unwrap.ensures in
    let count = are.0 in
    let len = c.len.ensures in
    omega (arith, count, len)

pub returns : goal.returns
returns c =
    let are = are_locals_of c.args.self.now c.args.number c.fun_at-fun.result.now (variables_in c.variables-variables.result.now.table.entries) c.unwrap.result c.number_of.result
    c.fun_at-fun.ensures c.variables-variables.ensures.types c.number_of.ensures.different c.number_of.ensures.place c.unwrap.ensures in
    let count = are.0 in
    let len = c.len.ensures in
    omega (arith, count, len)
