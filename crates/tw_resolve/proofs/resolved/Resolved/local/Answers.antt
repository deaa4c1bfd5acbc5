use Rattle.std.proofs.Common.{◌∙◌, arith}
use Rattle.tw_syntax.specs.Programs.{fun_tree}
use Rattle.tw_resolve.specs.Variables.{variables_in}
use Rattle.tw_resolve.proofs.Asking.{are_locals_of, returned_there}
use Rattle.tw_resolve.proofs.resolved.Resolved.local.Goals as goal

pub unwrap-returned-requires : goal.unwrap-returned-requires
unwrap-returned-requires c =
    c.number_of.ensures.there
    ∙ returned_there c.args.self.now c.args.number (fun_tree c.fun_at-fun.result.now) (variables_in c.variables-variables.result.now.table.entries)
    c.fun_at-fun.ensures c.variables-variables.ensures.types

pub prove-unreachable-requires : goal.prove-unreachable-requires
prove-unreachable-requires c =
    let are = are_locals_of c.args.self.now c.args.number c.fun_at-fun.result.now (variables_in c.variables-variables.result.now.table.entries) c.unwrap-returned.result c.number_of.result
    c.fun_at-fun.ensures c.variables-variables.ensures.types c.number_of.ensures.different c.number_of.ensures.place c.unwrap-returned.ensures in
    let count = are.0 in
    let below = c.requires.local in
    let len = c.len.ensures in
    let fits = c.len.type_inv in
    let past = c.if-prove.true in
    omega (arith, count, len, below, past)

pub overflow_add-at : goal.overflow_add-at
overflow_add-at c =
    let are = are_locals_of c.args.self.now c.args.number c.fun_at-fun.result.now (variables_in c.variables-variables.result.now.table.entries) c.unwrap-returned.result c.number_of.result
    c.fun_at-fun.ensures c.variables-variables.ensures.types c.number_of.ensures.different c.number_of.ensures.place c.unwrap-returned.ensures in
    let count = are.0 in
    let below = c.requires.local in
    let len = c.len.ensures in
    let fits = c.len.type_inv in
    omega (arith, count, len, below, fits)

pub overflow_add-at-else-at-returned : goal.overflow_add-at-else-at-returned
overflow_add-at-else-at-returned c =
    let are = are_locals_of c.args.self.now c.args.number c.fun_at-fun.result.now (variables_in c.variables-variables.result.now.table.entries) c.unwrap-returned.result c.number_of.result
    c.fun_at-fun.ensures c.variables-variables.ensures.types c.number_of.ensures.different c.number_of.ensures.place c.unwrap-returned.ensures in
    let count = are.0 in
    let below = c.requires.local in
    let len = c.len.ensures in
    let fits = c.len.type_inv in
    omega (arith, count, len, below, fits)

pub at-requires-else-at-returned : goal.at-requires-else-at-returned
at-requires-else-at-returned c =
    let are = are_locals_of c.args.self.now c.args.number c.fun_at-fun.result.now (variables_in c.variables-variables.result.now.table.entries) c.unwrap-returned.result c.number_of.result
    c.fun_at-fun.ensures c.variables-variables.ensures.types c.number_of.ensures.different c.number_of.ensures.place c.unwrap-returned.ensures in
    let count = are.0 in
    let below = c.requires.local in
    let len = c.len.ensures in
    let fits = c.len.type_inv in
    omega (arith, count, len, below)

pub returns-then-at-returned : goal.returns-then-at-returned
returns-then-at-returned c =
    let are = are_locals_of c.args.self.now c.args.number c.fun_at-fun.result.now (variables_in c.variables-variables.result.now.table.entries) c.unwrap-returned.result c.number_of.result
    c.fun_at-fun.ensures c.variables-variables.ensures.types c.number_of.ensures.different c.number_of.ensures.place c.unwrap-returned.ensures in
    let before = c.if-at-returned.true in
    are.1 c.args.place (omega (arith, before)) ∙ c.at.ensures

pub returns-else-at-returned : goal.returns-else-at-returned
returns-else-at-returned c =
    let are = are_locals_of c.args.self.now c.args.number c.fun_at-fun.result.now (variables_in c.variables-variables.result.now.table.entries) c.unwrap-returned.result c.number_of.result
    c.fun_at-fun.ensures c.variables-variables.ensures.types c.number_of.ensures.different c.number_of.ensures.place c.unwrap-returned.ensures in
    let after = c.if-at-returned.false in
    are.2 c.args.place (omega (arith, after)) ∙ c.at-else-at-returned.ensures
