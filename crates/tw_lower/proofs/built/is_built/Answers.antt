use Rattle.tw_syntax.specs.Programs.{fun_tree, program_tree}
use Rattle.tw_resolve.specs.Declarations.{funs_of}
use Rattle.tw_state.proofs.EntryNames.{dropped_at}
use Rattle.tw_lower.proofs.Building.{funs_left, one_less}
use Rattle.tw_lower.proofs.built.is_built.Goals as goal

pub loop-number-preserved : goal.loop-number-preserved
loop-number-preserved c =
    let funs = funs_of (program_tree c.args.checked.now.resolved.program.now).decls in
    one_less c.is_built_fun.ensures (funs_left c.loop-number.invariant (dropped_at funs c.loop-number.number (fun_tree c.fun_at.result.now) c.fun_at.ensures)) c.if-not-is_built_fun.false
