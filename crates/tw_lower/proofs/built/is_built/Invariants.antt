use Rattle.std.proofs.Common.{drop}
use Rattle.std.specs.List.{AllByRecursion}
use Rattle.tw_syntax.specs.Programs.{program_tree}
use Rattle.tw_resolve.specs.Declarations.{funs_of}
use Rattle.tw_lower.specs.Lowering.{IsBuiltFun}
use Rattle.tw_lower.proofs.Building.{Leaves}
use Rattle.tw_lower.proofs.built.is_built.Given as goal

abbrev pub invariant-loop-number : goal.invariant-loop-number
invariant-loop-number l =
    let funs = funs_of (program_tree l.program.program.now).decls in
    Leaves (AllByRecursion IsBuiltFun funs) (AllByRecursion IsBuiltFun (drop l.number funs))
