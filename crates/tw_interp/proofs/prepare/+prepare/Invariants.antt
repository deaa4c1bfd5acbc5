use Rattle.std.proofs.Common.{◌≡◌, map, take}
use Rattle.tw_syntax.specs.Statements.{stmt_tree, stmts_tree}
use Rattle.tw_resolve.specs.Resolved.{resolved_setting}
use Rattle.tw_interp.specs.Numbered.{AreKnown, AreNumbered, numbered_names}
use Rattle.tw_interp.specs.NumberedTrees.{step_tree}
use Rattle.tw_interp.proofs.prepare.+prepare.Given as goal

abbrev pub invariant-prepare-loop-stmt : goal.invariant-prepare-loop-stmt
invariant-prepare-loop-stmt l =
    (map step_tree l.steps.items ≡ map stmt_tree (take l.stmt-index l.stmts))
    × (AreKnown (numbered_names (resolved_setting l.numbering.program.now) l.numbering.fun) (stmts_tree l.stmts)
    → AreNumbered (resolved_setting l.numbering.program.now) l.numbering.fun l.steps.items)
