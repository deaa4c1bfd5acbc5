use Rattle.std.proofs.Common.{◌≡◌, map, drop}
use Rattle.tw_syntax.specs.Names.{name_tree}
use Rattle.tw_resolve.specs.Demands.{first_broken}
use Rattle.tw_check.specs.Rules.{operand_rules}
use Rattle.tw_check.specs.Walks.{set_of}
use Rattle.tw_check.proofs.statement.check_operands.Given as goal

abbrev pub invariant-loop-name : goal.invariant-loop-name
invariant-loop-name l =
    first_broken (operand_rules (set_of l.walk.held) (set_of l.walk.live) (name_tree l.target) l.are_written (map name_tree (drop l.name-index l.names)))
    ≡ first_broken (operand_rules (set_of l.walk.held) (set_of l.walk.live) (name_tree l.target) l.are_written (map name_tree l.names))
