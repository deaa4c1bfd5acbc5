use Rattle.tw_syntax.specs.Types.{written_tree}
use Rattle.tw_resolve.specs.Declarations.{declared_as}
use Rattle.tw_resolve.specs.Names.{declared_rules}
use Rattle.tw_resolve.specs.Entries.{aliases_in}
use Rattle.tw_resolve.proofs.Ending.{stopped_before, went_on}
use Rattle.tw_resolve.proofs.names.+names_known.Goals as goal

pub returns-in_err-names_known-in-Pair : goal.returns-in_err-names_known-in-Pair
returns-in_err-names_known-in-Pair t c =
    let declared = declared_as (aliases_in c.args.aliases.now.table.entries) in
    rw c.in-Pair.is (stopped_before (declared_rules declared (written_tree c.in-Pair.first.now)) (declared_rules declared (written_tree c.in-Pair.second.now)) c.in_err-names_known-in-Pair.field-0.0 c.in_err-names_known-in-Pair.ensures.reported c.from_residual.result c.from_residual.ensures.1)

pub returns-in_ok-names_known-in-Pair : goal.returns-in_ok-names_known-in-Pair
returns-in_ok-names_known-in-Pair t c =
    let declared = declared_as (aliases_in c.args.aliases.now.table.entries) in
    rw c.in-Pair.is (went_on (declared_rules declared (written_tree c.in-Pair.first.now)) (declared_rules declared (written_tree c.in-Pair.second.now)) c.names_known-in-Pair.result c.in_ok-names_known-in-Pair.ensures.kept c.names_known-in-Pair.ensures)
