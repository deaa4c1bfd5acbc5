use Rattle.std.proofs.Common.{◌≡◌, drop, flat_map}
use Rattle.tw_resolve.specs.Demands.{first_broken}
use Rattle.tw_resolve.specs.Entries.{aliases_in}
use Rattle.tw_resolve.specs.Programs.{alias_rules}
use Rattle.tw_resolve.specs.Tables.{setting_in}
use Rattle.tw_resolve.proofs.type_rules.check_aliases.Given as goal

abbrev pub invariant-loop-place : goal.invariant-loop-place
invariant-loop-place l =
    first_broken (flat_map (alias_rules (setting_in l.tables)) (aliases_in l.tables.aliases.table.entries))
    ≡ first_broken (flat_map (alias_rules (setting_in l.tables)) (drop l.place (aliases_in l.tables.aliases.table.entries)))
