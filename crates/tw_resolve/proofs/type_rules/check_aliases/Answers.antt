use Rattle.std.proofs.Common.{◌∙◌}
use Rattle.tw_resolve.specs.Entries.{aliases_in}
use Rattle.tw_resolve.specs.Programs.{alias_rules}
use Rattle.tw_resolve.specs.Tables.{setting_in}
use Rattle.tw_resolve.proofs.AtPlaces.{each_stopped, each_kept}
use Rattle.tw_resolve.proofs.Trying.{tries_same}
use Rattle.tw_resolve.proofs.type_rules.check_aliases.Goals as goal

pub returns-in_err-check_alias : goal.returns-in_err-check_alias
returns-in_err-check_alias c =
    tries_same _ _ _ c.loop-place.invariant
    (each_stopped (alias_rules (setting_in c.args.tables.now)) (aliases_in c.args.tables.now.aliases.table.entries) c.loop-place.place _ c.alias_at.ensures
    _ _ c.in_err-check_alias.ensures c.from_residual.ensures.1)

pub loop-place-preserved : goal.loop-place-preserved
loop-place-preserved c =
    c.loop-place.invariant
    ∙ each_kept (alias_rules (setting_in c.args.tables.now)) (aliases_in c.args.tables.now.aliases.table.entries) c.loop-place.place _ c.alias_at.ensures
    _ c.in_ok-check_alias.ensures
