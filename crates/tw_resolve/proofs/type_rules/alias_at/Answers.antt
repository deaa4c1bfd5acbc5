use denote.Bor.{Bor}
use Rattle.tw_syntax.specs.declared.program.Alias.{Alias}
use Rattle.tw_syntax.specs.Programs.{alias_tree}
use Rattle.tw_resolve.proofs.AtPlaces.{value_at}
use Rattle.tw_resolve.proofs.type_rules.alias_at.Goals as goal

pub returns : goal.returns
returns c = value_at (λ (alias : Bor Alias). alias_tree alias.now) c.args.tables.now.aliases.table.entries c.args.place c.index.result.now c.index.ensures
