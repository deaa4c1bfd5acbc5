use Rattle.std.proofs.Common.{◌∙◌, sym}
use Rattle.tw_resolve.proofs.Entries.{is_one_of-found}
use Rattle.tw_resolve.proofs.alias_table.AliasTable.has.Goals as goal

pub returns : goal.returns
returns c =
    let aliases = c.args.self.now in
    c.contains_key.ensures ∙ sym (is_one_of-found _ _ aliases.table.entries aliases.keyed c.args.name.now)
