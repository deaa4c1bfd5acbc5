use Rattle.std.proofs.Common.{refl}
use Rattle.tw_resolve.proofs.Entries.{declared_as-found}
use Rattle.tw_resolve.proofs.alias_table.AliasTable.get.Goals as goal

pub returns-in-Some : goal.returns-in-Some
returns-in-Some c =
    let aliases = c.args.self.now in
    rw (declared_as-found aliases.table.entries aliases.keyed c.args.name.now, ← c.in-Some.ensures.value) refl

pub returns-in-None : goal.returns-in-None
returns-in-None c =
    let aliases = c.args.self.now in
    rw (declared_as-found aliases.table.entries aliases.keyed c.args.name.now, ← c.in-None.ensures.value) refl
