use Rattle.std.proofs.Common.{◌∙◌, bytes_eq}
use Rattle.tw_resolve.specs.Sizes.{IsSized}
use Rattle.tw_resolve.proofs.Entries.{found_has}
use Rattle.tw_resolve.proofs.type_table.TypeTable.get.Goals as goal

pub returns-clause-sizes : goal.returns-clause-sizes
returns-clause-sizes c =
    let table = c.args.self.now in
    rw (c.copied.ensures ∙ c.get.ensures.value) (found_has (IsSized table.widths) (λ key. bytes_eq c.args.name.now key.now) table.table.entries table.sized)
