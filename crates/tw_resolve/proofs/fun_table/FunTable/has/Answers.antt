use Rattle.std.proofs.Common.{◌∙◌, sym}
use Rattle.tw_resolve.proofs.Entries.{is_one_of-found}
use Rattle.tw_resolve.proofs.fun_table.FunTable.has.Goals as goal

pub returns : goal.returns
returns c =
    let funs = c.args.self.now in
    c.contains_key.ensures ∙ sym (is_one_of-found _ _ funs.table.entries funs.keyed c.args.name.now)
