use Rattle.std.proofs.Common.{◌∙◌, ap, sym, refl}
use Rattle.std.proofs.lemmas.List.{map-append}
use Rattle.indexmap.proofs.CallerLemmas.{insert_entry-new}
use Rattle.tw_resolve.specs.Entries.{funs_in}
use Rattle.tw_resolve.proofs.Entries.{absent, is_one_of-found, named_after}
use Rattle.tw_resolve.proofs.fun_table.FunTable.put.Goals as goal

pub invariant_of-self : goal.invariant_of-self
invariant_of-self c =
    let old = c.args.self.now in
    let fun = c.args.fun in
    record { keyed = named_after _ _ old.table.entries c.insert.new.self.entries fun.now.name.text fun c.insert.result c.insert.ensures.entries c.insert.ensures.err refl old.keyed }

pub returns : goal.returns
returns c =
    let old = c.args.self.now in
    let name = c.args.fun.now.name.text in
    let none = absent _ (sym (is_one_of-found _ _ old.table.entries old.keyed name.now) ∙ c.requires.new) in
    ap funs_in (c.in_ok-insert.ensures.entries ∙ insert_entry-new _ old.table name c.args.fun none)
    ∙ map-append _ old.table.entries _
