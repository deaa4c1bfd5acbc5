use Rattle.std.proofs.Common.{◌∙◌, ap, sym}
use Rattle.std.proofs.lemmas.List.{map-append}
use Rattle.indexmap.proofs.CallerLemmas.{insert_entry-new}
use Rattle.tw_types.specs.FromCode.{ty_of}
use Rattle.tw_resolve.specs.Variables.{variables_in}
use Rattle.tw_resolve.proofs.Declaring.{is_some-type, with_known, with_new}
use Rattle.tw_resolve.proofs.Entries.{absent}
use Rattle.tw_resolve.proofs.variables.Variables.add.Goals as goal

pub returns-then-contains_key : goal.returns-then-contains_key
returns-then-contains_key c =
    let entries = c.args.self.now.table.entries in
    rw c.in-Some.is
    (with_known (variables_in entries) c.args.name.now (ty_of c.in-Some.ty) (is_some-type entries c.args.name.now ∙ sym c.if-contains_key.ensures))

pub returns : goal.returns
returns c =
    let table = c.args.self.now.table in
    let name = c.args.name in
    rw c.in-Some.is
    (ap variables_in (c.in_ok-insert.ensures.entries ∙ insert_entry-new _ table name c.in-Some.ty (absent _ (sym c.if-contains_key.ensures)))
    ∙ map-append _ table.entries _
    ∙ with_new (variables_in table.entries) name.now (ty_of c.in-Some.ty) (is_some-type table.entries name.now ∙ sym c.if-contains_key.ensures))
