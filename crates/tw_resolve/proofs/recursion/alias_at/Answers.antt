use Rattle.std.proofs.Common.{◌∙◌, ap, sym, option_map}
use Rattle.std.proofs.lemmas.Option.{slice_get-map}
use Rattle.tw_syntax.specs.Programs.{alias_tree}
use Rattle.tw_resolve.proofs.recursion.alias_at.Goals as goal

pub returns : goal.returns
returns c =
    slice_get-map (λ entry. alias_tree entry.1.now) c.args.aliases.now.table.entries c.args.place
    ∙ ap (option_map (λ entry. alias_tree entry.1.now)) (sym c.get_index.ensures.entry ∙ ap (option_map (λ entry. (entry.0.now, entry.1.now))) c.unwrap.ensures)
