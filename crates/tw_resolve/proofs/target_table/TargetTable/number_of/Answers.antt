use Rattle.std.proofs.Common.{◌∙◌, ℕ, List, ap, sym, position, bytes_eq}
use Rattle.std.specs.Map.{keys_of}
use Rattle.tw_syntax.specs.Types.{written_tree, type_print}
use Rattle.tw_resolve.proofs.Entries.{position_of_text}
use Rattle.tw_resolve.proofs.target_table.TargetTable.number_of.Goals as goal

pub returns-in-Some : goal.returns-in-Some
returns-in-Some c =
    let entries = c.args.self.now.table.entries in
    sym c.in-Some.is ∙ c.get_index_of.ensures.index
    ∙ ap (λ (text : List ℕ). position (λ key. bytes_eq text key.now) (keys_of entries)) (c.as_str.ensures.value ∙ c.in_ok-text.ensures)
    ∙ position_of_text _ _ entries c.args.self.now.keyed (type_print (written_tree c.args.to.now))

pub returns : goal.returns
returns c =
    let entries = c.args.self.now.table.entries in
    sym c.in-None.is ∙ c.get_index_of.ensures.index
    ∙ ap (λ (text : List ℕ). position (λ key. bytes_eq text key.now) (keys_of entries)) (c.as_str.ensures.value ∙ c.in_ok-text.ensures)
    ∙ position_of_text _ _ entries c.args.self.now.keyed (type_print (written_tree c.args.to.now))
