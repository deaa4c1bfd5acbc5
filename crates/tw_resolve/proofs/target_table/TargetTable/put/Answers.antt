use denote.Bor.{Bor}
use Rattle.std.proofs.Common.{◌∙◌, ◌<◌, ℕ, List, length, position, bytes_eq, is_some, ap, sym, arith}
use Rattle.std.specs.Map.{keys_of}
use Rattle.std.proofs.lemmas.List.{map-append}
use Rattle.indexmap.proofs.CallerLemmas.{insert_entry-new}
use Rattle.indexmap.proofs.MapLemmas.{some_index}
use Rattle.tw_syntax.specs.Types.{written_tree, type_print}
use Rattle.tw_resolve.specs.Entries.{table_targets}
use Rattle.tw_resolve.proofs.Entries.{absent, position_of_text, few_after, named_after}
use Rattle.tw_resolve.proofs.target_table.TargetTable.put.Goals as goal

pub invariant_of-self : goal.invariant_of-self
invariant_of-self c =
    let old = c.args.self.now in
    let key = c.in_ok-key.key in
    let text = c.in_ok-key.ensures ∙ c.as_str.ensures.value ∙ c.in_ok-text.ensures in
    let room : length old.table.entries < 4294967295 = omega (arith, c.if-len-ge4294967295.false, c.len.ensures.len) in
    record {
      keyed = named_after _ _ old.table.entries c.insert.new.self.entries key c.args.to c.insert.result c.insert.ensures.entries c.insert.ensures.err text old.keyed;
      few = few_after old.table.entries c.insert.new.self.entries key c.args.to c.insert.result 4294967295 c.insert.ensures.entries c.insert.ensures.err room;
    }

pub returns : goal.returns
returns c =
    let old = c.args.self.now in
    let key = c.in_ok-key.key in
    let text = c.in_ok-key.ensures ∙ c.as_str.ensures.value ∙ c.in_ok-text.ensures in
    let none = ap (λ (t : List ℕ). position (λ k. bytes_eq t k.now) (keys_of old.table.entries)) text
    ∙ position_of_text _ _ old.table.entries old.keyed (type_print (written_tree c.args.to.now)) ∙ c.requires.new in
    let new = absent _ (sym (some_index (λ (k : Bor (List ℕ)). bytes_eq key.now k.now) old.table.entries) ∙ ap is_some none) in
    ap table_targets (c.in_ok-insert.ensures.entries ∙ insert_entry-new _ old.table key c.args.to new)
    ∙ map-append _ old.table.entries _
