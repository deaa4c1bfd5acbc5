use Rattle.std.proofs.Common.{◌∙◌, sym, ap, map, length}
use Rattle.std.proofs.lemmas.List.{length-map}
use Rattle.tw_state.specs.FromCode.{cell_of, listed_of}
use Rattle.tw_state.proofs.FreeChains.{formed_tested}
use Rattle.tw_state.proofs.free_cells.well_formed.Goals as goal

pub returns-then-len-block_count : goal.returns-then-len-block_count
returns-then-len-block_count c =
    formed_tested c.args.widths (listed_of c.args.state.now) c.ends_after.result (map cell_of c.deref.result.now) (map cell_of c.deref-then-len-block_count.result.now) c.count_free.result
    (ap (map cell_of) c.deref.ensures.value) (ap (map cell_of) c.deref-then-len-block_count.ensures.value) c.count_free.ensures
    (length-map c.args.state.now.cells.items cell_of ∙ (ap length (sym c.deref.ensures.value) ∙ c.deref.ensures.len ∙ sym c.len.ensures ∙ c.if-len-block_count.true ∙ c.block_count.ensures)) c.ends_after.ensures
