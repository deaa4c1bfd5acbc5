use Rattle.std.proofs.Common.{arith}
use Rattle.std.proofs.Math.ListN.{drop_of_length-le}
use Rattle.std.proofs.lemmas.Option.{slice_get-get_or}
use Rattle.tw_ground.proofs.MakingLists.{items_step, items_done}
use Rattle.tw_ground.proofs.making.push_items.Goals as goal

pub loop-place-preserved : goal.loop-place-preserved
loop-place-preserved c =
    let items = c.args.items.now in
    let i = c.loop-place.place in
    let found = slice_get-get_or items i 0 c.loop-place-test.true in
    items_step c.loop-place.cells.items c.push.new.self.items c.in_ok-item_cell.field-0 _ items i _ c.first_of-next.result found c.in_ok-push.ensures.items c.in_ok-item_cell.ensures c.first_of-next.ensures
    c.loop-place.invariant

pub returns : goal.returns
returns c =
    record { cells = items_done c.loop-place.cells.items _ _ c.loop-place.place (drop_of_length-le c.args.items.now (omega (arith, c.loop-place-test.false))) c.loop-place.invariant }
