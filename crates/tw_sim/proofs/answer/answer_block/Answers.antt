use Rattle.std.proofs.Common.{sym}
use Rattle.tw_sim.specs.Lanes.{lanes}
use Rattle.tw_sim.proofs.Blocks.{HaveWires-lanes, lanes_acted}
use Rattle.tw_sim.proofs.answer.answer_block.Goals as goal

pub returns-clause-answered : goal.returns-clause-answered
returns-clause-answered c =
    let count = c.load-count.result.0 in
    let loaded = c.load-count.new.words in
    let acted = lanes_acted c.args.gates.now loaded c.act_list_on_lanes.new.words count c.load-count.ensures.few c.act_list_on_lanes.ensures.acted in (
      lanes count loaded,
      HaveWires-lanes _ count loaded (sym c.load-count.ensures.len),
      c.load-count.ensures.read,
      rw acted at c.in_ok-store.ensures,
    )
