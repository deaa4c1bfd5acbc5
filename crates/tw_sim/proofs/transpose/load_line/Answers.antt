use Rattle.std.proofs.Common.{length}
use Rattle.tw_sim.specs.Lanes.{lane}
use Rattle.tw_sim.proofs.FrontLine.{line_loaded}
use Rattle.tw_sim.proofs.transpose.load_line.Goals as goal

pub returns-clause-lane : goal.returns-clause-lane
returns-clause-lane c =
    let line = c.requires.line in
    line_loaded (length c.args.words.now) c.args.text.now line.0 line.1 line.2 line.3 (lane c.args.place c.load_lane.new.words) c.load_lane.ensures.lane
