use Rattle.tw_gatetext.proofs.LastLines.{without_last, found_last, found_none}
use Rattle.tw_gatetext.proofs.inverting.last_line_at.Goals as goal

pub returns-in-Some-clause-place : goal.returns-in-Some-clause-place
returns-in-Some-clause-place c front line ends none is = found_last _ front line c.in-Some.end ends none (without_last c.args.text.now front line is) c.in-Some.ensures

pub returns-in-None-clause-place : goal.returns-in-None-clause-place
returns-in-None-clause-place c front line ends none is = found_none _ front line ends (without_last c.args.text.now front line is) c.in-None.ensures
