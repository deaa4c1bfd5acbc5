use Rattle.tw_sim.proofs.Loading.{IsLoading}
use Rattle.tw_sim.proofs.transpose.load_lane.Given as goal

abbrev pub invariant-loop-wire : goal.invariant-loop-wire
invariant-loop-wire l = IsLoading l.place l.digits l.initial.words l.words l.wire
