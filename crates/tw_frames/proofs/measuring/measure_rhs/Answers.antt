use Rattle.std.proofs.Common.{nat_eq}
use Rattle.indexmap.specs.IndexMap.{get}
use Rattle.std.proofs.Common.{map}
use Rattle.tw_syntax.specs.Names.{name_tree}
use Rattle.tw_resolve.specs.Resolved.{resolved_setting}
use Rattle.tw_frames.proofs.Finding.{found_call}
use Rattle.tw_frames.proofs.measuring.measure_rhs.Goals as goal

pub returns-in-Call : goal.returns-in-Call
returns-in-Call c =
    λ at forward target.
    rw (c.in-Call.is)
    (found_call (resolved_setting c.args.resolved.now) (get nat_eq c.args.known.now) c.args.own c.measure_callee.ensures c.one_more.ensures at forward target (map name_tree c.in-Call.args.now))
