use Rattle.std.proofs.Common.{length}
use Rattle.tw_resolve.specs.Resolved.{resolved_setting}
use Rattle.tower.proofs.RepliesSoFar.{IsRunSoFar}
use Rattle.tower.proofs.replies.replies_to.Given as goal

abbrev pub invariant-loop-state : goal.invariant-loop-state
invariant-loop-state l = IsRunSoFar (resolved_setting l.fn.checked.resolved) l.fn.entry.fun l.fn.entry.bound l.fn.back l.fn.states.items l.states.items l.replies.items

abbrev pub decreases-loop-state : goal.decreases-loop-state
decreases-loop-state l = length l.states.items
