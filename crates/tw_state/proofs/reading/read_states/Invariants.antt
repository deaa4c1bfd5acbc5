use Rattle.std.proofs.Common.{◌≡◌, ◌≢◌, ◌<◌, ◌≤◌, ◌+◌, [], List, ℕ, Some, length, map, slice_get}
use Rattle.tw_text.specs.declared.limits.TheConstants.{STATES_LIMIT}
use Rattle.tw_syntax.specs.Programs.{FunTree}
use Rattle.tw_resolve.specs.Resolved.{resolved_setting}
use Rattle.tw_state.specs.FromCode.{listed_of}
use Rattle.tw_state.specs.StateLines.{AtHead, Reaches}
use Rattle.tw_state.proofs.reading.read_states.Given as goal

abbrev pub invariant-loop-states : goal.invariant-loop-states
invariant-loop-states l = record {
  chain : (fun : FunTree) → slice_get (resolved_setting l.checked.resolved).funs l.entry.fun ≡ Some fun → Reaches (resolved_setting l.checked.resolved) l.side fun l.bytes l.lines (AtHead (map listed_of l.states.items)) l.rest;
  within : l.lines + length l.rest ≤ length l.bytes;
  few : length l.states.items < STATES_LIMIT;
  goes_on : l.rest ≡ [] → map listed_of l.states.items ≢ [];
}

abbrev pub decreases-loop-states : goal.decreases-loop-states
decreases-loop-states l = length l.rest
