use Rattle.std.proofs.Common.{◌≡◌, ◌++◌, take, length}
use Rattle.tw_gate.proofs.list.push_all.Given as goal

abbrev pub invariant-loop-control : goal.invariant-loop-control
invariant-loop-control l = record {
  pushed : l.pool.items ≡ l.fn.pool.items ++ take l.control-index l.controls;
  len : l.len ≡ length l.fn.pool.items;
}
