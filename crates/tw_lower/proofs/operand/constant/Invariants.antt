use Rattle.std.proofs.Common.{◌≡◌, ◌-◌, ◌++◌}
use Rattle.tw_bits.specs.Numbers.{number_bits}
use Rattle.tw_lower.proofs.operand.constant.Given as goal

abbrev pub invariant-loop : goal.invariant-loop
invariant-loop l = l.bits.items ++ number_bits (l.width - l.counter) l.rest ≡ number_bits l.width l.initial.rest
