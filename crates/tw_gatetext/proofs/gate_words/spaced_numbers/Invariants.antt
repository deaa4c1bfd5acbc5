use Rattle.std.proofs.Common.{◌≡◌, ◌-◌, ◌≤◌, length, take}
use Rattle.tw_gatetext.specs.declared.gate_words.TheConstants.{MOST_NUMBERS}
use Rattle.tw_gatetext.proofs.SpacedNumbers.{HasRead}
use Rattle.tw_gatetext.proofs.gate_words.spaced_numbers.Given as goal

abbrev pub invariant-loop-count : goal.invariant-loop-count
invariant-loop-count l = record {
  read : HasRead l.bytes (take l.count l.numbers) l.rest;
  room : length l.numbers ≡ MOST_NUMBERS;
  few : l.count ≤ MOST_NUMBERS;
}

abbrev pub decreases-loop-count : goal.decreases-loop-count
decreases-loop-count l = MOST_NUMBERS - l.count
