use Rattle.std.proofs.Common.{take, arith, rules}
use Rattle.std.proofs.lemmas.List.{take_more_set, length-take}
use Rattle.tw_gatetext.proofs.SpacedNumbers.{read-more, read-whole, read-none, read-full}
use Rattle.tw_gatetext.proofs.gate_words.spaced_numbers.Goals as goal

pub returns-in-Some-clause-some : goal.returns-in-Some-clause-some
returns-in-Some-clause-some c = read-whole c.args.bytes.now _ _ _ c.loop-count.invariant.read c.in-Some.ensures

pub returns-in_err-number-clause-none : goal.returns-in_err-number-clause-none
returns-in_err-number-clause-none c =
    rw c.from_residual.ensures (λ ns rest few words e. read-none c.args.bytes.now _ _ ns rest c.loop-count.invariant.read c.in_default.ensures c.in_err-number.ensures.none words e)

pub loop-count-preserved : goal.loop-count-preserved
loop-count-preserved c = record {
  read = read-more c.args.bytes.now _ _ _ _ _ c.loop-count.invariant.read c.in_ok-number.ensures.some c.in_ok-number.ensures.only (search rules)
      (take_more_set c.loop-count.numbers c.loop-count.count c.in_ok-number.number (search rules));
  room = search rules;
  few = omega (arith, c.loop-count-test.true, c.loop-count.invariant.room);
}

pub returns-in_err-behind-clause-none : goal.returns-in_err-behind-clause-none
returns-in_err-behind-clause-none c =
    rw c.from_residual-in_err-behind.ensures
    (λ ns rest few words e.
    read-full c.args.bytes.now (take c.loop-count.count c.loop-count.numbers) _ ns rest c.loop-count.invariant.read c.in_err-behind.ensures
    (omega (arith, few, c.loop-count-test.false, c.loop-count.invariant.room, length-take c.loop-count.count c.loop-count.numbers)) words e)

pub returns-clause-some : goal.returns-clause-some
returns-clause-some c = read-whole c.args.bytes.now _ _ _ c.loop-count.invariant.read c.in_ok-behind.ensures
