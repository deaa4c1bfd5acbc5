use Rattle.std.proofs.Common.{◌≡◌, ℕ, arith, subst, ◌+◌}
use Rattle.std.proofs.lemmas.Result.{err_from_is_err_and}
use Rattle.tw_gatetext.specs.Lines.{InBody, Reaches}
use Rattle.tw_gatetext.specs.Reading.{head_seen}
use Rattle.tw_gatetext.proofs.TakenGates.{taken-none, taken-more, taken-small, taken-refused}
use Rattle.tw_gatetext.proofs.reading.read_body.Goals as goal

pub loop-lines-init : goal.loop-lines-init
loop-lines-init c = taken-none (head_seen c.args.header.now) c.args.bytes.now c.new-gates.result c.new-gates.ensures

pub take_gate-requires-clause-more : goal.take_gate-requires-clause-more
take_gate-requires-clause-more c = omega (arith, c.loop-lines.invariant.each, c.loop-lines-test.true)

pub overflow_add-t_count : goal.overflow_add-t_count
overflow_add-t_count c =
    let small = taken-small (head_seen c.args.header.now) c.args.bytes.now c.loop-lines.lines c.loop-lines.gates c.loop-lines.t_count c.loop-lines.rest.now _ c.in_ok-weight.weight c.loop-lines.invariant c.in_ok-weight.ensures.taken in
    omega (arith, c.requires.few_gates)

pub returns-in_err-weight-clause-refused : goal.returns-in_err-weight-clause-refused
returns-in_err-weight-clause-refused c =
    let p = err_from_is_err_and c.from_residual.result c.from_residual.ensures.1 in
    rw (p.1, p.2)
    (taken-refused (head_seen c.args.header.now) c.args.bytes.now c.loop-lines.lines c.loop-lines.gates c.loop-lines.t_count c.loop-lines.rest.now _ c.loop-lines.invariant c.in_err-weight.ensures.refused)

pub loop-lines-preserved : goal.loop-lines-preserved
loop-lines-preserved c =
    taken-more (head_seen c.args.header.now) c.args.bytes.now c.loop-lines.lines c.loop-lines.gates c.loop-lines.t_count c.loop-lines.rest.now c.take_gate.new.gates c.in_ok-weight.weight c.in_ok-weight.behind.now c.loop-lines.invariant
    c.in_ok-weight.ensures.right c.in_ok-weight.ensures.taken

pub returns-clause-read : goal.returns-clause-read
returns-clause-read c = λ all chain.
    let whole : c.loop-lines.lines ≡ c.args.header.now.gates = omega arith in
    subst (λ (k : ℕ). Reaches all (5 + k) (InBody (head_seen c.args.header.now) c.loop-lines.gates) c.loop-lines.rest.now) whole (c.loop-lines.invariant.chain all chain)

pub returns-clause-counted : goal.returns-clause-counted
returns-clause-counted c = (omega (arith, c.loop-lines.invariant.each), c.loop-lines.invariant.counted)
