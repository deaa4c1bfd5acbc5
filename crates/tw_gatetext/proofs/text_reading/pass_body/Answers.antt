use Rattle.std.proofs.Common.{◌≡◌, ℕ, arith, subst, ◌+◌, ◌++◌, [], ◌∷◌, refl}
use Rattle.std.proofs.lemmas.Result.{err_from_is_err_and}
use Rattle.tw_gatetext.specs.Lines.{InBody, Reaches}
use Rattle.tw_gatetext.specs.Reading.{head_seen}
use Rattle.tw_gatetext.proofs.TakenGates.{taken-none, taken-more, taken-small, taken-wrong}
use Rattle.tw_gatetext.proofs.text_reading.pass_body.Goals as goal

pub loop-lines-init : goal.loop-lines-init
loop-lines-init c = ([], taken-none (head_seen c.args.header.now) c.args.bytes.now [] refl)

pub overflow_add-sum : goal.overflow_add-sum
overflow_add-sum c =
    let so = c.loop-lines.invariant in
    let right = c.in_ok-weight.ensures.right in
    let small = taken-small (head_seen c.args.header.now) c.args.bytes.now c.loop-lines.lines so.0 c.loop-lines.sum c.loop-lines.rest.now (so.0 ++ right.0 ∷ []) c.in_ok-weight.weight so.1 (right.0, refl, right.2, right.1) in
    omega (arith, c.requires.few_gates)

pub returns-in_err-weight-clause-refused : goal.returns-in_err-weight-clause-refused
returns-in_err-weight-clause-refused c =
    let p = err_from_is_err_and c.from_residual.result c.from_residual.ensures.1 in
    let so = c.loop-lines.invariant in
    rw (p.1, p.2)
    (taken-wrong (head_seen c.args.header.now) c.args.bytes.now c.loop-lines.lines so.0 c.loop-lines.sum c.loop-lines.rest.now _ so.1
    (c.in_err-weight.ensures.refused so.0 (omega (arith, so.1.each, c.loop-lines-test.true))))

pub loop-lines-preserved : goal.loop-lines-preserved
loop-lines-preserved c =
    let so = c.loop-lines.invariant in
    let right = c.in_ok-weight.ensures.right in (
      so.0 ++ right.0 ∷ [],
      taken-more (head_seen c.args.header.now) c.args.bytes.now c.loop-lines.lines so.0 c.loop-lines.sum c.loop-lines.rest.now (so.0 ++ right.0 ∷ []) c.in_ok-weight.weight c.in_ok-weight.behind.now so.1
          (right.3 so.0 (omega (arith, so.1.each, c.loop-lines-test.true))) (right.0, refl, right.2, right.1),
    )

pub returns-clause-passed : goal.returns-clause-passed
returns-clause-passed c =
    let so = c.loop-lines.invariant in
    let whole : c.loop-lines.lines ≡ c.args.header.now.gates = omega arith in (
      so.0,
      omega (arith, so.1.each),
      so.1.counted,
      λ all chain. subst (λ (k : ℕ). Reaches all (5 + k) (InBody (head_seen c.args.header.now) so.0) c.loop-lines.rest.now) whole (so.1.chain all chain),
    )
