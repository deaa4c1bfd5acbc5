use Rattle.std.proofs.Common.{◌≡◌, ◌∙◌, ap, subst, length}
use Rattle.tw_io.specs.Devices.{Wrote}
use Rattle.tw_resolve.specs.Resolved.{resolved_setting}
use Rattle.tw_state.specs.FromCode.{listed_of}
use Rattle.tw_state.proofs.Basics.{same_some}
use Rattle.tw_sim.specs.BitLines.{bit_line}
use Rattle.tower.specs.Encode.{encoding}
use Rattle.tower.proofs.encode.write_encoding.Goals as goal

pub returns-clause-wrote : goal.returns-clause-wrote
returns-clause-wrote g c = λ fun there.
    let encoded = c.encode_state.ensures.bits in
    let bits = subst (λ f. c.encode_state.new.bits ≡ encoding (length c.args.bits.now) (resolved_setting c.args.checked.now.resolved) c.args.side f (listed_of c.args.state.now)) (same_some encoded.1 there) encoded.2 in
    subst (λ text. Wrote g.K.Sink.taken g.K.Sink.faults c.args.output.now c.write_all.new.sink c.write_all.result text) (c.move_bits.ensures.line ∙ ap bit_line bits) c.write_all.ensures.wrote
