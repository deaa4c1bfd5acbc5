use Rattle.std.proofs.Common.{◌∙◌, ap}
use Rattle.tw_gatetext.specs.Lines.{InBody}
use Rattle.tw_gatetext.specs.Refused.{mcx_limit, controls_limit}
use Rattle.tw_gatetext.proofs.HeaderLines.{refused_limited}
use Rattle.tw_gatetext.proofs.BodyLines.{limit_before}
use Rattle.tw_gatetext.proofs.reading.refused_gate_line.Goals as goal

pub returns-in-Mcx : goal.returns-in-Mcx
returns-in-Mcx c =
    record {
      refused = λ head gates same more no_line.
          refused_limited (InBody head gates) mcx_limit c.args.bytes.now c.args.line c.refused_line.result tt
          (limit_before head gates more ∙ ap controls_limit (same ∙ c.in-Mcx.is)) no_line c.refused_line.ensures;
    }
