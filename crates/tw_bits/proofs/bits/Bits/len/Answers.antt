use Rattle.std.proofs.Common.{◌∙◌, sym, ap, length}
use Rattle.tw_bits.proofs.Laws.{length-number_bits}
use Rattle.tw_bits.proofs.bits.Bits.len.Goals as goal

pub returns : goal.returns
returns c = sym (ap length (sym c.self.view_is) ∙ length-number_bits _ _)
