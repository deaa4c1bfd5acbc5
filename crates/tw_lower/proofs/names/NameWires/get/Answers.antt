use Rattle.std.proofs.Common.{◌∙◌}
use Rattle.tw_lower.proofs.names.NameWires.get.Goals as goal

pub returns : goal.returns
returns c = c.copied.ensures ∙ c.get.ensures.value
