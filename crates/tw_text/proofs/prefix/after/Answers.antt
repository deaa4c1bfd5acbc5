use Rattle.tw_text.proofs.Prefixes.{after_from_strip_prefix}
use Rattle.tw_text.proofs.prefix.after.Goals as goal

pub returns : goal.returns
returns c = after_from_strip_prefix c.args.prefix.now c.args.bytes.now c.strip_prefix.result c.strip_prefix.ensures.cases
