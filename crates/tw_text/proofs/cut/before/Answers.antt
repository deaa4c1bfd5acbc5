use Rattle.tw_text.proofs.Suffixes.{boundary, spelled_apart}
use Rattle.tw_text.proofs.cut.before.Goals as goal

pub split_at-requires : goal.split_at-requires
split_at-requires c = boundary c.args.text.now c.args.rest.now c.requires c.utf8.rest

pub returns-clause-spelled : goal.returns-clause-spelled
returns-clause-spelled c = spelled_apart c.args.text.now c.args.rest.now _ c.requires c.utf8.text c.utf8.rest c.split_at.ensures.front
