use Rattle.tw_lex.proofs.AsciiPrefixes.{not_nothing}
use Rattle.tw_lex.proofs.leading.wide_char.Goals as goal

pub unreachable-requires : goal.unreachable-requires
unreachable-requires c = not_nothing c.args.text.now c.utf8.text c.requires c.in_default.ensures.none
