use Rattle.std.proofs.Common.{rules}
use Rattle.tw_lex.proofs.Pieces.{found_long, found_short}
use Rattle.tw_lex.proofs.operator.longer.Goals as goal

pub returns-in-Some : goal.returns-in-Some
returns-in-Some c =
    found_long c.args.first c.args.second c.args.text.now c.args.following.now _ c.args.long c.args.short c.requires.begins c.in-Some.ensures.some c.requires.starts c.requires.list c.requires.long c.utf8.text (search rules)

pub returns-in-None : goal.returns-in-None
returns-in-None c =
    found_short c.args.first c.args.second c.args.text.now c.args.following.now c.args.long c.args.short c.requires.begins c.in-None.ensures.none c.requires.starts c.requires.list c.requires.long c.requires.short c.utf8.text c.utf8.following
