use Rattle.std.proofs.Common.{rules}
use Rattle.tw_lex.proofs.Pieces.{found_swap, found_assign, found_less}
use Rattle.tw_lex.proofs.operator.less.Goals as goal

pub returns-in_default : goal.returns-in_default
returns-in_default c = found_less c.args.text.now c.args.following.now c.requires.begins c.in_default.ensures.none c.requires.starts c.utf8.text c.utf8.following

pub returns-in-Some-after_char : goal.returns-in-Some-after_char
returns-in-Some-after_char c =
    found_swap c.args.text.now c.args.following.now _ _ c.requires.begins c.in-Some.ensures.some c.in-Some-after_char.ensures.some c.requires.starts c.utf8.text (search rules)

pub returns-in-None : goal.returns-in-None
returns-in-None c =
    found_assign c.args.text.now c.args.following.now _ c.requires.begins c.in-Some.ensures.some c.in-None.ensures.none c.requires.starts c.utf8.text (search rules)
