use Rattle.tw_lex.proofs.Pieces.{no_comment}
use Rattle.tw_lex.proofs.space.begins_comment.Goals as goal

pub returns-in-Some-clause-yes : goal.returns-in-Some-clause-yes
returns-in-Some-clause-yes c is = (_, c.in-Some.ensures.some)

pub returns-in-None-clause-no : goal.returns-in-None-clause-no
returns-in-None-clause-no c is = no_comment c.args.text.now c.in-None.ensures.none
