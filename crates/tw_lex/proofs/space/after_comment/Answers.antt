use Rattle.tw_lex.proofs.Growing.{comment, comment-shorter}
use Rattle.tw_lex.proofs.space.after_comment.Goals as goal

pub returns-then-not-begins_comment-clause-none : goal.returns-then-not-begins_comment-clause-none
returns-then-not-begins_comment-clause-none c = c.begins_comment.ensures.no c.if-not-begins_comment.true

pub returns-clause-some : goal.returns-clause-some
returns-clause-some c =
    let f = c.begins_comment.ensures.yes c.if-not-begins_comment.false in
    rw (c.past.ensures.text, c.past.ensures.place) (comment c.args.suffix.text.now f.0 _ _ c.args.suffix.at f.1 c.after_line-rest.ensures)

pub returns-clause-shorter : goal.returns-clause-shorter
returns-clause-shorter c =
    let f = c.begins_comment.ensures.yes c.if-not-begins_comment.false in
    rw c.past.ensures.text (comment-shorter c.args.suffix.text.now f.0 _ _ f.1 c.after_line-rest.ensures)
