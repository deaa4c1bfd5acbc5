use Rattle.std.proofs.Common.{◌∙◌, sym}
use Rattle.tw_lex.proofs.Growing.{newline, blank}
use Rattle.tw_lex.proofs.space.after_space.Goals as goal

pub returns-then-c-eq10-clause-some : goal.returns-then-c-eq10-clause-some
returns-then-c-eq10-clause-some c =
    rw (c.next_line.ensures.text, c.next_line.ensures.place) (newline c.args.suffix.text.now _ _ c.args.suffix.at c.in_ok-c.ensures.some c.if-c-eq10.true)

pub returns-then-is_blank-clause-some : goal.returns-then-is_blank-clause-some
returns-then-is_blank-clause-some c =
    rw (c.past.ensures.text, c.past.ensures.place) (blank c.args.suffix.text.now _ _ c.args.suffix.at c.in_ok-c.ensures.some (sym c.is_blank.ensures ∙ c.if-is_blank.true) c.if-c-eq10.false)
