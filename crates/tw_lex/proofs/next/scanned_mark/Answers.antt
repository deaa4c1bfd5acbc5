use Rattle.std.proofs.Common.{◌∙◌, sym}
use Rattle.std.specs.Str.{chars}
use Rattle.tw_lex.proofs.Pieces.{none_by_digit, none_by_operator, if_none}
use Rattle.tw_lex.proofs.next.scanned_mark.Goals as goal

pub returns-then-is_ascii_digit-clause-none : goal.returns-then-is_ascii_digit-clause-none
returns-then-is_ascii_digit-clause-none c =
    if_none _ (none_by_digit c.args.first (chars c.args.following.now) c.requires.begins.spelled (sym c.is_ascii_digit.ensures.value ∙ c.if-is_ascii_digit.true)) c.number.ensures.none

pub returns-clause-none : goal.returns-clause-none
returns-clause-none c =
    if_none _ (none_by_operator c.args.first (chars c.args.following.now) c.requires.begins.spelled c.requires.starts (sym c.is_ascii_digit.ensures.value ∙ c.if-is_ascii_digit.false)
    c.requires.no_blank c.requires.no_comment) c.operator.ensures.none
