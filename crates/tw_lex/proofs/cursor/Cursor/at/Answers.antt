use Rattle.std.proofs.Common.{◌∙◌, ap, length}
use Rattle.tw_lex.specs.Left.{left_of}
use Rattle.tw_lex.proofs.Cursors.{after_one, after_same, no_stop}
use Rattle.tw_lex.proofs.cursor.Cursor.at.Goals as goal

pub invariant_of-result : goal.invariant_of-result
invariant_of-result c =
    let more = after_one _ _ _ _ _ c.requires.0 c.in-Token.ensures.0 in
    record { tokens = more.0; counted = c.requires.1 ∙ ap length more.1 }

pub returns-in-Token : goal.returns-in-Token
unfolding left_of
returns-in-Token c toks = let same = after_same _ _ _ _ _ toks c.in-Token.ensures.0 in search same

pub unreachable-requires : goal.unreachable-requires
unreachable-requires c = no_stop _ _ _ c.requires.0 c.in-Wrong.ensures
