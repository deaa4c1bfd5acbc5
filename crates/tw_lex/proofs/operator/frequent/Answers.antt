use Rattle.tw_lex.proofs.Pieces.{found_single}
use Rattle.tw_lex.proofs.operator.frequent.Goals as goal

pub returns-in_ok-symbol-in_default : goal.returns-in_ok-symbol-in_default
returns-in_ok-symbol-in_default c =
    found_single c.args.first c.args.text.now c.args.following.now _ c.requires.begins c.requires.starts c.in_ok-symbol-in_default.ensures.only c.in_ok-symbol-in_default.ensures.text c.utf8.text c.utf8.following
