use Rattle.std.proofs.Common.{rules}
use Rattle.std.specs.Str.{chars}
use Rattle.tw_lex.proofs.Pieces.{found_operator, no_operator}
use Rattle.tw_lex.proofs.operator.operator.Goals as goal

pub returns-in_err-symbol-clause-none : goal.returns-in_err-symbol-clause-none
returns-in_err-symbol-clause-none c =
    let none = rw c.starting_with.ensures at c.in_err-symbol.ensures.none in
    rw c.from_residual.ensures (no_operator c.args.first (chars c.args.following.now) c.args.text.now c.requires.begins.spelled none)

pub returns-clause-some : goal.returns-clause-some
returns-clause-some c =
    let found = rw c.starting_with.ensures at c.in_ok-symbol.ensures.found in
    rw c.text.ensures (found_operator c.args.first (chars c.args.following.now) c.args.text.now _ _ c.requires.begins.spelled c.requires.starts found c.in_ok-symbol.ensures.follows c.utf8.text (search rules))
