use Rattle.tw_lex.specs.Left.{left_of}
use Rattle.tw_lex.proofs.Cursors.{after_some}
use Rattle.tw_lex.proofs.cursor.Cursor.advance.Goals as goal

pub at-requires : goal.at-requires
at-requires c = (c.args.self.now.tokens, after_some c.args.self.now.current c.in-Some.field-0 _ _ c.in-Some.is c.args.self.now.counted)

pub returns-in-Some : goal.returns-in-Some
unfolding left_of
returns-in-Some c = rw c.in-Some.is (c.at.ensures c.args.self.now.tokens)
