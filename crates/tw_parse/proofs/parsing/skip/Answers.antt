use Rattle.std.proofs.Common.{◌∙◌, ap}
use Rattle.tw_lex.specs.Cursors.{after_first}
use Rattle.tw_parse.proofs.code.Lefts.{after_first-drop}
use Rattle.tw_parse.proofs.parsing.skip.Goals as goal

pub loop-preserved : goal.loop-preserved
loop-preserved c = c.advance.ensures ∙ ap after_first c.loop.invariant ∙ after_first-drop c.loop.counter _
