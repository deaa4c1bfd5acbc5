use Rattle.std.proofs.Common.{◌∙◌, ap, sym, ◌++◌}
use Rattle.std.specs.Str.{chars}
use Rattle.tw_lex.proofs.SymbolTexts.{prefix_here, prefix_next, chars-symbol}
use Rattle.tw_lex.proofs.operator.front_symbol.Goals as goal

pub returns-in-Some-clause-found : goal.returns-in-Some-clause-found
returns-in-Some-clause-found c =
    let follows = rw c.text.ensures at c.in-Some.ensures.some in
    prefix_here c.args.list.now c.loop-symbol.symbol-index _ (chars c.args.text.now) _ c.loop-symbol-test.true c.loop-symbol.invariant (follows.spelled ∙ ap (λ cs. cs ++ chars c.in-Some.rest.now) (chars-symbol _))

pub returns-in-Some-clause-follows : goal.returns-in-Some-clause-follows
returns-in-Some-clause-follows c = rw c.text.ensures at c.in-Some.ensures.some

pub loop-symbol-preserved : goal.loop-symbol-preserved
loop-symbol-preserved c =
    let none = rw c.text.ensures at c.in_default.ensures.none in
    prefix_next c.args.list.now c.loop-symbol.symbol-index _ (chars c.args.text.now) c.loop-symbol-test.true c.loop-symbol.invariant (λ mid e. none mid (e ∙ ap (λ cs. cs ++ mid) (sym (chars-symbol _))))
