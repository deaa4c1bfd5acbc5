use Rattle.std.proofs.Common.{◌∙◌, sym, ap}
use Rattle.tw_lex.specs.Scans.{word_kind}
use Rattle.tw_lex.proofs.SymbolTexts.{symbol_of-first}
use Rattle.tw_lex.proofs.word.kind_of.Goals as goal

pub returns-in-Some : goal.returns-in-Some
returns-in-Some c =
    ap word_kind (sym c.in-Some.is ∙ c.symbol_from.ensures ∙ symbol_of-first c.args.first c.requires.0 c.args.text.now c.utf8.text c.requires.1)

pub returns-in-None : goal.returns-in-None
returns-in-None c =
    ap word_kind (sym c.in-None.is ∙ c.symbol_from.ensures ∙ symbol_of-first c.args.first c.requires.0 c.args.text.now c.utf8.text c.requires.1)
