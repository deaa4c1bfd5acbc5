use Rattle.std.proofs.Common.{◌∷◌, ◌∙◌, sym}
use Rattle.tw_lex.specs.Scans.{word_kind}
use Rattle.tw_lex.specs.Symbols.{symbol_of}
use Rattle.tw_lex.proofs.Pieces.{found_letters}
use Rattle.tw_lex.proofs.next.after_scanned.Goals as goal

pub returns-then-starts_name-clause-some : goal.returns-then-starts_name-clause-some
returns-then-starts_name-clause-some c = (
  word_kind (symbol_of (c.args.first ∷ c.after_run-count.ensures.runs.run)),
  found_letters c.args.text.now c.args.following.now _ c.args.first _ c.requires.begins (sym c.starts_name.ensures ∙ c.if-starts_name.true) c.after_run-count.ensures,
)
