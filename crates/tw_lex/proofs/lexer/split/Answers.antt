use Rattle.std.proofs.Common.{◌≡◌, ◌∙◌, sym, subst, List, map, rules}
use mathlib.Core.List.{append-nil}
use Rattle.std.proofs.lemmas.List.{map_push}
use Rattle.std.specs.Str.{chars}
use Rattle.tw_text.specs.Places.{first_place}
use Rattle.tw_lex.specs.Scans.{seen, IsToken}
use Rattle.tw_lex.specs.Tokens.{Lexed, HasTokens}
use Rattle.tw_lex.proofs.Endings.{refused_at}
use Rattle.tw_lex.proofs.Growing.{join, join_all, join_stop, all_push}
use Rattle.tw_lex.proofs.lexer.split.Goals as goal

pub loop-token-preserved : goal.loop-token-preserved
loop-token-preserved c = record {
  text = search rules;
  splits = rw (c.in-Ok.ensures.items, map_push seen c.loop-token.items.items _) (join c.loop-token.invariant.splits c.in-Token.ensures.0);
  texts = rw c.in-Ok.ensures.items (all_push IsToken c.loop-token.items.items _ c.loop-token.invariant.texts c.in-Token.ensures.1);
}

pub returns-in-End-clause-tokens : goal.returns-in-End-clause-tokens
returns-in-End-clause-tokens c =
    subst (λ (toks : List Lexed). HasTokens (chars c.args.text.now) first_place toks) (append-nil (map seen c.loop-token.items.items)) (join_all c.loop-token.invariant.splits c.in-End.ensures)

pub returns-in-Wrong-clause-refused : goal.returns-in-Wrong-clause-refused
returns-in-Wrong-clause-refused c r e =
    let same : c.broken.result ≡ r = cc in
    refused_at (chars c.args.text.now) _ r (join_stop c.loop-token.invariant.splits c.in-Wrong.ensures) (sym c.broken.ensures ∙ same)
