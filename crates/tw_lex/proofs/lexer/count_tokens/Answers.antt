use Rattle.std.proofs.Common.{◌≡◌, ◌∙◌, sym, subst, List, [], ◌∷◌, ◌++◌, length-append, rules, arith}
use mathlib.Core.List.{append-nil}
use Rattle.std.specs.Str.{chars}
use Rattle.tw_text.specs.Places.{first_place}
use Rattle.tw_lex.specs.Tokens.{Lexed, HasTokens}
use Rattle.tw_lex.proofs.Endings.{refused_at}
use Rattle.tw_lex.proofs.Growing.{join, join_all, join_stop}
use Rattle.tw_lex.proofs.lexer.count_tokens.Goals as goal

pub loop-following-preserved : goal.loop-following-preserved
loop-following-preserved c =
    let found = c.loop-following.invariant.found in
    let one = c.in-Token.ensures.0 ∷ [] in
    record {
      text = search rules;
      found = (found.0 ++ one, join found.1 c.in-Token.ensures.1, omega (arith, found.2, length-append found.0 one));
      short = omega (arith, c.loop-following.invariant.short, c.in-Token.ensures.2);
    }

pub returns-in-End-clause-counted : goal.returns-in-End-clause-counted
returns-in-End-clause-counted c =
    let found = c.loop-following.invariant.found in
    (found.0, subst (λ (toks : List Lexed). HasTokens (chars c.args.text.now) first_place toks) (append-nil found.0) (join_all found.1 c.in-End.ensures), found.2)

pub returns-in-Wrong-clause-refused : goal.returns-in-Wrong-clause-refused
returns-in-Wrong-clause-refused c r e =
    let same : c.broken.result ≡ r = cc in
    refused_at (chars c.args.text.now) _ r (join_stop c.loop-following.invariant.found.1 c.in-Wrong.ensures) (sym c.broken.ensures ∙ same)
