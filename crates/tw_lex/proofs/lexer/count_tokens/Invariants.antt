use Rattle.std.proofs.Common.{◌≡◌, ◌+◌, ◌≤◌, List, length}
use denote.Text.{Utf8}
use denote.Shadow.{shadow}
use Rattle.std.specs.Str.{chars}
use Rattle.tw_text.specs.Places.{first_place}
use Rattle.tw_lex.specs.Scans.{SplitsTo}
use Rattle.tw_lex.specs.Tokens.{Lexed}
use Rattle.tw_lex.proofs.lexer.count_tokens.Given as goal

abbrev pub invariant-loop-following : goal.invariant-loop-following
invariant-loop-following l = record {
  text : shadow (Utf8 l.rest.text.now);
  found : (toks : List Lexed) × SplitsTo (chars l.text) first_place toks (chars l.rest.text.now) l.rest.at × (l.count ≡ length toks);
  short : l.count + length l.rest.text.now ≤ length l.text;
}

abbrev pub decreases-loop-following : goal.decreases-loop-following
decreases-loop-following l = length l.rest.text.now
