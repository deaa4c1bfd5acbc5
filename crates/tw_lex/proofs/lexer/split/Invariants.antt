use Rattle.std.proofs.Common.{length, map}
use denote.Text.{Utf8}
use denote.Shadow.{shadow}
use Rattle.std.specs.List.{AllByRecursion}
use Rattle.std.specs.Str.{chars}
use Rattle.tw_text.specs.Places.{first_place}
use Rattle.tw_lex.specs.Scans.{seen, IsToken, SplitsTo}
use Rattle.tw_lex.proofs.lexer.split.Given as goal

abbrev pub invariant-loop-token : goal.invariant-loop-token
invariant-loop-token l = record {
  text : shadow (Utf8 l.rest.text.now);
  splits : SplitsTo (chars l.text) first_place (map seen l.items.items) (chars l.rest.text.now) l.rest.at;
  texts : AllByRecursion IsToken l.items.items;
}

abbrev pub decreases-loop-token : goal.decreases-loop-token
decreases-loop-token l = length l.rest.text.now
