use Rattle.std.proofs.Common.{◌≤◌, [], length}
use denote.Text.{Utf8}
use denote.Shadow.{shadow}
use Rattle.std.specs.Str.{chars}
use Rattle.tw_lex.specs.Scans.{SplitsTo}
use Rattle.tw_lex.proofs.space.after_spaces.Given as goal

abbrev pub invariant-loop-following : goal.invariant-loop-following
invariant-loop-following l = record {
  text : shadow (Utf8 l.rest.text.now);
  spaces : SplitsTo (chars l.suffix.text.now) l.suffix.at [] (chars l.rest.text.now) l.rest.at;
  short : length l.rest.text.now ≤ length l.suffix.text.now;
}

abbrev pub decreases-loop-following : goal.decreases-loop-following
decreases-loop-following l = length l.rest.text.now
