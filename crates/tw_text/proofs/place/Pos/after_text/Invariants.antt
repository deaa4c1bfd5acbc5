use Rattle.std.proofs.Common.{◌≡◌, ◌≤◌, ◌+◌, length}
use Rattle.std.specs.Str.{chars}
use Rattle.tw_text.specs.Places.{after_chars}
use Rattle.tw_text.proofs.place.Pos.after_text.Given as goal
use denote.Text.{Utf8}
use denote.Shadow.{shadow}

abbrev pub invariant-loop-c : goal.invariant-loop-c
invariant-loop-c l =
    record {
      text : shadow (Utf8 l.rest);
      place : after_chars l.place (chars l.rest) ≡ after_chars l.fn.self (chars l.text);
      line : l.place.line + length l.rest ≤ l.fn.self.line + length l.text;
      col : l.place.col + length l.rest ≤ l.fn.self.col + length l.text;
      counted : 1 ≤ l.place.col;
    }

abbrev pub decreases-loop-c : goal.decreases-loop-c
decreases-loop-c l = length l.rest
