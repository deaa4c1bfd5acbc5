-- What stands next in a text.
use Rattle.std.specs.Prelude.{ℕ, ◌<◌, List, [], ◌∷◌, length}
use Rattle.std.specs.Str.{chars}
use Rattle.tw_text.specs.declared.place.Pos.{Pos}
use Rattle.tw_lex.specs.declared.next.Next.{Next}
use Rattle.tw_lex.specs.declared.next.Next.TheVariants as next
use Rattle.tw_lex.specs.declared.next.Passed.{Passed}
use Rattle.tw_lex.specs.declared.next.Passed.TheVariants as passed
use Rattle.tw_lex.specs.Tokens.{Lexed, HasTokens, StopsAt}
use Rattle.tw_lex.specs.Scans.{SplitsTo, seen, IsToken}

abbrev pub IsNext : List ℕ → Pos → Next → Type 0
IsNext text at (next.Token token rest) =
    SplitsTo (chars text) at (seen token ∷ []) (chars rest.text.now) rest.at × IsToken token × (length rest.text.now < length text)
IsNext text at next.End = HasTokens (chars text) at []
IsNext text at (next.Wrong stop) = StopsAt (chars text) at stop

-- the same, without what a token is
abbrev pub IsPassed : List ℕ → Pos → Passed → Type 0
IsPassed text at (passed.Token rest) = (t : Lexed) × SplitsTo (chars text) at (t ∷ []) (chars rest.text.now) rest.at × (length rest.text.now < length text)
IsPassed text at passed.End = HasTokens (chars text) at []
IsPassed text at (passed.Wrong stop) = StopsAt (chars text) at stop
