-- The automaton follows a reader: it comes to what the reader leaves, or to where the reader ends early.
use Rattle.std.proofs.Common.{◌≡◌, refl, ℕ, zero, suc, List, ◌∷◌, ◌∙◌, Bool, true, false, Result, Ok, Err}
use Rattle.tw_parse.specs.declared.error.Rejection.{Rejection}
use Rattle.tw_parse.specs.declared.error.Rejection.TheVariants.{Syntax, Nesting}
use Rattle.tw_text.specs.declared.place.Pos.{Pos}
use Rattle.tw_lex.specs.Tokens.{Lexeme, Lexed}
use Rattle.tw_parse.specs.reading.Steps.{Reader, ◌>>=◌}
use Rattle.tw_parse.proofs.automaton.Transitions.{Expected, Outcome, Fail, Deep, run}
use Rattle.tw_parse.proofs.tokens.Words.{tok}

-- what the automaton says where a reader ends early
abbrev pub rejected : Rejection → Outcome
rejected (Syntax n) = Fail n
rejected (Nesting n) = Deep n

-- what the automaton says after a reader, with so much room and what is awaited there
unfoldable pub follow : {X : Type 0} → Result (X × List Lexed) Rejection → ℕ → List Expected → Outcome
follow (Ok x) room st = run x.1 room st
follow (Err h) room st = rejected h

-- the automaton comes to this after a reader
pub record Runs {X : Type 0} (o : Outcome) (r : Result (X × List Lexed) Rejection) (room : ℕ) (st : List Expected) : Type 0 where
  pub same : o ≡ follow r room st

-- one reader, then another
pub bind : {X Y : Type 0} {r : Result (X × List Lexed) Rejection} {k : X × List Lexed → Result (Y × List Lexed) Rejection} {room left : ℕ} {mid st : List Expected} {o : Outcome}
    → Runs o r room mid → ((x : X × List Lexed) → Runs (run x.1 room mid) (k x) left st) → Runs o (r >>= k) left st
unfolding follow
bind {r = Ok x} e h = record { same = e.same ∙ (h x).same }
bind {r = Err h} e _ = record { same = e.same }

pub done : {X : Type 0} {x : X × List Lexed} {room : ℕ} {st : List Expected} → Runs (run x.1 room st) (Ok x) room st
unfolding follow
done = record { same = refl }

-- the room after a mark
abbrev pub shut : Bool → ℕ → ℕ
shut true room = suc room
shut false room = room

-- a reader of what is awaited
abbrev pub Reads : {X : Type 0} → Expected → Reader X → ℕ → Type 0
Reads n read room = (ts : List Lexed) (st : List Expected) → Runs (run ts room (n ∷ st)) (read ts) room st

-- the same where the tokens begin with this word
abbrev pub ReadsAt : {X : Type 0} → Expected → Reader X → ℕ → Lexeme → Type 0
ReadsAt n read room w = (p : Pos) (ts : List Lexed) (st : List Expected) → Runs (run (tok w p ∷ ts) room (n ∷ st)) (read (tok w p ∷ ts)) room st

-- a reader for which there is one bracket less of room; where there is none it is not met
abbrev pub Inside : {X : Type 0} → Expected → Reader X → ℕ → Type 0
Inside n inner zero = Unit {0}
Inside n inner (suc room) = Reads n inner room
