-- The tokens from a place of a text on, by those of the text.
use Rattle.std.proofs.Common.{◌≡◌, ◌∙◌, ap, sym, ℕ, ◌-◌, List, [], ◌∷◌, Option, Some, None, length, arith}
use Rattle.std.proofs.Props.{props}
use mathlib.Core.Logic.{∥∥₁_elim}
use Rattle.tw_text.specs.declared.place.Pos.{Pos}
use Rattle.tw_lex.specs.Tokens.{Lexed, HasTokens, StopsAt}
use Rattle.tw_lex.specs.Scans.{SplitsTo}
use Rattle.tw_lex.specs.declared.token.Token.{Token}
use Rattle.tw_lex.specs.Cursors.{TokensFrom, TokensFrom-prop, Lexed-set, from_token}
use Rattle.tw_lex.proofs.Splits.{after_pieces, one_reading, no_reading}

abbrev pub from : (cs : List ℕ) (at : Pos) (toks : List Lexed) → HasTokens cs at toks → TokensFrom cs at
from cs at toks h = (toks, (∣ h ∣₁, λ other k. one_reading cs at toks other h k))

-- after the first token
pub after_one : (cs rest : List ℕ) (at stop : Pos) (t : Lexed) (p : TokensFrom cs at) → SplitsTo cs at (t ∷ []) rest stop → (more : TokensFrom rest stop) × (p.0 ≡ t ∷ more.0)
after_one cs rest at stop t p s =
    ∥∥₁_elim p.1.0 (hlevel (TokensFrom-prop, Lexed-set, props)) (λ h.
    let b = after_pieces s.pieces h.pieces cs at (t ∷ []) p.0 rest stop h.end s.splits h.splits in
    (from rest stop b.more (record { pieces = b.pieces; end = h.end; splits = b.splits }), b.all))

pub after_same : (cs rest : List ℕ) (at stop : Pos) (t : Lexed) (p : TokensFrom cs at) → SplitsTo cs at (t ∷ []) rest stop → (more : TokensFrom rest stop) → t ∷ more.0 ≡ p.0
after_same cs rest at stop t p s more =
    let found = after_one cs rest at stop t p s in
    ap (λ (x : TokensFrom rest stop). t ∷ x.0) (TokensFrom-prop rest stop more found.0) ∙ sym found.1

pub no_stop : (cs : List ℕ) (at stop : Pos) → TokensFrom cs at → StopsAt cs at stop → ⊥
no_stop cs at stop p s = ∥∥₁_elim p.1.0 (hlevel props) (no_reading cs at stop p.0 s)

-- the first token is one, and the others are one fewer
pub after_some : (o : Option Token) (token : Token) (left : ℕ) (toks : List Lexed) → o ≡ Some token → left ≡ length (from_token o toks) → left - 1 ≡ length toks
after_some None token left toks e n = absurd (cc)
after_some (Some given) token left toks e n = omega arith
