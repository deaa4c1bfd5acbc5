-- The tokens from a place of a text on, as a cursor has them.
use Rattle.std.specs.Prelude.{◌≡◌, ℕ, List, [], ◌∷◌, length, Option, Some, None}
use Rattle.std.proofs.Props.{props}
use mathlib.Core.HLevel.{Σ_prop_path}
use mathlib.Core.Logic.{∥∥₁_elim}
use Rattle.tw_text.specs.declared.place.Pos.{Pos}
use Rattle.tw_text.specs.Places.{first_place}
use Rattle.tw_lex.specs.contracts.symbol.Symbol as symbol
use Rattle.tw_lex.specs.declared.token.Token.{Token}
use Rattle.tw_lex.specs.Scans.{seen}
use Rattle.tw_lex.specs.Tokens.{Lexed, HasTokens}

-- a text has these tokens from a place on, and no others
abbrev pub HasOnly : List ℕ → Pos → List Lexed → Type 0
HasOnly cs at toks = ∥ HasTokens cs at toks ∥₁ × ((other : List Lexed) → HasTokens cs at other → other ≡ toks)

-- the tokens of a text from a place on
abbrev pub TokensFrom : List ℕ → Pos → Type 0
TokensFrom cs at = (toks : List Lexed) × HasOnly cs at toks

pub Lexed-set : IsSet (List Lexed)
Lexed-set = hlevel (symbol.the_row.coded, props)

pub TokensFrom-prop : (cs : List ℕ) (at : Pos) → IsProp (TokensFrom cs at)
TokensFrom-prop cs at p q = Σ_prop_path {A = List Lexed} {B = HasOnly cs at} (λ toks. hlevel (Lexed-set, props)) (∥∥₁_elim p.1.0 (Lexed-set p.0 q.0) (λ h. q.1.1 p.0 h))

-- a text has so many tokens
abbrev pub HasCount : List ℕ → ℕ → Type 0
HasCount cs count = (toks : List Lexed) × HasTokens cs first_place toks × (count ≡ length toks)

-- a token before others, or none
abbrev pub from_token : Option Token → List Lexed → List Lexed
from_token None toks = []
from_token (Some token) toks = seen token ∷ toks

-- the tokens after the first one
abbrev pub after_first : List Lexed → List Lexed
after_first [] = []
after_first (t ∷ ts) = ts
