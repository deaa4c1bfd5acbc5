-- How a source is refused: the rule, the place, and the counts.
use Rattle.std.specs.Prelude.{◌≡◌, ℕ, ◌+◌, ◌-◌, List, [], ◌∷◌, length, take, drop, refl}
use Rattle.std.specs.Str.{chars, IsValidUpTo}
use Rattle.tw_text.specs.declared.place.Pos.{Pos}
use Rattle.tw_text.specs.declared.refusal.Counted.TheVariants as counted
use Rattle.tw_text.specs.declared.refusal.Rule.TheVariants as rule
use Rattle.tw_text.specs.declared.refusal.Refusal.{Refusal}
use Rattle.tw_text.specs.Limits.{limit_of}
use Rattle.tw_text.specs.Refusals.{broken, passed}
use Rattle.tw_text.specs.Places.{first_place, after_chars}
use Rattle.tw_parse.specs.declared.error.Rejection.{Rejection}
use Rattle.tw_parse.specs.declared.error.Rejection.TheVariants.{Syntax, Nesting}
use Rattle.tw_lex.specs.declared.symbol.Symbol.TheVariants as symbols
use Rattle.tw_lex.specs.Tokens.{Lexed, sign_at}

-- the place of the first token, or the place after all of them
abbrev pub place_or : List Lexed → Pos → Pos
place_or [] end = end
place_or (t ∷ ts) end = t.at

-- the place of the first of so many last tokens
abbrev pub place_left : List Lexed → ℕ → Pos → Pos
place_left toks left end = place_or (drop (length toks - left) toks) end

-- how a source is refused whose tokens, with this end, are wrong
abbrev pub refusal_of : Rejection → List Lexed → Pos → Refusal
refusal_of (Syntax left) toks end = broken rule.Syntax (place_left toks left end)
refusal_of (Nesting left) toks end = passed counted.Nesting (limit_of counted.Nesting + 1) (place_left toks left end)

-- the place after a text
abbrev pub end_of : List ℕ → Pos
end_of bytes = after_chars first_place (chars bytes)

-- the source is refused after its longest prefix in UTF-8
pub record IsNoText (bytes : List ℕ) (refusal : Refusal) : Type 0 where
  pub count : ℕ
  pub valid : IsValidUpTo bytes count
  pub is : refusal ≡ broken rule.Utf8 (end_of (take count bytes))

pub place_left-last : (p q end : Pos) → place_left (sign_at symbols.OpenParen p ∷ sign_at symbols.CloseParen q ∷ []) 1 end ≡ q
place_left-last p q end = refl

pub place_left-end : (p end : Pos) → place_left (sign_at symbols.OpenParen p ∷ []) 0 end ≡ end
place_left-end p end = refl
