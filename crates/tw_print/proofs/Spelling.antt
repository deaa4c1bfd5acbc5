-- When a text spells tokens before every suffix that may follow it, and that concatenated texts do so.
use Rattle.std.proofs.Common.{◌≡◌, sym, subst, ℕ, ◌<◌, ◌^◌, ◌==◌, Bool, true, false, ◌||◌, List, [], ◌∷◌, ◌++◌, append_assoc, map, None, IsUtf8, chars, encode_utf8_all, refl}
use Rattle.std.proofs.Math.Utf8.{scalars}
use Rattle.std.specs.List.{list_all}
use Rattle.unicode_ident.specs.Ident.{is_xid_continue}
use Rattle.tw_text.specs.declared.place.Pos.{Pos}
use Rattle.tw_lex.specs.Symbols.{symbol_of}
use Rattle.tw_lex.specs.Tokens.{Lexeme, Name, Number, Sign, Lexed, HasTokens, Ends, starts_name}

-- what may follow: anything, nothing that continues an identifier, or nothing that makes an operator a longer one
pub data Edge : Type 0 where
  Clear : Edge
  Wordy : Edge
  Short : Edge

-- the characters that may not follow; longer operators continue with `-`, `=` or `>`
abbrev pub bars : Edge → ℕ → Bool
bars Clear c = false
bars Wordy c = is_xid_continue c
bars Short c = (c == 45) || ((c == 61) || (c == 62))

-- the characters from this place on have tokens with the same lexemes as these
pub record ReadAt (cs : List ℕ) (at : Pos) (toks : List Lexed) : Type 0 where
  pub others : List Lexed
  pub has : HasTokens cs at others
  pub same : map (λ (t : Lexed). t.lexeme) toks ≡ map (λ (t : Lexed). t.lexeme) others

-- a text that may follow, with tokens of the same lexemes as these
pub record Leads (edge : Edge) (bytes : List ℕ) (toks : List Lexed) : Type 0 where
  pub text : IsUtf8 bytes
  pub read : (at : Pos) → ReadAt (chars bytes) at toks
  pub ends : Ends (bars edge) (chars bytes)

-- an identifier of some text
pub record IsName (text : List ℕ) : Type 0 where
  pub first : ℕ
  pub more : List ℕ
  pub scalar : scalars (first ∷ more) ≡ true
  pub is : encode_utf8_all (first ∷ more) ≡ text
  pub starts : starts_name first ≡ true
  pub goes_on : list_all is_xid_continue more ≡ true
  pub no_keyword : symbol_of (first ∷ more) ≡ None

-- a lexeme of some text
abbrev pub IsGood : Lexeme → Type 0
IsGood (Name text) = IsName text
IsGood (Number value) = value < 2 ^ 64
IsGood (Sign mark) = Unit {0}

abbrev pub AllGood : List Lexed → Type 0
AllGood [] = Unit {0}
AllGood (t ∷ ts) = IsGood t.lexeme × AllGood ts

-- Before a suffix that may follow edge `b` and has the tokens `us`, this text makes a text that may follow edge `a` and has the
-- tokens `ts`.
pub record Spelt (a b : Edge) (text : List ℕ) (ts us : List Lexed) : Type 0 where
  pub good : AllGood ts → AllGood us
  pub leads : AllGood ts → (rest : List ℕ) → Leads b rest us → Leads a (text ++ rest) ts

infixr 30 ◌▹◌
-- one text, then another
pub ◌▹◌ : {a b c : Edge} {x y : List ℕ} {ts us vs : List Lexed} → Spelt a b x ts us → Spelt b c y us vs → Spelt a c (x ++ y) ts vs
◌▹◌ {a} {x = x} {y = y} {ts = ts} s t = record {
  good = λ g. t.good (s.good g);
  leads = λ g rest l. subst (λ (z : List ℕ). Leads a z ts) (sym (append_assoc x y rest)) (s.leads g (y ++ rest) (t.leads (s.good g) rest l));
}

-- the empty text
pub spelt_none : {a : Edge} {ts : List Lexed} → Spelt a a [] ts ts
spelt_none = record { good = λ g. g; leads = λ g rest l. l }

pub ends_clear : (cs : List ℕ) → Ends (bars Clear) cs
ends_clear [] = refl
ends_clear (c ∷ cs) = refl

leads_clear : (edge : Edge) (bytes : List ℕ) (toks : List Lexed) → Leads edge bytes toks → Leads Clear bytes toks
leads_clear edge bytes toks l = record { text = l.text; read = l.read; ends = ends_clear (chars bytes) }

-- a text that may follow some edge may follow the clear one
pub loose : {a b : Edge} {text : List ℕ} {ts us : List Lexed} → Spelt a b text ts us → Spelt Clear b text ts us
loose {a} {text = text} {ts = ts} s = record { good = s.good; leads = λ g rest l. leads_clear a (text ++ rest) ts (s.leads g rest l) }

-- a text that anything may follow
pub tight : {a b : Edge} {text : List ℕ} {ts us : List Lexed} → Spelt a Clear text ts us → Spelt a b text ts us
tight {b = b} {us = us} s = record { good = s.good; leads = λ g rest l. s.leads g rest (leads_clear b rest us l) }
