-- Which tokens are a program, which are a viable prefix of one, and how many brackets are open.
use Rattle.std.specs.Prelude.{◌≡◌, ℕ, ◌+◌, ◌-◌, ◌≤◌, Bool, true, false, if◌then◌else◌, List, [], ◌∷◌, ◌++◌, length, codes, refl}
use Rattle.std.proofs.Common.{ap}
use Rattle.tw_text.specs.declared.refusal.Counted.TheVariants as counted
use Rattle.tw_text.specs.Limits.{limit_of}
use Rattle.tw_lex.specs.declared.symbol.Symbol.TheVariants as symbols
use Rattle.tw_lex.specs.Tokens.{Lexeme, Sign, Lexed, name_at, sign_at}
use Rattle.tw_text.specs.declared.place.Pos.{Pos}
use Rattle.tw_parse.specs.Grammar.{Uint}
use Rattle.tw_parse.specs.Statements.{Alias, Fun, Last, Decls, ProgramForm, program_text}

-- the tokens are a program
abbrev pub IsProgram : List Lexed → Type 0
IsProgram toks = (form : ProgramForm) × (toks ≡ program_text form [])

-- the tokens are a viable prefix: further tokens make them a program
abbrev pub IsViablePrefix : List Lexed → Type 0
IsViablePrefix toks = (more : List Lexed) × IsProgram (toks ++ more)

-- a viable prefix ends here: the next token does not continue it, or there is no next token and it is no program
abbrev pub IsEnd : List Lexed → List Lexed → Type 0
IsEnd prefix [] = ¬ IsProgram prefix
IsEnd prefix (t ∷ ts) = ¬ IsViablePrefix (prefix ++ t ∷ [])

-- a word after which `<` opens a type
abbrev pub announces : Lexeme → Bool
announces (Sign symbols.Ptr) = true
announces (Sign symbols.Null) = true
announces (Sign symbols.Default) = true
announces (Sign symbols.Alloc) = true
announces word = false

-- whether a word opens a bracket, where a type was announced or not
abbrev pub opens : Bool → Lexeme → Bool
opens announced (Sign symbols.OpenParen) = true
opens announced (Sign symbols.OpenBrace) = true
opens announced (Sign symbols.Less) = announced
opens announced word = false

-- whether a word closes a bracket
abbrev pub closes : Lexeme → Bool
closes (Sign symbols.CloseParen) = true
closes (Sign symbols.CloseBrace) = true
closes (Sign symbols.Greater) = true
closes word = false

-- how many brackets are open after these tokens, where so many are open before them
abbrev pub open_brackets : ℕ → Bool → List Lexed → ℕ
open_brackets n announced [] = n
open_brackets n announced (t ∷ ts) =
    open_brackets (if opens announced t.lexeme then n + 1 else (if closes t.lexeme then n - 1 else n)) (announces t.lexeme) ts

abbrev pub depth : List Lexed → ℕ
depth toks = open_brackets 0 false toks

-- at each place of the tokens no more brackets are open than the limit says
abbrev pub IsShallow : List Lexed → Type 0
IsShallow toks = (prefix suffix : List Lexed) → toks ≡ prefix ++ suffix → depth prefix ≤ limit_of counted.Nesting

-- the first syntax error is at the token with so many tokens left, itself included
pub record IsSyntaxAt (toks : List Lexed) (left : ℕ) : Type 0 where
  pub prefix : List Lexed
  pub suffix : List Lexed
  pub parts : toks ≡ prefix ++ suffix
  pub count : left ≡ length suffix
  pub shallow : IsShallow prefix
  pub viable : IsViablePrefix prefix
  pub at : IsEnd prefix suffix

-- the token with so many tokens left, itself included, is the first that opens a bracket above the limit
pub record IsTooDeepAt (toks : List Lexed) (left : ℕ) : Type 0 where
  pub prefix : List Lexed
  pub next : Lexed
  pub suffix : List Lexed
  pub parts : toks ≡ prefix ++ next ∷ suffix
  pub count : left ≡ length (next ∷ suffix)
  pub shallow : IsShallow prefix
  pub deeper : depth (prefix ++ next ∷ []) ≡ limit_of counted.Nesting + 1
  pub viable : IsViablePrefix (prefix ++ next ∷ [])

-- `<` after `ptr` opens a bracket, and after a name it is an operator
pub depth-pointer : (p q : Pos) → depth (sign_at symbols.Ptr p ∷ sign_at symbols.Less q ∷ []) ≡ 1
depth-pointer p q = refl

pub depth-operator : (p q : Pos) → depth (name_at (codes "x") p ∷ sign_at symbols.Less q ∷ []) ≡ 0
depth-operator p q = refl

pub depth-closed : (p q r : Pos) → depth (sign_at symbols.OpenBrace p ∷ sign_at symbols.OpenParen q ∷ sign_at symbols.CloseParen r ∷ []) ≡ 1
depth-closed p q r = refl

-- `type` is a viable prefix
pub type_is_viable : (p : Pos) → IsViablePrefix (sign_at symbols.Type p ∷ [])
type_is_viable p = (name_at (codes "t") p ∷ sign_at symbols.Define p ∷ sign_at symbols.Uint p ∷ sign_at symbols.Semicolon p ∷ [], (Last (Alias p p (codes "t") p (Uint p) p), refl))

first_lexeme : {t u : Lexed} {ts us : List Lexed} → t ∷ ts ≡ u ∷ us → t.lexeme ≡ u.lexeme
first_lexeme {t = t} {u = u} e = let first : t ≡ u = cc in ap (λ x. x.lexeme) first

-- no program begins with a comma
pub comma_is_not_viable : (p : Pos) → ¬ (IsViablePrefix (sign_at symbols.Comma p ∷ []))
comma_is_not_viable p (more, (Last (Alias q n name r body e), same)) = cc (first_lexeme same)
comma_is_not_viable p (more, (Last (Fun fun), same)) = cc (first_lexeme same)
comma_is_not_viable p (more, (Decls (Alias q n name r body e) rest, same)) = cc (first_lexeme same)
comma_is_not_viable p (more, (Decls (Fun fun) rest, same)) = cc (first_lexeme same)
