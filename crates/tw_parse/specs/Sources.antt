-- Which tree a source has, and how a source without one is refused; by the grammar alone.
use Rattle.std.specs.Prelude.{◌≡◌, ℕ, List}
use Rattle.std.specs.Str.{chars, IsUtf8}
use Rattle.tw_text.specs.declared.refusal.Refusal.{Refusal}
use Rattle.tw_text.specs.Places.{first_place}
use Rattle.tw_lex.specs.Scans.{IsNoToken}
use Rattle.tw_syntax.specs.Programs.{ProgramTree}
use Rattle.tw_parse.specs.declared.error.Rejection.{Rejection}
use Rattle.tw_parse.specs.declared.error.Rejection.TheVariants.{Syntax, Nesting}
use Rattle.tw_lex.specs.Tokens.{Lexed, HasTokens}
use Rattle.tw_parse.specs.Trees.{HasTree}
use Rattle.tw_parse.specs.Prefixes.{IsShallow, IsSyntaxAt, IsTooDeepAt}
use Rattle.tw_parse.specs.Refusals.{IsNoText, refusal_of, end_of}

-- the source is a text whose tokens have this tree, with no more brackets open at a place than the limit says
pub record IsSource (bytes : List ℕ) (tree : ProgramTree) : Type 0 where
  pub text : IsUtf8 bytes
  pub toks : List Lexed
  pub has : HasTokens (chars bytes) first_place toks
  pub has_tree : HasTree toks tree
  pub shallow : IsShallow toks

-- the source is a text, and is refused at a token that this rule finds, by the number of tokens left there
pub record IsRefusedAt (rejection : ℕ → Rejection) (IsAt : List Lexed → ℕ → Type 0) (bytes : List ℕ) (refusal : Refusal) : Type 0 where
  pub text : IsUtf8 bytes
  pub toks : List Lexed
  pub left : ℕ
  pub has : HasTokens (chars bytes) first_place toks
  pub at : IsAt toks left
  pub is : refusal ≡ refusal_of (rejection left) toks (end_of bytes)

-- the source is refused at its first syntax error
abbrev pub IsNoProgram : List ℕ → Refusal → Type 0
IsNoProgram bytes refusal = IsRefusedAt Syntax IsSyntaxAt bytes refusal

-- the source is refused at the first bracket above the limit
abbrev pub IsTooDeep : List ℕ → Refusal → Type 0
IsTooDeep bytes refusal = IsRefusedAt Nesting IsTooDeepAt bytes refusal

-- the source is refused so: after its longest prefix in UTF-8, at its first lexical error, at its first syntax error, or at
-- the first bracket above the limit
pub data IsRefused (bytes : List ℕ) (refusal : Refusal) : Type 0 where
  Utf8 : IsNoText bytes refusal → IsRefused bytes refusal
  Token : IsUtf8 bytes → IsNoToken (chars bytes) refusal → IsRefused bytes refusal
  Program : IsNoProgram bytes refusal → IsRefused bytes refusal
  Depth : IsTooDeep bytes refusal → IsRefused bytes refusal
