-- What parsing a source gives: the tree of its tokens, or where and why it is refused.
use Rattle.std.specs.Prelude.{◌≡◌, ℕ, List, Ok, Err}
use Rattle.std.specs.Str.{chars, IsUtf8}
use Rattle.tw_text.specs.declared.place.Pos.{Pos}
use Rattle.tw_text.specs.declared.refusal.Refusal.{Refusal}
use Rattle.tw_text.specs.declared.refusal.Fault.{Fault}
use Rattle.tw_text.specs.declared.refusal.Fault.TheVariants as fault
use Rattle.tw_text.specs.Places.{first_place}
use Rattle.tw_lex.specs.Scans.{IsNoToken}
use Rattle.tw_syntax.specs.Programs.{ProgramTree}
use Rattle.tw_parse.specs.declared.error.Rejection.{Rejection}
use Rattle.tw_parse.specs.declared.error.ParseError.{ParseError}
use Rattle.tw_parse.specs.declared.error.ParseError.TheVariants as error
use Rattle.tw_lex.specs.Tokens.{Lexed, HasTokens}
use Rattle.tw_parse.specs.Refusals.{refusal_of, end_of, IsNoText}
use Rattle.tw_parse.specs.reading.Statements.{whole_at}

-- the source has this tree
pub record IsParsed (bytes : List ℕ) (tree : ProgramTree) : Type 0 where
  pub text : IsUtf8 bytes
  pub toks : List Lexed
  pub has : HasTokens (chars bytes) first_place toks
  pub reads : whole_at toks ≡ Ok tree

-- the source's tokens are rejected
pub record IsRejected (bytes : List ℕ) (refusal : Refusal) : Type 0 where
  pub text : IsUtf8 bytes
  pub toks : List Lexed
  pub rejection : Rejection
  pub has : HasTokens (chars bytes) first_place toks
  pub reads : whole_at toks ≡ Err rejection
  pub is : refusal ≡ refusal_of rejection toks (end_of bytes)

-- the source is refused so
pub data IsNotParsed (bytes : List ℕ) (refusal : Refusal) : Type 0 where
  NoText : IsNoText bytes refusal → IsNotParsed bytes refusal
  NoToken : IsUtf8 bytes → IsNoToken (chars bytes) refusal → IsNotParsed bytes refusal
  Rejected : IsRejected bytes refusal → IsNotParsed bytes refusal

-- the source has no tree for this fault
abbrev pub IsFault : List ℕ → Fault → Type 0
IsFault bytes fault.Memory = Unit {0}
IsFault bytes (fault.Refused refusal) = IsNotParsed bytes refusal

-- the fault for an error at these tokens
abbrev pub fault_of : ParseError → List Lexed → Pos → Fault
fault_of error.Memory toks end = fault.Memory
fault_of (error.Rejection rejection) toks end = fault.Refused (refusal_of rejection toks end)

-- the fault of a source that is no text
abbrev pub IsNoTextFault : List ℕ → Fault → Type 0
IsNoTextFault bytes fault.Memory = ⊥
IsNoTextFault bytes (fault.Refused refusal) = IsNoText bytes refusal
