-- Accepted programs: well-typed, and each function right. The first rule that any other program breaks.
use Rattle.std.specs.Prelude.{◌≡◌, ℕ, List, Some, None}
use Rattle.std.specs.List.{AllByRecursion}
use Rattle.tw_text.specs.declared.refusal.Fault.{Fault}
use Rattle.tw_text.specs.declared.refusal.Fault.TheVariants as fault
use Rattle.tw_text.specs.declared.refusal.Refusal.{Refusal}
use Rattle.tw_syntax.specs.Programs.{ProgramTree}
use Rattle.tw_parse.specs.Sources as sources
use Rattle.tw_parse.specs.Sources.{IsSource}
use Rattle.tw_types.specs.Types.{Widths}
use Rattle.tw_resolve.specs.Declarations.{funs_of}
use Rattle.tw_resolve.specs.Demands.{first_broken}
use Rattle.tw_resolve.specs.Programs.{IsWellTyped, IsRefused}
use Rattle.tw_check.specs.Right.{IsRight}
use Rattle.tw_check.specs.Rules.{decls_rules}
use Rattle.tw_check.specs.EntryPoints.{entry_rules}
use Rattle.tower.specs.Requests.{FileRequest}

-- each function of the program is right
abbrev pub AreRight : ProgramTree → Type 0
AreRight tree = AllByRecursion IsRight (funs_of tree.decls)

-- the program is well-typed, and each function is right
pub record IsAccepted (widths : Widths) (tree : ProgramTree) : Type 0 where
  pub typed : ∥ IsWellTyped widths tree ∥₁
  pub right : AreRight tree

-- the first rule that a program breaks: a rule of types, or of a well-typed program a rule of reversibility
pub data BreaksFirst (widths : Widths) (tree : ProgramTree) (refusal : Refusal) : Type 0 where
  IllTyped : IsRefused widths tree refusal → BreaksFirst widths tree refusal
  NotRight : ∥ IsWellTyped widths tree ∥₁ → first_broken (decls_rules tree.decls) ≡ Some refusal → BreaksFirst widths tree refusal

-- the program is accepted, and the entry with its bound is one of its functions
pub record IsReady (request : FileRequest) (tree : ProgramTree) : Type 0 where
  pub accepted : IsAccepted request.widths tree
  pub entry : first_broken (entry_rules (funs_of tree.decls) request.entry request.bound) ≡ None

-- the program is accepted, and the entry is refused
pub record IsBadEntry (request : FileRequest) (tree : ProgramTree) (refusal : Refusal) : Type 0 where
  pub accepted : IsAccepted request.widths tree
  pub broken : first_broken (entry_rules (funs_of tree.decls) request.entry request.bound) ≡ Some refusal

-- what a fault reports of a source: that it is refused, or the first rule that its program breaks; memory may run out at any time
pub data IsFoundBroken (widths : Widths) (bytes : List ℕ) : Fault → Type 0 where
  NoSource : (refusal : Refusal) → sources.IsRefused bytes refusal → IsFoundBroken widths bytes (fault.Refused refusal)
  OnTree : (tree : ProgramTree) (refusal : Refusal) → IsSource bytes tree → BreaksFirst widths tree refusal → IsFoundBroken widths bytes (fault.Refused refusal)
  OutOfMemory : IsFoundBroken widths bytes fault.Memory
