-- The entry of a request in an accepted program.
use Rattle.std.specs.Prelude.{Option}
use Rattle.tw_syntax.specs.Programs.{FunTree, ProgramTree}
use Rattle.tw_types.specs.Types.{Ty}
use Rattle.tw_resolve.specs.Declarations.{Name, funs_of}
use Rattle.tw_resolve.specs.Programs.{IsTyped, setting_of}
use Rattle.tw_resolve.specs.Setting.{Setting}
use Rattle.tw_check.specs.declared.entry.Entry.{Entry}
use Rattle.tw_check.specs.EntryPoints.{IsEntryOf}
use Rattle.tw_frames.specs.declared.measured.Measured.{Measured}
use Rattle.tw_frames.specs.Measures.{IsMeasured}
use Rattle.tower.specs.Requests.{FileRequest}
use Rattle.tower.specs.Accepted.{IsReady}

-- its number, its function and its measure, and the types of the declared names
pub record EntryIn (request : FileRequest) (tree : ProgramTree) : Type 0 where
  pub ready : IsReady request tree
  pub types : Name → Option Ty
  pub typed : ∥ IsTyped request.widths tree types ∥₁
  pub entry : Entry
  pub is_entry : IsEntryOf (funs_of tree.decls) request.entry request.bound entry
  pub measured : Measured
  pub measures : IsMeasured (setting_of request.widths tree types) entry measured

-- its setting and its function
abbrev pub setting_in : {request : FileRequest} {tree : ProgramTree} → EntryIn request tree → Setting
setting_in {request} {tree} found = setting_of request.widths tree found.types

abbrev pub fun_in : {request : FileRequest} {tree : ProgramTree} → EntryIn request tree → FunTree
fun_in found = found.is_entry.is_entry.fun
