-- How the workspace of an entry is found: what the private functions below `layout` promise each other.
use Rattle.std.specs.Prelude.{◌≡◌, ℕ, suc, slice_get, Some}
use Rattle.tw_syntax.specs.Programs.{FunTree}
use Rattle.tw_syntax.specs.Statements.{StmtTree}
use Rattle.tw_resolve.specs.Expressions.{Types}
use Rattle.tw_resolve.specs.Resolved.{resolved_setting, type_at}
use Rattle.tw_resolve.specs.Setting.{Setting}
use Rattle.tw_state.specs.Depth.{IsWithin}
use Rattle.tw_frames.specs.declared.body.Body.{Body}
use Rattle.tw_frames.specs.declared.workspace.Workspace.{Workspace}
use Rattle.tw_frames.specs.Workspaces.{Needs, entered, capped_workspace}

-- the setting of the program of a function, and the types of the function's variables
abbrev pub setting_of : Body → Setting
setting_of body = resolved_setting body.program.now

abbrev pub types_of : Body → Types
types_of body = type_at (setting_of body) body.fun

-- this is what a statement needs, capped, if its depth is at most this number
abbrev pub FindsWorkspace : Setting → (left own : ℕ) → StmtTree → Workspace → Type 0
FindsWorkspace setting left own s found = IsWithin setting left own s → (a : Workspace) → Needs setting own s a → found ≡ capped_workspace a

-- this holds of the statements of a block, which are one less deep than the block
abbrev pub FindsInside : Setting → (left own : ℕ) → StmtTree → Workspace → Type 0
FindsInside setting left own s found = (inner : ℕ) → left ≡ suc inner → FindsWorkspace setting inner own s found

-- this is what the function of this number needs that is entered, capped, if the depth of its body is at most this number
abbrev pub FindsEntered : Setting → (left own number : ℕ) → Workspace → Type 0
FindsEntered setting left own number found =
    (fun : FunTree) (inner : ℕ) → slice_get setting.funs number ≡ Some fun → left ≡ suc inner → IsWithin setting inner own fun.body
    → (a : Workspace) → Needs setting own fun.body a → found ≡ capped_workspace (entered setting fun a)
