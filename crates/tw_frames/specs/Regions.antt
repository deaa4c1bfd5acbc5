-- Regions of wires that are apart: those of a layout, and those of each frame that calls reach.
use Rattle.std.specs.Prelude.{◌≡◌, ◌≤◌, ◌<◌, ℕ, ◌+◌, true, false, List, slice_get, Option, Some}
use Rattle.std.specs.Str.{bytes_eq}
use Rattle.tw_code.specs.Functions.{IsIn, AreDisjoint}
use Rattle.tw_syntax.specs.Names.{NameTree}
use Rattle.tw_syntax.specs.Programs.{FunTree}
use Rattle.tw_syntax.specs.Statements.{StmtTree, Then, Else, LetStmt, IfStmt, WithStmt, BlockStmt}
use Rattle.tw_syntax.specs.Terms.{BoundTree, CallRhs}
use Rattle.tw_types.specs.Types.{Widths, Ty}
use Rattle.tw_resolve.specs.Declarations.{AreDifferent, is_one_of}
use Rattle.tw_resolve.specs.Expressions.{fun_named}
use Rattle.tw_resolve.specs.Setting.{Setting}
use Rattle.tw_check.specs.declared.entry.Entry.{Entry}
use Rattle.tw_state.specs.States.{Name}
use Rattle.tw_state.specs.Steps.{running_bound, callee_bound}
use Rattle.tw_frames.specs.declared.regions.WireLayout.{WireLayout}
use Rattle.tw_frames.specs.Sizes.{name_size, memory_size}
use Rattle.tw_frames.specs.Frames.{Frame, if_count, callee_frame}
use Rattle.tw_frames.specs.Layout.{entry_frame}
use Rattle.tw_frames.specs.Scratch.{fun_scratch}

-- the regions of a layout begin after the memory, and each ends where the next one begins; the last one ends after the last wire
pub record AreInOrder (widths : Widths) (layout : WireLayout) : Type 0 where
  pub memory : layout.args ≡ memory_size widths layout.block
  pub args : layout.args ≤ layout.out
  pub out : layout.out ≤ layout.frame
  pub frame : layout.frame ≤ layout.scratch
  pub scratch : layout.scratch ≤ layout.flags
  pub flags : layout.flags ≤ layout.ladder
  pub ladder : layout.ladder ≤ layout.wires

-- the wire is one of those of a name
abbrev pub Owns : Widths → Frame → Name → ℕ → Type 0
Owns widths frame name = IsIn (frame.wire name) (name_size widths frame.types name)

-- the wire is that of an `if`
abbrev pub OfIf : FunTree → Frame → ℕ → Type 0
OfIf fun frame = IsIn frame.ifs (if_count fun.body)

-- this is a frame of a function in a layout: each variable and each `if` of the function has wires of its own. They lie between the memory
-- and the end of the frame, which is in the region of the frames, and the scratch is enough for the function
pub record IsFrame (setting : Setting) (layout : WireLayout) (fun : FunTree) (frame : Frame) : Type 0 where
  pub different : AreDifferent frame.names
  pub known : (name : Name) (ty : Ty) → frame.types name ≡ Some ty → is_one_of name frame.names ≡ true
  pub apart : (name other : Name) → bytes_eq name other ≡ false → AreDisjoint (Owns setting.widths frame name) (Owns setting.widths frame other)
  pub ifs_apart : (name : Name) → AreDisjoint (Owns setting.widths frame name) (OfIf fun frame)
  pub after_memory : (name : Name) (wire : ℕ) → Owns setting.widths frame name wire → layout.args ≤ wire
  pub before_next : (name : Name) (wire : ℕ) → Owns setting.widths frame name wire → wire < frame.next
  pub ifs_after_result : layout.frame ≤ frame.ifs
  pub ifs_before_next : frame.ifs + if_count fun.body ≡ frame.next
  pub next_before_scratch : frame.next ≤ layout.scratch
  pub scratch : layout.scratch + fun_scratch setting fun ≤ layout.flags

-- a statement has this call, or un-call
pub data HasCall (target callee : NameTree) (bound : Option BoundTree) (args : List NameTree) : StmtTree → Type 0 where
  IsCall : {at forward : _} → HasCall target callee bound args (LetStmt at forward target (CallRhs callee bound args))
  InFirst : {first rest : StmtTree} → HasCall target callee bound args first → HasCall target callee bound args (Then first rest)
  InRest : {first rest : StmtTree} → HasCall target callee bound args rest → HasCall target callee bound args (Then first rest)
  InElse : {at stmts : _} → HasCall target callee bound args stmts → HasCall target callee bound args (Else at stmts)
  InYes : {at cond first other : _} → HasCall target callee bound args first → HasCall target callee bound args (IfStmt at cond first other)
  InNo : {at cond first other : _} → HasCall target callee bound args other → HasCall target callee bound args (IfStmt at cond first other)
  InSetup : {at setup work : _} → HasCall target callee bound args setup → HasCall target callee bound args (WithStmt at setup work)
  InWork : {at setup work : _} → HasCall target callee bound args work → HasCall target callee bound args (WithStmt at setup work)
  InBlock : {at body : _} → HasCall target callee bound args body → HasCall target callee bound args (BlockStmt at body)

-- the calls of an entry reach this function, with this number of its bound, and with this frame
pub data IsReached (setting : Setting) (entry : Entry) (layout : WireLayout) : FunTree → ℕ → Frame → Type 0 where
  ReachesEntry : {fun : FunTree} {own : ℕ}
      → slice_get setting.funs entry.fun ≡ Some fun → running_bound entry.bound ≡ Some own
      → IsReached setting entry layout fun own (entry_frame setting fun layout)
  ReachesCallee : {caller fun : FunTree} {own n : ℕ} {frame : Frame} {target callee bound args : _}
      → IsReached setting entry layout caller own frame → HasCall target callee bound args caller.body
      → fun_named setting callee.text ≡ Some fun → callee_bound own bound ≡ Some n
      → IsReached setting entry layout fun n (callee_frame setting frame fun target args)

-- each frame that is reached is one in the layout
abbrev pub AreFrames : Setting → Entry → WireLayout → Type 0
AreFrames setting entry layout = (fun : FunTree) (own : ℕ) (frame : Frame) → IsReached setting entry layout fun own frame → IsFrame setting layout fun frame
