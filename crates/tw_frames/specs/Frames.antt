-- The frames of functions: the wires of local variables and of conditions.
use Rattle.std.specs.Prelude.{ℕ, ◌+◌, List, [], ◌∷◌, ◌++◌, if◌then◌else◌}
use Rattle.std.specs.Str.{bytes_eq}
use Rattle.tw_syntax.specs.Names.{NameTree}
use Rattle.tw_syntax.specs.Programs.{FunTree}
use Rattle.tw_syntax.specs.Statements.{StmtTree, Nothing, Then, Else, LetStmt, SwapStmt, MemSwapStmt, IfStmt, WithStmt, BlockStmt, SkipStmt}
use Rattle.tw_resolve.specs.Expressions.{Types, texts_of}
use Rattle.tw_resolve.specs.Programs.{local_variables}
use Rattle.tw_resolve.specs.Setting.{Setting}
use Rattle.tw_state.specs.Listed.{names_at_end}
use Rattle.tw_state.specs.States.{Name}
use Rattle.tw_state.specs.Steps.{fun_types, links}
use Rattle.tw_frames.specs.Sizes.{names_size, wire_from}

-- the number of `if`s in a statement, without those of callees
abbrev pub if_count : StmtTree → ℕ
if_count Nothing = 0
if_count (Then first rest) = if_count first + if_count rest
if_count (Else at stmts) = if_count stmts
if_count (LetStmt at forward target rhs) = 0
if_count (SwapStmt at left right) = 0
if_count (MemSwapStmt at pointer value) = 0
if_count (IfStmt at cond first other) = 1 + (if_count first + if_count other)
if_count (WithStmt at setup work) = if_count setup + if_count work
if_count (BlockStmt at body) = if_count body
if_count (SkipStmt at) = 0

-- the names of the local variables of a function, in order of first appearance: neither parameters nor the result
abbrev pub local_names : Setting → FunTree → List Name
local_names setting fun = texts_of (local_variables setting fun)

-- the bits of the local variables of a function
abbrev pub locals_size : Setting → FunTree → ℕ
locals_size setting fun = names_size setting.widths (fun_types setting fun) (local_names setting fun)

-- the wires of the frame of a function: its local variables, and one wire for each `if`
abbrev pub frame_size : Setting → FunTree → ℕ
frame_size setting fun = locals_size setting fun + if_count fun.body

-- where a function has its wires while it runs: the names of its parameters, of its result and of its local variables, their types, and
-- the first wire of each; the first wire of its `if`s; and the first wire after its frame
pub record Frame : Type 0 where
  pub names : List Name
  pub types : Types
  pub wire : Name → ℕ
  pub ifs : ℕ
  pub next : ℕ

-- the wire of an `if` of the function, by its number in text order: an `if` comes before those in its branches
abbrev pub if_wire : Frame → ℕ → ℕ
if_wire frame number = frame.ifs + number

-- the first wire of a name: if it is linked to a name of the caller, the wire of that name, and else its own
abbrev pub linked_wire : List (Name × Name) → (caller own : Name → ℕ) → Name → ℕ
linked_wire [] caller own name = own name
linked_wire (link ∷ more) caller own name = if bytes_eq link.0 name then caller link.1 else linked_wire more caller own name

-- a frame from a wire on: the local variables in order, and then one wire for each `if`. Linked names lie on wires of the caller
abbrev pub frame_from : Setting → FunTree → List (Name × Name) → (Name → ℕ) → ℕ → Frame
frame_from setting fun shared caller first =
    let ifs = first + locals_size setting fun in
    record {
      names = names_at_end fun ++ local_names setting fun;
      types = fun_types setting fun;
      wire = linked_wire shared caller (wire_from setting.widths (fun_types setting fun) first (local_names setting fun));
      ifs = ifs;
      next = ifs + if_count fun.body;
    }

-- the frame of a callee begins where the frame of its caller ends. The parameters lie on the wires of the arguments, and the result on
-- those of the target of the call
abbrev pub callee_frame : Setting → Frame → FunTree → NameTree → List NameTree → Frame
callee_frame setting caller fun target args = frame_from setting fun (links fun target args) caller.wire caller.next
