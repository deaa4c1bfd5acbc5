-- What the code of an expression owes to the code of the statement that has it.
use Rattle.std.proofs.Common.{◌≡◌, ◌≤◌, ◌<◌, ◌+◌, ℕ, false, Some}
use Rattle.tw_syntax.specs.Names.{NameTree}
use Rattle.tw_syntax.specs.Terms.{ExprTree, ExprRhs}
use Rattle.tw_code.specs.Trees.{CodeTree}
use Rattle.tw_code.specs.Wires.{EachWire, IsProperCode}
use Rattle.tw_code.specs.Functions.{mean_wires}
use Rattle.tw_types.specs.Types.{Ty}
use Rattle.tw_types.specs.Values.{Value}
use Rattle.tw_resolve.specs.Setting.{Setting}
use Rattle.tw_state.specs.States.{Name, State}
use Rattle.tw_state.specs.Evaluation.{expr_value}
use Rattle.tw_state.specs.Steps.{Adds}
use Rattle.tw_state.specs.Results.{IsTypedIn}
use Rattle.tw_state.proofs.TypedTrees.{ExprFits}
use Rattle.tw_frames.specs.declared.regions.WireLayout.{WireLayout}
use Rattle.tw_frames.specs.Frames.{Frame}
use Rattle.tw_frames.specs.Regions.{Owns}
use Rattle.tw_frames.specs.Scratch.{rhs_scratch}
use Rattle.tw_lower.specs.Operands.{IsExprCode}
use Rattle.tw_lower.specs.Lowering.{CanLowerRhs}
use Rattle.tw_lower.specs.StateBits.{state_bits}

-- a wire of a name of the frame, of the scratch, or of an `if` with a number from the first one up to the second
pub data IsOfFrame (setting : Setting) (layout : WireLayout) (frame : Frame) (from to : ℕ) : ℕ → Type 0 where
  OfName : {wire : ℕ} (name : Name) → Owns setting.widths frame name wire → IsOfFrame setting layout frame from to wire
  OfScratch : {wire : ℕ} → layout.scratch ≤ wire → wire < layout.flags → IsOfFrame setting layout frame from to wire
  OfIf : {wire : ℕ} → frame.ifs + from ≤ wire → wire < frame.ifs + to → IsOfFrame setting layout frame from to wire

-- The code adds the target with the value of the expression, and removes it. It uses wires of names and of the scratch, and is proper.
pub record AddsValue (setting : Setting) (layout : WireLayout) (frame : Frame) (target : Name) (expr : ExprTree) (code : CodeTree) : Type 0 where
  pub uses : EachWire (IsOfFrame setting layout frame 0 0) code
  pub proper : IsProperCode code
  pub adds : (value : Value) (bare full : State) → IsTypedIn setting frame.types bare → expr_value setting bare.store expr ≡ Some value → Adds target value bare full
      → mean_wires code false (state_bits setting frame bare) ≡ state_bits setting frame full
  pub removes : (value : Value) (bare full : State) → IsTypedIn setting frame.types bare → expr_value setting bare.store expr ≡ Some value → Adds target value bare full
      → mean_wires code false (state_bits setting frame full) ≡ state_bits setting frame bare

-- each expression with regions that are usable, and with scratch enough, owes this
abbrev pub AddValues : Setting → WireLayout → Frame → Type 0
AddValues setting layout frame =
    (target : NameTree) (expr : ExprTree) (code : CodeTree) (ty : Ty) → IsExprCode setting frame layout.scratch (frame.wire target.text) expr code
    → frame.types target.text ≡ Some ty → ExprFits setting frame.types expr ty → CanLowerRhs setting layout frame (frame.wire target.text) (ExprRhs expr)
    → layout.scratch + rhs_scratch setting frame.types (ExprRhs expr) ≤ layout.flags → AddsValue setting layout frame target.text expr code
