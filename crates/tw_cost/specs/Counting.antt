-- How the cost of an entry is found: what the private functions below `price` promise each other.
use Rattle.std.specs.Prelude.{◌≡◌, ℕ, suc, ◌+◌, ◌≤◌, List, ◌++◌, slice_get, Some}
use Rattle.tw_text.specs.declared.limits.TheConstants.{DEPTH_LIMIT}
use Rattle.tw_syntax.specs.Programs.{FunTree}
use Rattle.tw_syntax.specs.Statements.{StmtTree}
use Rattle.tw_code.specs.Rows.{Row}
use Rattle.tw_resolve.specs.Setting.{Setting}
use Rattle.tw_state.specs.Depth.{IsWithin}
use Rattle.tw_state.specs.Steps.{Activation, activation_of}
use Rattle.tw_frames.specs.declared.body.Body.{Body}
use Rattle.tw_frames.specs.Found.{types_of}
use Rattle.tw_frames.specs.Inventory.{Inventory, branch_controls, collect_rows}
use Rattle.tw_cost.specs.declared.costs.Cost.{Cost}
use Rattle.tw_cost.specs.declared.counting.Circuit.{Circuit}
use Rattle.tw_cost.specs.Costs.{cost_of}

-- the activation of a function whose bound has this number
abbrev pub activation_at : Body → ℕ → Activation
activation_at body own = record { types = types_of body; bound = own }

-- this is the cost of a statement under this number of controls, if its depth is at most a number that leaves room for the controls
abbrev pub FindsCost : Setting → Circuit → Activation → (left under : ℕ) → StmtTree → Cost → Type 0
FindsCost setting circuit act left under s found =
    under + left ≤ DEPTH_LIMIT → IsWithin setting left act.bound s
    → (rows : List Row) → Inventory setting circuit.options act under s rows → found ≡ cost_of circuit.level rows

-- this holds of the statements of a block, which are one less deep than the block
abbrev pub FindsInside : Setting → Circuit → Activation → (left under : ℕ) → StmtTree → Cost → Type 0
FindsInside setting circuit act left under s found = (inner : ℕ) → left ≡ suc inner → FindsCost setting circuit act inner under s found

-- this is the cost of a branch of an `if` that is under this number of controls
abbrev pub FindsBranch : Setting → Circuit → Activation → (left under : ℕ) → StmtTree → Cost → Type 0
FindsBranch setting circuit act left under s found =
    (inner : ℕ) → left ≡ suc inner → under + left ≤ DEPTH_LIMIT → IsWithin setting inner act.bound s
    → (rows : List Row) → Inventory setting circuit.options act (branch_controls circuit.options under) s rows
    → found ≡ cost_of circuit.level (collect_rows circuit.options under ++ rows)

-- this is the cost of the function of this number that is entered with this bound, if the depth of its body is at most this number
abbrev pub FindsEntered : Setting → Circuit → (left own under number : ℕ) → Cost → Type 0
FindsEntered setting circuit left own under number found =
    (fun : FunTree) → slice_get setting.funs number ≡ Some fun → FindsInside setting circuit (activation_of setting fun own) left under fun.body found
