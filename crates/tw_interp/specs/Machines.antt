-- The state and the activation that the code keeps while it runs a function.
use Rattle.std.specs.Prelude.{List, map}
use Rattle.tw_resolve.specs.Resolved.{resolved_setting, type_at}
use Rattle.tw_resolve.specs.Setting.{Setting}
use Rattle.tw_state.specs.declared.state.Cell.{Cell as CellOfCode}
use Rattle.tw_state.specs.FromCode.{cell_of}
use Rattle.tw_state.specs.States.{Name, Cell, State}
use Rattle.tw_state.specs.Steps.{Activation}
use Rattle.tw_interp.specs.declared.activation.Activation.{Activation as ActivationOfCode}
use Rattle.tw_interp.specs.declared.machine.Machine.{Machine}
use Rattle.tw_interp.specs.Frames.{store_of}
use Rattle.tw_interp.specs.Numbered.{numbered_names}

-- the cells of a list of cells of the code
abbrev pub cells_of : List CellOfCode → List Cell
cells_of cells = map cell_of cells

-- the state of a machine that runs a function with these names of variables
abbrev pub state_of : List Name → Machine → State
state_of names machine = record { head = machine.free; cells = cells_of machine.cells.items; store = store_of names machine.frame }

-- the setting of the program of a running function
abbrev pub setting_of : ActivationOfCode → Setting
setting_of act = resolved_setting act.runner.now.checked.now.resolved

-- the names of its variables
abbrev pub names_of : ActivationOfCode → List Name
names_of act = numbered_names (setting_of act) act.fun

-- the types of its variables, and the number of its bound
abbrev pub activation_of : ActivationOfCode → Activation
activation_of act = record { types = type_at (setting_of act) act.fun; bound = act.bound }

-- the state of a machine while the function runs
abbrev pub state_in : ActivationOfCode → Machine → State
state_in act machine = state_of (names_of act) machine
