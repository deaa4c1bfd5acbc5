-- The wires of the names of a function, as a table of the code holds them, and the frame with these wires.
use Rattle.std.specs.Prelude.{ℕ, ◌+◌, if◌then◌else◌, List, [], ◌∷◌, ◌++◌, slice_get, Option, Some, None, unwrap_or}
use Rattle.std.specs.Option.{option_or}
use Rattle.std.specs.Str.{bytes_eq}
use Rattle.tw_syntax.specs.Programs.{FunTree}
use Rattle.tw_types.specs.Types.{Widths}
use Rattle.tw_resolve.specs.Entries.{found}
use Rattle.tw_resolve.specs.Expressions.{Types, texts_of}
use Rattle.tw_resolve.specs.Resolved.{locals_at, type_at}
use Rattle.tw_resolve.specs.Setting.{Setting}
use Rattle.tw_state.specs.Listed.{names_at_end}
use Rattle.tw_state.specs.States.{Name}
use Rattle.tw_frames.specs.Frames.{Frame, if_count}
use Rattle.tw_frames.specs.Sizes.{name_size}
use Rattle.tw_lower.specs.declared.names.NameWires.{NameWires}

-- the first wire of each name that has one
abbrev pub Wires : Type 0
Wires = Name → Option ℕ

abbrev pub wires_of : NameWires → Wires
wires_of names name = found names.table.entries name

-- a name gets its first wire, if it has none
abbrev pub with_wire : Wires → Name → ℕ → Wires
with_wire wires name wire other = option_or (wires other) (if bytes_eq name other then Some wire else None)

-- these names get wires, in order from a wire on
abbrev pub with_wires : Widths → Types → Wires → ℕ → List Name → Wires
with_wires widths types wires first [] = wires
with_wires widths types wires first (name ∷ names) = with_wires widths types (with_wire wires name first) (first + name_size widths types name) names

-- the parameters and the result of a function, and its local variables; none if there is no function
abbrev pub shared_of : Option FunTree → List Name
shared_of None = []
shared_of (Some fun) = names_at_end fun

abbrev pub shared_at : Setting → ℕ → List Name
shared_at setting number = shared_of (slice_get setting.funs number)

abbrev pub local_names_at : Setting → ℕ → List Name
local_names_at setting number = texts_of (locals_at setting number)

-- the number of its `if`s
abbrev pub ifs_of : Option FunTree → ℕ
ifs_of None = 0
ifs_of (Some fun) = if_count fun.body

-- the frame of the function of this number, if its names have these wires; a name without one has the first wire of the `if`s
abbrev pub frame_with : Setting → ℕ → Wires → ℕ → Frame
frame_with setting number wires ifs = record {
  names = shared_at setting number ++ local_names_at setting number;
  types = type_at setting number;
  wire = λ name. unwrap_or (wires name) ifs;
  ifs = ifs;
  next = ifs + ifs_of (slice_get setting.funs number);
}
