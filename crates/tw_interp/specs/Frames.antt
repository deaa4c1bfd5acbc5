-- The variables of a function while it runs, as the code keeps them: values by the numbers of the variables.
use Rattle.std.specs.Prelude.{◌≡◌, ℕ, ◌==◌, Bool, List, [], ◌∷◌, Option, Some, None, if◌then◌else◌, filter_map, option_map, option_and_then, position, slice_get, codes, refl}
use Rattle.std.specs.Map.{keys_of, lookup}
use Rattle.std.specs.Option.{unwrap_or}
use Rattle.std.specs.Str.{bytes_eq}
use Rattle.tw_types.specs.declared.values.Val.{Val}
use Rattle.tw_types.specs.FromCode.{value_of}
use Rattle.tw_types.specs.Values.{Value, Number}
use Rattle.tw_check.specs.Names.{Names}
use Rattle.tw_state.specs.States.{Name, Store}
use Rattle.tw_interp.specs.declared.changes.Changes.{Changes}
use Rattle.tw_interp.specs.declared.frame.Frame.{Frame}

-- a value, or none, for each number of a variable
abbrev pub Slots : Type 0
Slots = ℕ → Option Value

-- the values in a list; a number past the end has none
abbrev pub slots_in : List (Option Val) → Slots
slots_in values slot = option_map value_of (unwrap_or (slice_get values slot) None)

-- the values in a frame
abbrev pub slots_of : Frame → Slots
slots_of frame = slots_in frame.values.items

-- the store of variables with these names, in the order of their numbers
abbrev pub store_by : List Name → Slots → Store
store_by names slots name = option_and_then slots (position (bytes_eq name) names)

abbrev pub store_of : List Name → Frame → Store
store_of names frame = store_by names (slots_of frame)

-- the values with this one, or none, for a number
abbrev pub with_slot : Slots → ℕ → Option Value → Slots
with_slot slots slot found other = if slot == other then found else slots other

-- the store in which a name has this value, or none
abbrev pub with_found : Store → Name → Option Value → Store
with_found store name found other = if bytes_eq name other then found else store other

-- whether the variable of a number has a value after changes, if they change it
abbrev pub change_at : Changes → ℕ → Option Bool
change_at changes slot = lookup (λ key. slot == key) changes.table.entries

-- the names that have a value after changes, from those before them
abbrev pub changed : List Name → Changes → Names → Names
changed names changes live name = unwrap_or (option_and_then (change_at changes) (position (bytes_eq name) names)) (live name)

-- the numbers of the variables that change, in the order of their first changes
abbrev pub changed_slots : Changes → List ℕ
changed_slots changes = keys_of changes.table.entries

-- the names of variables by their numbers; a number past the end has none
abbrev pub names_at : List Name → List ℕ → List Name
names_at names slots = filter_map (slice_get names) slots

-- the variables `x` and `y`, of which `y` is 5
abbrev y_is_five : Slots
y_is_five = λ slot. if slot == 1 then Some (Number 5) else None

pub value_of_y : store_by (codes "x" ∷ codes "y" ∷ []) y_is_five (codes "y") ≡ Some (Number 5)
value_of_y = refl

pub no_value_of_x : store_by (codes "x" ∷ codes "y" ∷ []) y_is_five (codes "x") ≡ None
no_value_of_x = refl

pub no_value_of_z : store_by (codes "x" ∷ codes "y" ∷ []) y_is_five (codes "z") ≡ None
no_value_of_z = refl
