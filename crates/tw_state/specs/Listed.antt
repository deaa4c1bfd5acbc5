-- States of an entry as lists: the values of its names, in order.
use Rattle.std.specs.Prelude.{◌≡◌, true, if◌then◌else◌, List, [], ◌∷◌, ◌++◌, Some, None, codes, refl}
use Rattle.std.specs.Str.{bytes_eq}
use Rattle.tw_syntax.specs.Programs.{FunTree}
use Rattle.tw_types.specs.Types.{Widths}
use Rattle.tw_types.specs.Values.{Value, Number, Truth}
use Rattle.tw_resolve.specs.Expressions.{Types}
use Rattle.tw_check.specs.Liveness.{param_names}
use Rattle.tw_state.specs.States.{Name, Store}
use Rattle.tw_state.specs.Results.{Fits}

-- the names of an entry at its start: its parameters, in order
abbrev pub names_at_start : FunTree → List Name
names_at_start fun = param_names fun

-- the names of an entry at its end: its parameters, and its result
abbrev pub names_at_end : FunTree → List Name
names_at_end fun = param_names fun ++ fun.returned.text ∷ []

-- the store in which these names have these values, in order
abbrev pub store_of : List Name → List Value → Store
store_of [] values name = None
store_of (first ∷ names) [] name = None
store_of (first ∷ names) (value ∷ values) name = if bytes_eq first name then Some value else store_of names values name

-- each of these names has a value of its type, in order, and there are no other values
abbrev pub HaveTypes : Widths → Types → List Name → List Value → Type 0
HaveTypes widths types [] [] = Unit {0}
HaveTypes widths types (name ∷ names) (value ∷ values) = Fits widths (types name) (Some value) × HaveTypes widths types names values
HaveTypes widths types names values = ⊥

-- `x 5; y true`
pub value_of_y : store_of (codes "x" ∷ codes "y" ∷ []) (Number 5 ∷ Truth true ∷ []) (codes "y") ≡ Some (Truth true)
value_of_y = refl

pub no_value_of_z : store_of (codes "x" ∷ codes "y" ∷ []) (Number 5 ∷ Truth true ∷ []) (codes "z") ≡ None
no_value_of_z = refl
