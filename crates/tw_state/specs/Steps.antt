-- The steps of single statements. Each says what holds of the states on both sides, so the reverse takes the same step with the states
-- exchanged.
use Rattle.std.specs.Prelude.{◌≡◌, ℕ, zero, suc, ◌-◌, true, false, if◌then◌else◌, List, [], ◌∷◌, map, Option, Some, None, is_some, option_map}
use Rattle.std.specs.Str.{bytes_eq}
use Rattle.tw_syntax.specs.Names.{NameTree, PathTree}
use Rattle.tw_syntax.specs.Programs.{ParamTree, FunTree}
use Rattle.tw_syntax.specs.Statements.{StmtTree}
use Rattle.tw_syntax.specs.Terms.{BoundTree, FixedBound, SameBound, LessBound}
use Rattle.tw_syntax.specs.Types.{WrittenTree}
use Rattle.tw_types.specs.Types.{Ty, Pointer}
use Rattle.tw_types.specs.Values.{Value, Address, zero_value}
use Rattle.tw_resolve.specs.Declarations.{is_one_of, target_number}
use Rattle.tw_resolve.specs.Expressions.{Types, variable_type, type_at_path}
use Rattle.tw_resolve.specs.Programs.{end_variables}
use Rattle.tw_resolve.specs.Setting.{Setting}
use Rattle.tw_check.specs.Liveness.{live_after}
use Rattle.tw_check.specs.Names.{Names}
use Rattle.tw_check.specs.Right.{overlap}
use Rattle.tw_state.specs.States.{Name, Free, Live, Store, State, with_value, cell_at, with_cell}
use Rattle.tw_state.specs.Parts.{value_at, with_value_at}
use Rattle.tw_state.specs.Evaluation.{zero_of_target}

-- the types of the variables of a function
abbrev pub fun_types : Setting → FunTree → Types
fun_types setting fun = variable_type (end_variables setting fun)

-- what is known of a function while it runs: the types of its variables, and the number that its bound has
pub record Activation : Type 0 where
  pub types : Types
  pub bound : ℕ

-- the activation of a function with this bound
abbrev pub activation_of : Setting → FunTree → ℕ → Activation
activation_of setting fun bound = record { types = fun_types setting fun; bound = bound }

-- the names that have a value
abbrev pub live_names : Store → Names
live_names store name = is_some (store name)

-- a name that had no value gets this one, and nothing else changes
pub record Adds (name : Name) (value : Value) (bare full : State) : Type 0 where
  pub unused : bare.store name ≡ None
  pub after : full ≡ record bare { store = with_value bare.store name value }

-- the values at two paths that do not overlap change places
pub record Swaps (left right : PathTree) (old new : State) : Type 0 where
  pub x : Value
  pub y : Value
  pub at_left : value_at old.store left ≡ Some x
  pub at_right : value_at old.store right ≡ Some y
  pub apart : overlap left right ≡ false
  pub after : new ≡ record old { store = with_value_at (with_value_at old.store left y) right x }

-- the value of the block that a pointer leads to, live with the pointer's target, and the value at a path change places
pub record SwapsMemory (types : Types) (pointer place : PathTree) (old new : State) : Type 0 where
  pub block : ℕ
  pub target : ℕ
  pub x : Value
  pub y : Value
  pub points : value_at old.store pointer ≡ Some (Address block)
  pub of_target : type_at_path types pointer ≡ Some (Pointer target)
  pub in_cell : cell_at old.cells block ≡ Some (Live target x)
  pub at_place : value_at old.store place ≡ Some y
  pub apart : overlap pointer place ≡ false
  pub after : new ≡ record old { cells = with_cell old.cells block (Live target y); store = with_value_at old.store place x }

-- the first free block becomes live, with the zero of its target; this is its address
pub record Takes (setting : Setting) (to : WrittenTree) (block : ℕ) (old new : State) : Type 0 where
  pub target : ℕ
  pub cleared : Value
  pub next : ℕ
  pub numbered : target_number setting.scope.targets to ≡ Some target
  pub is_zero : zero_of_target setting target ≡ Some cleared
  pub first : old.head ≡ block
  pub is_free : cell_at old.cells block ≡ Some (Free next)
  pub after : new ≡ record old { head = next; cells = with_cell old.cells block (Live target cleared) }

-- a name has the same value on both sides, or the zero of its type on one side and none on the other
abbrev pub IsPadded : Option Ty → Option Value → Option Value → Type 0
IsPadded ty None None = Unit {0}
IsPadded ty (Some x) (Some y) = x ≡ y
IsPadded (Some ty) None (Some y) = y ≡ zero_value ty
IsPadded (Some ty) (Some x) None = x ≡ zero_value ty
IsPadded None x y = ⊥

-- the names that statements assign get zeros, those that they un-assign have zeros and are removed, and nothing else changes
pub record Pads (types : Types) (stmts : StmtTree) (old new : State) : Type 0 where
  pub head : old.head ≡ new.head
  pub cells : old.cells ≡ new.cells
  pub after : live_names new.store ≡ live_after true stmts (live_names old.store)
  pub before : live_names old.store ≡ live_after false stmts (live_names new.store)
  pub padded : (name : Name) → IsPadded (types name) (old.store name) (new.store name)

-- the number of a bound, in a function whose own bound has this number; a difference stops at 0
abbrev pub bound_number : ℕ → BoundTree → ℕ
bound_number own (FixedBound number) = number
bound_number own (SameBound name) = own
bound_number own (LessBound name number) = own - number

-- the number with which a function runs. It does not run if it has the bound 0. A function without a bound runs, with 0, which it never
-- reads
abbrev pub running_bound : Option ℕ → Option ℕ
running_bound None = Some 0
running_bound (Some zero) = None
running_bound (Some (suc n)) = Some (suc n)

-- the number with which a callee runs
abbrev pub callee_bound : ℕ → Option BoundTree → Option ℕ
callee_bound own bound = running_bound (option_map (bound_number own) bound)

-- the names of the parameters of a callee, each with that of its argument
abbrev pub param_links : List ParamTree → List NameTree → List (Name × Name)
param_links [] args = []
param_links (param ∷ params) [] = []
param_links (param ∷ params) (arg ∷ args) = (param.name.text, arg.text) ∷ param_links params args

-- the names of a callee that its caller shares, each with that of the caller: the result with the target, and the parameters with the
-- arguments
abbrev pub links : FunTree → NameTree → List NameTree → List (Name × Name)
links fun target args = (fun.returned.text, target.text) ∷ param_links fun.params args

-- what a callee sees of its caller's store: the value of each shared name, under the callee's name
abbrev pub seen : List (Name × Name) → Store → Store
seen [] store name = None
seen (link ∷ more) store name = if bytes_eq link.0 name then store link.1 else seen more store name

-- what a callee sees of its caller's state; memory is the same for both
abbrev pub seen_by : List (Name × Name) → State → State
seen_by shared state = record state { store = seen shared state.store }

-- the caller's store after a call, from that of the callee: each shared name of the caller has what that of the callee has
abbrev pub put_back : List (Name × Name) → Store → Store → Store
put_back [] callee old name = old name
put_back (link ∷ more) callee old name = if bytes_eq link.1 name then callee link.0 else put_back more callee old name

-- each name of the caller that is not shared keeps its value, or has none on both sides
abbrev pub KeepsOthers : List (Name × Name) → Store → Store → Type 0
KeepsOthers shared old new = (name : Name) → is_one_of name (map (λ link. link.1) shared) ≡ false → new name ≡ old name
