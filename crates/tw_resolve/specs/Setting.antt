-- What the rules of types refer to, the types of written types, and the rules on their sizes and names.
use Rattle.std.specs.Prelude.{◌≡◌, ℕ, ◌^◌, ◌-◌, min, Bool, true, if◌then◌else◌, List, [], ◌∷◌, ◌++◌, slice_get, Option, Some, None, is_some, option_map, option_and_then}
use Rattle.tw_text.specs.declared.place.Pos.{Pos}
use Rattle.tw_text.specs.declared.refusal.Rule.TheVariants as rule
use Rattle.tw_syntax.specs.Programs.{FunTree}
use Rattle.tw_syntax.specs.Types.{WrittenTree, UnitType, UintType, BoolType, PairType, PtrType, NamedType, written_place}
use Rattle.tw_types.specs.Types.{Widths, Ty, UnitTy, Word, Boolean, Pointer, PairTy, depth, extent, same_ty}
use Rattle.tw_types.specs.declared.types.TheConstants.{TYPE_DEPTH_LIMIT, EXTENT_LIMIT}
use Rattle.tw_resolve.specs.Demands.{Demand, demand, demand_within}
use Rattle.tw_resolve.specs.Declarations.{Name, target_number}
use Rattle.tw_resolve.specs.Denotes.{Scope, names_declared}

-- the widths, the declared names with their types, and the functions
pub record Setting : Type 0 where
  pub widths : Widths
  pub scope : Scope
  pub types : Name → Option Ty
  pub funs : List FunTree

-- a pair of types, if both are known
abbrev pub pair_of : Option Ty → Option Ty → Option Ty
pair_of (Some first) (Some second) = Some (PairTy first second)
pair_of first second = None

-- the type of a pointer to a target; none if a name in the target is not declared
abbrev pub pointer_to : Scope → WrittenTree → Option Ty
pointer_to scope to = if names_declared scope.declared to then option_map Pointer (target_number scope.targets to) else None

-- the type of a written type
abbrev pub type_of : Setting → WrittenTree → Option Ty
type_of setting (UnitType at) = Some UnitTy
type_of setting (UintType at) = Some Word
type_of setting (BoolType at) = Some Boolean
type_of setting (PairType at first second) = pair_of (type_of setting first) (type_of setting second)
type_of setting (PtrType at to) = pointer_to setting.scope to
type_of setting (NamedType at name) = setting.types name

-- a written type has a type
abbrev pub IsKnown : Setting → WrittenTree → Type 0
IsKnown setting written = is_some (type_of setting written) ≡ true

-- the type that the target of a pointer denotes
abbrev pub pointee : Setting → Option Ty → Option Ty
pointee setting (Some (Pointer target)) = option_and_then (type_of setting) (slice_get setting.scope.targets target)
pointee setting ty = None

-- the greatest number that a refusal can report
abbrev pub reported : ℕ → ℕ
reported number = min number (2 ^ 64 - 1)

-- a type is not too deep and not too large
abbrev pub size_rules : Setting → Pos → Option Ty → List Demand
size_rules setting at None = []
size_rules setting at (Some ty) =
    demand_within rule.TypeTooDeep at (reported (depth ty)) TYPE_DEPTH_LIMIT
    ∷ demand_within rule.TypeTooLarge at (reported (extent setting.widths ty)) EXTENT_LIMIT
    ∷ []

-- the names in a written type are declared, and no target in it is too deep or too large
abbrev pub part_rules : Setting → WrittenTree → List Demand
part_rules setting (PairType at first second) = part_rules setting first ++ part_rules setting second
part_rules setting (PtrType at to) = size_rules setting (written_place to) (type_of setting to) ++ part_rules setting to
part_rules setting (NamedType at name) = demand rule.UnknownName at (is_some (setting.scope.declared name)) ∷ []
part_rules setting other = []

-- the rules of a written type: its own size, and then its parts
abbrev pub written_rules : Setting → WrittenTree → List Demand
written_rules setting written = size_rules setting (written_place written) (type_of setting written) ++ part_rules setting written

-- whether a type is the one that is needed; it is if none is needed, or if an earlier rule is broken and a type is not known
abbrev pub fits : Option Ty → Option Ty → Bool
fits (Some needed) (Some ty) = same_ty needed ty
fits needed ty = true
