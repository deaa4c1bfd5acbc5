-- The type that a written type denotes.
use Rattle.std.specs.Prelude.{◌≡◌, ◌↔◌, ℕ, Bool, true, false, ◌||◌, ◌&&◌, List, Option, Some, is_some}
use Rattle.std.specs.Str.{bytes_eq}
use Rattle.tw_text.specs.declared.place.Pos.{Pos}
use Rattle.tw_syntax.specs.Programs.{ProgramTree}
use Rattle.tw_syntax.specs.Types.{WrittenTree, UnitType, UintType, BoolType, PairType, PtrType, NamedType}
use Rattle.tw_types.specs.Types.{Ty, UnitTy, Word, Boolean, Pointer, PairTy}
use Rattle.tw_resolve.specs.Declarations.{Name, aliases_of, declared_as, targets_of, target_number}

-- what written types refer to: what each alias is declared as, and the targets of pointers
pub record Scope : Type 0 where
  pub declared : Name → Option WrittenTree
  pub targets : List WrittenTree

abbrev pub scope_of : ProgramTree → Scope
scope_of program = record { declared = declared_as (aliases_of program.decls); targets = targets_of program }

-- whether each name in a written type is declared
abbrev pub names_declared : (Name → Option WrittenTree) → WrittenTree → Bool
names_declared declared (PairType at first second) = names_declared declared first && names_declared declared second
names_declared declared (PtrType at to) = names_declared declared to
names_declared declared (NamedType at name) = is_some (declared name)
names_declared declared other = true

-- the written type denotes the type: a name outside pointers denotes what its declaration denotes, and a pointer keeps its target as
-- it is written, by number. A type with an undeclared name denotes nothing
pub data Denotes (scope : Scope) : WrittenTree → Ty → Type 0 where
  DenotesUnit : {at : Pos} → Denotes scope (UnitType at) UnitTy
  DenotesWord : {at : Pos} → Denotes scope (UintType at) Word
  DenotesBoolean : {at : Pos} → Denotes scope (BoolType at) Boolean
  DenotesPair : {at : Pos} {first second : WrittenTree} {ty other : Ty}
      → Denotes scope first ty → Denotes scope second other → Denotes scope (PairType at first second) (PairTy ty other)
  DenotesPointer : {at : Pos} {to : WrittenTree} (number : ℕ)
      → names_declared scope.declared to ≡ true → target_number scope.targets to ≡ Some number → Denotes scope (PtrType at to) (Pointer number)
  DenotesNamed : {at : Pos} {name : Name} {ty : Ty} (body : WrittenTree)
      → scope.declared name ≡ Some body → Denotes scope body ty → Denotes scope (NamedType at name) ty

-- the types of the declared names
abbrev pub AreTypes : Scope → (Name → Option Ty) → Type 0
AreTypes scope types = (at : Pos) (name : Name) (ty : Ty) → (types name ≡ Some ty) ↔ Denotes scope (NamedType at name) ty

-- each declared name has a type
abbrev pub AreComplete : Scope → (Name → Option Ty) → Type 0
AreComplete scope types = (name : Name) → is_some (scope.declared name) ≡ true → is_some (types name) ≡ true

-- whether a written type names an alias outside pointers
abbrev pub names_outside_pointers : WrittenTree → Name → Bool
names_outside_pointers (PairType at first second) name = names_outside_pointers first name || names_outside_pointers second name
names_outside_pointers (NamedType at other) name = bytes_eq other name
names_outside_pointers other name = false

-- one alias leads to another through written types outside pointers
pub data Reaches (declared : Name → Option WrittenTree) : Name → Name → Type 0 where
  ReachesNext : {name next : Name} (body : WrittenTree)
      → declared name ≡ Some body → names_outside_pointers body next ≡ true → Reaches declared name next
  ReachesOn : {name next last : Name} (body : WrittenTree)
      → declared name ≡ Some body → names_outside_pointers body next ≡ true → Reaches declared next last → Reaches declared name last

-- the alias contains itself
abbrev pub IsRecursive : (Name → Option WrittenTree) → Name → Type 0
IsRecursive declared name = Reaches declared name name
