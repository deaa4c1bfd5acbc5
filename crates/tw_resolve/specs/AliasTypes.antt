-- What is needed to find the types of all aliases, and what is found.
use Rattle.std.specs.Prelude.{◌≡◌, true, List, Option, Some, is_some}
use Rattle.std.specs.List.{AllByRecursion}
use Rattle.tw_text.specs.declared.place.Pos.{Pos}
use Rattle.tw_text.specs.declared.refusal.Fault.{Fault}
use Rattle.tw_text.specs.declared.refusal.Fault.TheVariants as fault
use Rattle.tw_text.specs.declared.refusal.Refusal.{Refusal}
use Rattle.tw_text.specs.declared.refusal.Rule.TheVariants as rule
use Rattle.tw_text.specs.Refusals.{broken}
use Rattle.tw_syntax.specs.Names.{NameTree}
use Rattle.tw_syntax.specs.Programs.{AliasTree}
use Rattle.tw_syntax.specs.Types.{WrittenTree, NamedType}
use Rattle.tw_types.specs.Types.{Ty}
use Rattle.tw_resolve.specs.declared.tables.Tables.{Tables}
use Rattle.tw_resolve.specs.Declarations.{Name, target_number, targets_in}
use Rattle.tw_resolve.specs.Denotes.{Scope, names_declared, Denotes, IsRecursive}
use Rattle.tw_resolve.specs.Entries.{aliases_in}
use Rattle.tw_resolve.specs.Programs.{IsFirstRecursive}
use Rattle.tw_resolve.specs.Tables.{setting_in}

-- a target has a number
abbrev pub IsNumbered : List WrittenTree → WrittenTree → Type 0
IsNumbered targets to = is_some (target_number targets to) ≡ true

-- each name in a written type is declared, and each target in it has a number
pub record IsResolved (scope : Scope) (written : WrittenTree) : Type 0 where
  pub names : names_declared scope.declared written ≡ true
  pub targets : AllByRecursion (IsNumbered scope.targets) (targets_in written)

-- the same holds of the body of an alias
abbrev pub IsResolvedAlias : Scope → AliasTree → Type 0
IsResolvedAlias scope alias = IsResolved scope alias.body

-- each type of a table is one that its name denotes
abbrev pub AreDenoted : Scope → (Name → Option Ty) → Type 0
AreDenoted scope types = (at : Pos) (name : Name) (ty : Ty) → types name ≡ Some ty → Denotes scope (NamedType at name) ty

-- some alias contains itself
abbrev pub HasRecursion : (Name → Option WrittenTree) → Type 0
HasRecursion declared = (name : Name) × IsRecursive declared name

-- the refusal of the first alias that contains itself
abbrev pub IsFirstRecursion : (Name → Option WrittenTree) → List AliasTree → Refusal → Type 0
IsFirstRecursion declared aliases refusal =
    (name : NameTree) × IsFirstRecursive declared aliases name × (refusal ≡ broken rule.RecursiveType name.at)

-- a fault is that refusal; memory may run out at any time
abbrev pub IsRecursionFault : (Name → Option WrittenTree) → List AliasTree → Fault → Type 0
IsRecursionFault declared aliases (fault.Refused refusal) = IsFirstRecursion declared aliases refusal
IsRecursionFault declared aliases fault.Memory = Unit {0}

-- the bodies of the aliases of a program are resolved
abbrev pub AreResolvedIn : Tables → Type 0
AreResolvedIn tables = AllByRecursion (IsResolvedAlias (setting_in tables).scope) (aliases_in tables.aliases.table.entries)

-- a fault is that of the aliases of a program
abbrev pub IsRecursionFaultIn : Tables → Fault → Type 0
IsRecursionFaultIn tables = IsRecursionFault (setting_in tables).scope.declared (aliases_in tables.aliases.table.entries)

-- the declared names are as before; the types may differ
pub record KeepsNames (old new : Tables) : Type 0 where
  pub aliases : new.aliases ≡ old.aliases
  pub targets : new.targets ≡ old.targets
  pub funs : new.funs ≡ old.funs
  pub widths : new.types.widths ≡ old.types.widths
