-- The state of the search for the types of aliases.
use denote.Bor.{Bor}
use Rattle.std.specs.Prelude.{◌≡◌, ◌⊎◌, ℕ, ◌+◌, Bool, true, List, [], ◌∷◌, map, reverse, Option, Some, None, if◌then◌else◌}
use Rattle.std.specs.List.{list_any}
use Rattle.std.specs.Str.{bytes_eq}
use Rattle.tw_syntax.specs.Programs.{AliasTree}
use Rattle.tw_syntax.specs.Types.{WrittenTree, PairType, written_tree}
use Rattle.tw_types.specs.Types.{Ty}
use Rattle.tw_resolve.specs.declared.alias_search.Search.{Search}
use Rattle.tw_resolve.specs.declared.alias_search.Task.{Task}
use Rattle.tw_resolve.specs.declared.alias_search.Task.TheVariants as task
use Rattle.tw_resolve.specs.declared.tables.Tables.{Tables}
use Rattle.tw_resolve.specs.Declarations.{Name}
use Rattle.tw_resolve.specs.Denotes.{Scope, Reaches, names_outside_pointers}
use Rattle.tw_resolve.specs.AliasTypes.{IsResolved, AreDenoted}
use Rattle.tw_resolve.specs.Entries.{aliases_in}
use Rattle.tw_resolve.specs.Tables.{setting_in}

-- whether a name is in a set of names
abbrev pub names_in : List (Bor (List ℕ)) → Name → Bool
names_in keys name = list_any (λ key. bytes_eq name key.now) keys

-- what a search has yet to do: visit the names in a written type, or find the type of an alias
pub data TaskTree : Type 0 where
  Visit : (written : WrittenTree) → TaskTree
  Finish : (name : Name) (body : WrittenTree) → TaskTree

abbrev pub task_tree : Task → TaskTree
task_tree (task.Visit written) = Visit (written_tree written.now)
task_tree (task.Finish name body) = Finish name.now (written_tree body.now)

-- the tasks of a search, the next first
abbrev pub tasks_in : List Task → List TaskTree
tasks_in tasks = reverse (map task_tree tasks)

-- a name has a type
abbrev pub HasType : (Name → Option Ty) → Name → Type 0
HasType types name = (ty : Ty) × (types name ≡ Some ty)

-- the name of an alias that is yet to be finished
abbrev pub IsOpen : Name → List TaskTree → Type 0
IsOpen name [] = ⊥
IsOpen name (Visit written ∷ tasks) = IsOpen name tasks
IsOpen name (Finish other body ∷ tasks) = (other ≡ name) ⊎ IsOpen name tasks

-- an alias that is yet to be finished, after what is above it: it leads to all names above, and each name in its body has a type or is above
pub record IsFinishable (scope : Scope) (types : Name → Option Ty) (above : Name → Type 0) (name : Name) (body : WrittenTree) : Type 0 where
  pub declared : scope.declared name ≡ Some body
  pub resolved : IsResolved scope body
  pub leads : (other : Name) → above other → Reaches scope.declared name other
  pub parts : (other : Name) → names_outside_pointers body other ≡ true → HasType types other ⊎ above other

-- the tasks after those that speak of the names above
abbrev pub AreOrderly : Scope → (Name → Option Ty) → (Name → Type 0) → List TaskTree → Type 0
AreOrderly scope types above [] = Unit {0}
AreOrderly scope types above (Visit written ∷ tasks) =
    IsResolved scope written
    × AreOrderly scope types (λ name. (names_outside_pointers written name ≡ true) ⊎ above name) tasks
AreOrderly scope types above (Finish name body ∷ tasks) =
    IsFinishable scope types above name body
    × AreOrderly scope types (λ other. (name ≡ other) ⊎ above other) tasks

abbrev pub nothing_above : Name → Type 0
nothing_above name = ⊥

-- a search, by the types that it found, the aliases that it opened and its tasks
pub record IsSearching (scope : Scope) (types : Name → Option Ty) (opened : Name → Bool) (tasks : List TaskTree) : Type 0 where
  pub orderly : AreOrderly scope types nothing_above tasks
  pub known : (name : Name) → opened name ≡ true → HasType types name ⊎ IsOpen name tasks

-- the number of parts of a written type
abbrev pub part_count : WrittenTree → ℕ
part_count (PairType at first second) = 1 + (part_count first + part_count second)
part_count other = 1

-- the steps that tasks take
abbrev pub task_steps : List TaskTree → ℕ
task_steps [] = 0
task_steps (Visit written ∷ tasks) = part_count written + task_steps tasks
task_steps (Finish name body ∷ tasks) = 1 + task_steps tasks

-- the steps that are taken once for each alias that is not in a set
abbrev pub alias_steps : (Name → Bool) → List AliasTree → ℕ
alias_steps names [] = 0
alias_steps names (alias ∷ aliases) = (if names alias.name.text then 0 else 1 + part_count alias.body) + alias_steps names aliases

-- the steps that a search still takes at most
abbrev pub steps_left : Tables → (Name → Bool) → List TaskTree → ℕ
steps_left tables opened tasks = task_steps tasks + alias_steps opened (aliases_in tables.aliases.table.entries)

-- the tasks that open an alias
abbrev pub body_tasks : Name → Option WrittenTree → List TaskTree
body_tasks name None = []
body_tasks name (Some body) = Visit body ∷ Finish name body ∷ []

-- the types that were found are denoted, and the search has its tasks for the others
pub record IsFinding (tables : Tables) (search : Search) : Type 0 where
  pub denoted : AreDenoted (setting_in tables).scope (setting_in tables).types
  pub searching : IsSearching (setting_in tables).scope (setting_in tables).types (names_in search.opened.set.keys) (tasks_in search.tasks.items)

-- a name has got a type, and the others keep theirs
pub record Finishes (scope : Scope) (name : Name) (old new : Name → Option Ty) : Type 0 where
  pub denoted : AreDenoted scope new
  pub named : HasType new name
  pub others : (other : Name) → HasType old other → HasType new other
