-- The state of a search after an alias is opened with nothing to do before, and at the end.
use Rattle.std.proofs.Common.{◌≡◌, ◌∙◌, ◌||◌, ⊎_elim, true, List, [], ◌++◌, Option, Some, None, is_some, bytes_eq, ap, sym, subst, refl}
use Rattle.std.specs.List.{AllByRecursion}
use Rattle.tw_syntax.specs.Types.{WrittenTree}
use Rattle.tw_resolve.specs.declared.alias_search.Search.{Search}
use Rattle.tw_resolve.specs.declared.tables.Tables.{Tables}
use Rattle.tw_resolve.specs.Declarations.{Name, declared_as}
use Rattle.tw_resolve.specs.Denotes.{AreComplete, AreTypes}
use Rattle.tw_resolve.specs.Entries.{aliases_in}
use Rattle.tw_resolve.specs.Programs.{IsFinite}
use Rattle.tw_resolve.specs.Tables.{setting_in}
use Rattle.tw_resolve.specs.AliasTypes.{AreResolvedIn}
use Rattle.tw_resolve.specs.Searches.{TaskTree, HasType, names_in, tasks_in, body_tasks, IsFinding, IsSearching}
use Rattle.tw_resolve.proofs.Finishing.{are_types, all_finite}
use Rattle.tw_resolve.proofs.Searching.{opened_first}
use Rattle.tw_resolve.proofs.Visiting.{resolved_body}

-- the names of a set with one more
abbrev IsWith : Search → Search → Name → Type 0
IsWith before after name = (other : Name) → names_in after.opened.set.keys other ≡ (names_in before.opened.set.keys other || bytes_eq other name)

-- a new name is opened
pub finding_opened : (tables : Tables) (before after : Search) (name : Name) → AreResolvedIn tables → IsFinding tables before → tasks_in before.tasks.items ≡ []
    → is_some (declared_as (aliases_in tables.aliases.table.entries) name) ≡ true → IsWith before after name
    → tasks_in after.tasks.items ≡ body_tasks name (declared_as (aliases_in tables.aliases.table.entries) name) ++ tasks_in before.tasks.items
    → IsFinding tables after
finding_opened tables before after name all state done declared more tasks = record {
  denoted = state.denoted;
  searching = subst (IsSearching (setting_in tables).scope (setting_in tables).types (names_in after.opened.set.keys)) (sym whole) (by (declared_as (aliases_in tables.aliases.table.entries) name) refl declared);
}
  where
    whole : tasks_in after.tasks.items ≡ body_tasks name (declared_as (aliases_in tables.aliases.table.entries) name) ++ []
    whole = tasks ∙ ap (λ (rest : List TaskTree). body_tasks name (declared_as (aliases_in tables.aliases.table.entries) name) ++ rest) done

    at_start : IsSearching (setting_in tables).scope (setting_in tables).types (names_in before.opened.set.keys) []
    at_start = subst (IsSearching (setting_in tables).scope (setting_in tables).types (names_in before.opened.set.keys)) done state.searching

    by : (found : Option WrittenTree) → declared_as (aliases_in tables.aliases.table.entries) name ≡ found → is_some found ≡ true
        → IsSearching (setting_in tables).scope (setting_in tables).types (names_in after.opened.set.keys) (body_tasks name found ++ [])
    by None is some = absurd (cc some)
    by (Some body) is some =
        opened_first (setting_in tables).scope (setting_in tables).types (names_in before.opened.set.keys) (names_in after.opened.set.keys) name body is
        (resolved_body (setting_in tables).scope (aliases_in tables.aliases.table.entries) all name body is) more at_start

-- at the end each declared name has a type
all_typed : (tables : Tables) (search : Search) → IsFinding tables search → tasks_in search.tasks.items ≡ []
    → ((name : Name) (body : WrittenTree) → (setting_in tables).scope.declared name ≡ Some body → names_in search.opened.set.keys name ≡ true)
    → (name : Name) (body : WrittenTree) → (setting_in tables).scope.declared name ≡ Some body → HasType (setting_in tables).types name
all_typed tables search state done opened name body is =
    let at_end = subst (IsSearching (setting_in tables).scope (setting_in tables).types (names_in search.opened.set.keys)) done state.searching in
    ⊎_elim (λ (has : HasType (setting_in tables).types name). has) (λ none. absurd none) (at_end.known name (opened name body is))

pub found_types : (tables : Tables) (search : Search) → IsFinding tables search → tasks_in search.tasks.items ≡ []
    → ((name : Name) (body : WrittenTree) → (setting_in tables).scope.declared name ≡ Some body → names_in search.opened.set.keys name ≡ true)
    → AreTypes (setting_in tables).scope (setting_in tables).types
found_types tables search state done opened =
    are_types (setting_in tables).scope (setting_in tables).types state.denoted (all_typed tables search state done opened)

pub found_complete : (tables : Tables) (search : Search) → IsFinding tables search → tasks_in search.tasks.items ≡ []
    → ((name : Name) (body : WrittenTree) → (setting_in tables).scope.declared name ≡ Some body → names_in search.opened.set.keys name ≡ true)
    → AreComplete (setting_in tables).scope (setting_in tables).types
found_complete tables search state done opened name is = by ((setting_in tables).scope.declared name) refl is
  where
    by : (body : Option WrittenTree) → (setting_in tables).scope.declared name ≡ body → is_some body ≡ true → is_some ((setting_in tables).types name) ≡ true
    by (Some body) declared some = (let has = all_typed tables search state done opened name body declared in ap is_some has.1)
    by None declared some = absurd (cc some)

pub found_finite : (tables : Tables) (search : Search) → IsFinding tables search → tasks_in search.tasks.items ≡ []
    → ((name : Name) (body : WrittenTree) → (setting_in tables).scope.declared name ≡ Some body → names_in search.opened.set.keys name ≡ true)
    → AllByRecursion (IsFinite (setting_in tables).scope.declared) (aliases_in tables.aliases.table.entries)
found_finite tables search state done opened =
    all_finite (setting_in tables).scope (setting_in tables).types state.denoted (all_typed tables search state done opened) (aliases_in tables.aliases.table.entries)
