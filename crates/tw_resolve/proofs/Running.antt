-- The state of a search after an alias is finished, and what the tables keep.
use Rattle.std.proofs.Common.{◌≡◌, ◌∙◌, ◌≤◌, ◌+◌, ℕ, Bool, true, ◌∷◌, Some, length, drop, slice_get, ap, sym, subst, arith}
use Rattle.std.proofs.lemmas.List.{length-map}
use Rattle.std.specs.List.{AllByRecursion}
use Rattle.tw_syntax.specs.Programs.{AliasTree, alias_tree}
use Rattle.tw_syntax.specs.Types.{WrittenTree}
use Rattle.tw_resolve.specs.declared.alias_search.Search.{Search}
use Rattle.tw_resolve.specs.declared.alias_table.AliasTable.{AliasTable}
use Rattle.tw_resolve.specs.declared.tables.Tables.{Tables}
use Rattle.tw_resolve.specs.declared.target_table.TargetTable.{TargetTable}
use Rattle.tw_resolve.specs.Declarations.{Name, declared_as}
use Rattle.tw_resolve.specs.Denotes.{Scope}
use Rattle.tw_resolve.specs.Entries.{aliases_in, table_targets}
use Rattle.tw_resolve.specs.Tables.{setting_in}
use Rattle.tw_resolve.specs.AliasTypes.{AreDenoted, AreResolvedIn, IsResolvedAlias, KeepsNames}
use Rattle.tw_resolve.specs.Searches.{Finish, names_in, tasks_in, IsFinding, IsSearching, Finishes}
use Rattle.tw_resolve.proofs.Searching.{finished}
use Rattle.tw_resolve.proofs.TextOrder.{AreInOrAfter, in_later, in_all}

-- what is kept twice is kept
pub kept_twice : {first second third : Tables} → KeepsNames first second → KeepsNames second third → KeepsNames first third
kept_twice one two = record {
  aliases = two.aliases ∙ one.aliases;
  targets = two.targets ∙ one.targets;
  funs = two.funs ∙ one.funs;
  widths = two.widths ∙ one.widths;
}

abbrev scope_at : AliasTable → TargetTable → Scope
scope_at aliases targets = record { declared = declared_as (aliases_in aliases.table.entries); targets = table_targets targets.table.entries }

-- what holds of the declared names stays
in_kept : (old new : Tables) → KeepsNames old new → (P : AliasTable → TargetTable → Type 0) → P old.aliases old.targets → P new.aliases new.targets
in_kept old new kept P holds =
    subst (λ (aliases : AliasTable). P aliases new.targets) (sym kept.aliases) (subst (λ (targets : TargetTable). P old.aliases targets) (sym kept.targets) holds)

pub resolved_kept : (old new : Tables) → KeepsNames old new → AreResolvedIn old → AreResolvedIn new
resolved_kept old new kept all =
    in_kept old new kept (λ aliases targets. AllByRecursion (IsResolvedAlias (scope_at aliases targets)) (aliases_in aliases.table.entries)) all

pub finding_after : (old new : Tables) (before after : Search) (name : Name) (body : WrittenTree) → KeepsNames old new → IsFinding old before
    → tasks_in before.tasks.items ≡ Finish name body ∷ tasks_in after.tasks.items → after.opened ≡ before.opened
    → Finishes (setting_in old).scope name (setting_in old).types (setting_in new).types → IsFinding new after
finding_after old new before after name body kept state tasks same finishes = record {
  denoted = in_kept old new kept (λ aliases targets. AreDenoted (scope_at aliases targets) (setting_in new).types) finishes.denoted;
  searching = in_kept old new kept
      (λ aliases targets. IsSearching (scope_at aliases targets) (setting_in new).types (names_in after.opened.set.keys) (tasks_in after.tasks.items)) searching;
}
  where
    on_top : IsSearching (setting_in old).scope (setting_in old).types (names_in before.opened.set.keys) (Finish name body ∷ tasks_in after.tasks.items)
    on_top = subst (IsSearching (setting_in old).scope (setting_in old).types (names_in before.opened.set.keys)) tasks state.searching

    searching : IsSearching (setting_in old).scope (setting_in new).types (names_in after.opened.set.keys) (tasks_in after.tasks.items)
    searching =
        subst (λ (names : Name → Bool). IsSearching (setting_in old).scope (setting_in new).types names (tasks_in after.tasks.items)) (sym (ap (λ names. names_in names.set.keys) same))
        (finished (setting_in old).scope (setting_in old).types (setting_in new).types (names_in before.opened.set.keys) name body (tasks_in after.tasks.items)
        finishes.others finishes.named on_top)

-- the aliases from a place on are those that are not opened yet, after the one at the place is
pub opened_kept : (old new : Tables) → KeepsNames old new → (names after : Name → Bool) (place : ℕ) (alias : AliasTree)
    → slice_get (aliases_in old.aliases.table.entries) place ≡ Some alias → ((name : Name) → names name ≡ true → after name ≡ true) → after alias.name.text ≡ true
    → AreInOrAfter names (drop place (aliases_in old.aliases.table.entries)) (declared_as (aliases_in old.aliases.table.entries))
    → AreInOrAfter after (drop (place + 1) (aliases_in new.aliases.table.entries)) (declared_as (aliases_in new.aliases.table.entries))
opened_kept old new kept names after place alias at stay now are =
    in_kept old new kept
    (λ aliases targets. AreInOrAfter after (drop (place + 1) (aliases_in aliases.table.entries)) (declared_as (aliases_in aliases.table.entries)))
    (in_later names after (aliases_in old.aliases.table.entries) place alias (declared_as (aliases_in old.aliases.table.entries)) at stay now are)

-- at the end all declared names are opened
pub opened_all : (old new : Tables) → KeepsNames old new → (names : Name → Bool) (place end : ℕ) → end ≡ length old.aliases.table.entries → end ≤ place
    → AreInOrAfter names (drop place (aliases_in new.aliases.table.entries)) (declared_as (aliases_in new.aliases.table.entries))
    → (name : Name) (body : WrittenTree) → declared_as (aliases_in new.aliases.table.entries) name ≡ Some body → names name ≡ true
opened_all old new kept names place end is past are =
    let same : length new.aliases.table.entries ≡ length old.aliases.table.entries = ap (λ aliases. length aliases.table.entries) kept.aliases in
    let mapped = length-map new.aliases.table.entries (λ entry. alias_tree entry.1.now) in
    in_all names (aliases_in new.aliases.table.entries) place (declared_as (aliases_in new.aliases.table.entries)) (omega arith) are
