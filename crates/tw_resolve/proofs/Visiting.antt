-- The steps of the search for the types of aliases, by the tables of the code.
use Rattle.std.proofs.Common.{◌≡◌, ◌∙◌, ◌||◌, if◌then◌else◌, ◌+◌, ◌≤◌, ◌<◌, Bool, true, false, not, List, [], ◌∷◌, ◌++◌, Option, Some, None, is_some, option_map, bytes_eq, ap, sym, subst, refl, arith}
use Rattle.std.specs.List.{AllByRecursion}
use Rattle.tw_text.specs.declared.place.Pos.{Pos}
use Rattle.tw_syntax.specs.Programs.{AliasTree}
use Rattle.tw_syntax.specs.Types.{WrittenTree, PairType, NamedType}
use Rattle.tw_types.specs.Types.{Ty}
use Rattle.tw_resolve.specs.Declarations.{Name, declared_as}
use Rattle.tw_resolve.specs.Denotes.{Scope, names_outside_pointers}
use Rattle.tw_resolve.specs.AliasTypes.{IsResolved, IsResolvedAlias, HasRecursion}
use Rattle.tw_resolve.specs.Searches.{TaskTree, Visit, IsSearching, body_tasks, part_count, task_steps, alias_steps}
use Rattle.tw_resolve.proofs.Searching.{visited, visited_name, visited_pair, opened_name, recursion_met}
use Rattle.tw_resolve.proofs.Steps.{steps_stay, steps_once}

-- the scope of aliases and targets
abbrev pub scope_with : List AliasTree → List WrittenTree → Scope
scope_with aliases targets = record { declared = declared_as aliases; targets = targets }

-- the body of a declared name is resolved
pub resolved_body : (scope : Scope) (aliases : List AliasTree) → AllByRecursion (IsResolvedAlias scope) aliases → (name : Name) (body : WrittenTree)
    → declared_as aliases name ≡ Some body → IsResolved scope body
resolved_body scope [] all name body is = absurd (cc is)
resolved_body scope (alias ∷ aliases) all name body is = by (bytes_eq name alias.name.text) is (resolved_body scope aliases all.1 name body)
  where
    by : (k : Bool) → (if k then Some alias.body else declared_as aliases name) ≡ Some body → (declared_as aliases name ≡ Some body → IsResolved scope body) → IsResolved scope body
    by true same rest = (let equal : alias.body ≡ body = cc same in subst (IsResolved scope) equal all.0)
    by false other rest = rest other

-- a set that does not have a name, by a test of it
pub was_new : (k : Bool) → true ≡ not k → k ≡ false
was_new true is = absurd (cc is)
was_new false is = refl

pub was_there : (k : Bool) → false ≡ not k → k ≡ true
was_there true is = refl
was_there false is = absurd (cc is)

module _ (aliases : List AliasTree) (targets : List WrittenTree) (types : Name → Option Ty) (opened : Name → Bool) (tree : WrittenTree) (tasks : List TaskTree)
    (state : IsSearching (scope_with aliases targets) types opened (Visit tree ∷ tasks)) where
  -- the state with an equal written type
  written_as : (other : WrittenTree) → tree ≡ other → IsSearching (scope_with aliases targets) types opened (Visit other ∷ tasks)
  written_as other is = subst (λ (w : WrittenTree). IsSearching (scope_with aliases targets) types opened (Visit w ∷ tasks)) is state

  pub leaf_visited : (other : WrittenTree) → tree ≡ other → ((name : Name) → names_outside_pointers other name ≡ false)
      → IsSearching (scope_with aliases targets) types opened tasks
  leaf_visited other is none = visited (scope_with aliases targets) types opened other tasks (λ name names. absurd (differ name names)) (written_as other is)
    where
      differ : (name : Name) → names_outside_pointers other name ≡ true → ⊥
      differ name names = (let off = none name in cc (off, names))

  pub typed_visited : (at : Pos) (name : Name) → tree ≡ NamedType at name → is_some (types name) ≡ true → IsSearching (scope_with aliases targets) types opened tasks
  typed_visited at name is has = visited_name (scope_with aliases targets) types opened at name tasks has (written_as (NamedType at name) is)

  pub pair_visited : (after : Name → Bool) (at : Pos) (first second : WrittenTree) (middle last : List TaskTree) → after ≡ opened → tree ≡ PairType at first second
      → middle ≡ Visit second ∷ tasks → last ≡ Visit first ∷ middle → IsSearching (scope_with aliases targets) types after last
  pair_visited after at first second middle last stays is one two =
      let same : Visit first ∷ Visit second ∷ tasks ≡ last = sym (two ∙ ap (λ (ts : List TaskTree). Visit first ∷ ts) one) in
      let pair = subst (IsSearching (scope_with aliases targets) types opened) same
      (visited_pair (scope_with aliases targets) types opened at first second tasks (written_as (PairType at first second) is)) in
      subst (λ (names : Name → Bool). IsSearching (scope_with aliases targets) types names last) (sym stays) pair

  -- the name of a written type is declared
  pub name_declared : (at : Pos) (name : Name) → tree ≡ NamedType at name → is_some (declared_as aliases name) ≡ true
  name_declared at name is = (written_as (NamedType at name) is).orderly.0.names

  pub name_opened : AllByRecursion (IsResolvedAlias (scope_with aliases targets)) aliases → (after : Name → Bool) (at : Pos) (name : Name) (last : List TaskTree)
      → tree ≡ NamedType at name → ((other : Name) → after other ≡ (opened other || bytes_eq other name))
      → last ≡ body_tasks name (declared_as aliases name) ++ tasks → IsSearching (scope_with aliases targets) types after last
  name_opened all after at name last is more same =
      subst (IsSearching (scope_with aliases targets) types after) (sym same) (by (declared_as aliases name) refl (name_declared at name is))
    where
      by : (found : Option WrittenTree) → declared_as aliases name ≡ found → is_some found ≡ true
          → IsSearching (scope_with aliases targets) types after (body_tasks name found ++ tasks)
      by None found_is some = absurd (cc some)
      by (Some body) found_is some =
          opened_name (scope_with aliases targets) types opened after at name body tasks found_is (resolved_body (scope_with aliases targets) aliases all name body found_is) more
          (written_as (NamedType at name) is)

  pub name_met : (at : Pos) (name : Name) → tree ≡ NamedType at name → opened name ≡ true → is_some (types name) ≡ false → HasRecursion (declared_as aliases)
  name_met at name is there none = recursion_met (scope_with aliases targets) types opened at name tasks there none (written_as (NamedType at name) is)

-- the steps of a name that is opened
pub opened_steps : (aliases : List AliasTree) (opened after : Name → Bool) (tree : WrittenTree) (at : Pos) (name : Name) (tasks last : List TaskTree)
    → tree ≡ NamedType at name → opened name ≡ false → ((other : Name) → after other ≡ (opened other || bytes_eq other name))
    → last ≡ body_tasks name (declared_as aliases name) ++ tasks
    → task_steps last + alias_steps after aliases < task_steps (Visit tree ∷ tasks) + alias_steps opened aliases
opened_steps aliases opened after tree at name tasks last is new more same =
    let steps : part_count tree ≡ 1 = ap part_count is in
    let less = by (declared_as aliases name) refl in
    let last_steps : task_steps last ≡ task_steps (body_tasks name (declared_as aliases name) ++ tasks) = ap task_steps same in
    omega arith
  where
    by : (found : Option WrittenTree) → declared_as aliases name ≡ found
        → task_steps (body_tasks name found ++ tasks) + alias_steps after aliases ≤ task_steps tasks + alias_steps opened aliases
    by None found_is = (let stay = steps_stay opened after name more aliases in omega arith)
    by (Some body) found_is = (let once = steps_once opened after name body more new aliases found_is in omega arith)

-- the tasks of a name that is new
pub tasks_if : (k : Bool) (added tasks last : List TaskTree) → k ≡ true → last ≡ (if k then added else []) ++ tasks → last ≡ added ++ tasks
tasks_if true added tasks last is same = same
tasks_if false added tasks last is same = absurd (cc is)

-- whether a name has a type, by what was found
pub is_some_as : {X : Type 0} (tree : X → Ty) (found : Option X) (ty : Option Ty) (k : Bool) → option_map tree found ≡ ty → k ≡ is_some found → is_some ty ≡ k
is_some_as tree found ty k is test = sym (ap is_some is) ∙ by found ∙ sym test
  where
    by : (f : Option _) → is_some (option_map tree f) ≡ is_some f
    by None = refl
    by (Some x) = refl
