-- The steps of the search for the types of aliases.
use Rattle.std.proofs.Common.{◌≡◌, ◌∙◌, ◌⊎◌, ◌||◌, ⊎_elim, inl, inr, Bool, true, false, List, [], ◌∷◌, Option, Some, None, is_some, bytes_eq, sym, subst, refl}
use Rattle.std.proofs.lemmas.Bool.{or_cases, and_parts}
use Rattle.std.proofs.lemmas.Slice.Eq.{bytes_eq-Decides}
use Rattle.tw_text.specs.declared.place.Pos.{Pos}
use Rattle.tw_syntax.specs.Types.{WrittenTree, PairType, NamedType}
use Rattle.tw_types.specs.Types.{Ty}
use Rattle.tw_resolve.specs.Declarations.{Name, targets_in}
use Rattle.tw_resolve.specs.Denotes.{Scope, names_declared, Reaches, ReachesNext, names_outside_pointers}
use Rattle.tw_resolve.specs.AliasTypes.{IsResolved, HasRecursion}
use Rattle.tw_resolve.specs.Searches.{TaskTree, Visit, Finish, HasType, IsOpen, AreOrderly, nothing_above, IsSearching}
use Rattle.tw_resolve.proofs.Denoting.{reaches_by}
use Rattle.tw_resolve.proofs.Each.{each_first, each_rest}

same_name : (name other : Name) → bytes_eq name other ≡ true → name ≡ other
same_name name other is = (bytes_eq-Decides name other).0 is

is_same : (name other : Name) → name ≡ other → bytes_eq name other ≡ true
is_same name other is = (bytes_eq-Decides name other).1 is

-- what holds above stays as it is below, for names that a task adds
down : {types : Name → Option Ty} {above later : Name → Type 0} (added : Name → Type 0)
    → ((name : Name) → above name → HasType types name ⊎ later name)
    → (name : Name) → added name ⊎ above name → HasType types name ⊎ (added name ⊎ later name)
down added moves name (inl is) = inr (inl is)
down added moves name (inr is) = ⊎_elim (λ has. inl has) (λ still. inr (inr still)) (moves name is)

-- a name leads to a name, or one that is above does
abbrev IsLed : (Name → Option WrittenTree) → (Name → Type 0) → Name → Type 0
IsLed declared above name = above name ⊎ ((first : Name) × above first × Reaches declared first name)

led : {declared : Name → Option WrittenTree} {above later : Name → Type 0} (added : Name → Type 0)
    → ((name : Name) → later name → IsLed declared above name)
    → (name : Name) → added name ⊎ later name → IsLed declared (λ other. added other ⊎ above other) name
led added leads name (inl is) = inl (inl is)
led added leads name (inr is) = ⊎_elim (λ was. inl (inr was)) (λ by. inr (by.0, inr by.1, by.2)) (leads name is)

-- tasks stay in order, if names above get types, and those that come above are reached from names that were there
moved : (scope : Scope) (types after : Name → Option Ty) (above later : Name → Type 0) (tasks : List TaskTree)
    → ((name : Name) → HasType types name → HasType after name)
    → ((name : Name) → above name → HasType after name ⊎ later name)
    → ((name : Name) → later name → IsLed scope.declared above name)
    → AreOrderly scope types above tasks → AreOrderly scope after later tasks
moved scope types after above later [] keeps moves leads orderly = tt
moved scope types after above later (Visit written ∷ tasks) keeps moves leads orderly =
    let added : Name → Type 0 = λ name. names_outside_pointers written name ≡ true in
    (orderly.0, moved scope types after (λ name. added name ⊎ above name) (λ name. added name ⊎ later name) tasks keeps (down added moves) (led added leads) orderly.1)
moved scope types after above later (Finish alias body ∷ tasks) keeps moves leads orderly =
    let added : Name → Type 0 = λ name. alias ≡ name in
    let was = orderly.0 in (
      record {
        declared = was.declared;
        resolved = was.resolved;
        leads = λ name is. ⊎_elim (λ there. was.leads name there) (λ by. reaches_by (was.leads by.0 by.1) by.2) (leads name is);
        parts = λ name is. ⊎_elim (λ has. inl (keeps name has)) (λ there. moves name there) (was.parts name is);
      },
      moved scope types after (λ name. added name ⊎ above name) (λ name. added name ⊎ later name) tasks keeps (down added moves) (led added leads) orderly.1,
    )

-- a written type whose names outside pointers have types is done
pub visited : (scope : Scope) (types : Name → Option Ty) (opened : Name → Bool) (written : WrittenTree) (tasks : List TaskTree)
    → ((name : Name) → names_outside_pointers written name ≡ true → HasType types name)
    → IsSearching scope types opened (Visit written ∷ tasks) → IsSearching scope types opened tasks
visited scope types opened written tasks have state = record {
  orderly = moved scope types types _ nothing_above tasks (λ name has. has)
      (λ name is. ⊎_elim (λ names. inl (have name names)) (λ none. absurd none) is) (λ name none. absurd none) state.orderly.1;
  known = state.known;
}

-- a name that has a type is done
pub visited_name : (scope : Scope) (types : Name → Option Ty) (opened : Name → Bool) (at : Pos) (name : Name) (tasks : List TaskTree)
    → is_some (types name) ≡ true
    → IsSearching scope types opened (Visit (NamedType at name) ∷ tasks) → IsSearching scope types opened tasks
visited_name scope types opened at name tasks has state =
    visited scope types opened (NamedType at name) tasks (λ other is. subst (HasType types) (same_name name other is) (some (types name) has)) state
  where
    some : (found : Option Ty) → is_some found ≡ true → (ty : Ty) × (found ≡ Some ty)
    some (Some ty) is = (ty, refl)
    some None is = absurd (cc is)

-- a pair is visited by its halves
pub resolved_first : {scope : Scope} (at : Pos) (first second : WrittenTree) → IsResolved scope (PairType at first second) → IsResolved scope first
resolved_first {scope} at first second is = record {
  names = (and_parts (names_declared scope.declared first) (names_declared scope.declared second) is.names).0;
  targets = each_first _ (targets_in first) (targets_in second) is.targets;
}

pub resolved_second : {scope : Scope} (at : Pos) (first second : WrittenTree) → IsResolved scope (PairType at first second) → IsResolved scope second
resolved_second {scope} at first second is = record {
  names = (and_parts (names_declared scope.declared first) (names_declared scope.declared second) is.names).1;
  targets = each_rest _ (targets_in first) (targets_in second) is.targets;
}

pub visited_pair : (scope : Scope) (types : Name → Option Ty) (opened : Name → Bool) (at : Pos) (first second : WrittenTree) (tasks : List TaskTree)
    → IsSearching scope types opened (Visit (PairType at first second) ∷ tasks) → IsSearching scope types opened (Visit first ∷ Visit second ∷ tasks)
visited_pair scope types opened at first second tasks state = record {
  orderly = (
    resolved_first at first second state.orderly.0,
    (
      resolved_second at first second state.orderly.0,
      moved scope types types _ _ tasks (λ name has. has)
          (λ name is. ⊎_elim (λ names. inr (halves name names)) (λ none. absurd none) is)
          (λ name is. inl (inl (joined name is))) state.orderly.1,
    ),
  );
  known = state.known;
}
  where
    halves : (name : Name) → names_outside_pointers (PairType at first second) name ≡ true
        → (names_outside_pointers second name ≡ true) ⊎ ((names_outside_pointers first name ≡ true) ⊎ ⊥)
    halves name is = ⊎_elim (λ left. inr (inl left)) (λ right. inl right) (or_cases (names_outside_pointers first name) (names_outside_pointers second name) is)

    joined : (name : Name) → (names_outside_pointers second name ≡ true) ⊎ ((names_outside_pointers first name ≡ true) ⊎ ⊥)
        → names_outside_pointers (PairType at first second) name ≡ true
    joined name (inl right) = elim (names_outside_pointers first name) as (λ k. (k || names_outside_pointers second name) ≡ true) [ true ↦ refl | false ↦ right ]
    joined name (inr (inl left)) = rw left refl
    joined name (inr (inr none)) = absurd none

-- the names that are open after one more
after_open : (types : Name → Option Ty) (opened after : Name → Bool) (name : Name) (body : WrittenTree) (tasks : List TaskTree)
    → ((other : Name) → after other ≡ (opened other || bytes_eq other name))
    → ((other : Name) → opened other ≡ true → HasType types other ⊎ IsOpen other tasks)
    → (other : Name) → after other ≡ true → HasType types other ⊎ IsOpen other (Visit body ∷ Finish name body ∷ tasks)
after_open types opened after name body tasks more known other is =
    ⊎_elim (λ was. ⊎_elim (λ has. inl has) (λ waits. inr (inr waits)) (known other was)) (λ same. inr (inl (sym (same_name other name same))))
    (or_cases (opened other) (bytes_eq other name) (sym (more other) ∙ is))

-- a name that is opened is replaced by its body, with its alias to be finished after it
pub opened_name : (scope : Scope) (types : Name → Option Ty) (opened after : Name → Bool) (at : Pos) (name : Name) (body : WrittenTree) (tasks : List TaskTree)
    → scope.declared name ≡ Some body → IsResolved scope body
    → ((other : Name) → after other ≡ (opened other || bytes_eq other name))
    → IsSearching scope types opened (Visit (NamedType at name) ∷ tasks) → IsSearching scope types after (Visit body ∷ Finish name body ∷ tasks)
opened_name scope types opened after at name body tasks declared resolved more state = record {
  orderly = (
    resolved,
    (
      record {
        declared = declared;
        resolved = resolved;
        leads = λ other is. ⊎_elim (λ names. ReachesNext body declared names) (λ none. absurd none) is;
        parts = λ other is. inr (inl is);
      },
      moved scope types types _ _ tasks (λ other has. has)
          (λ other is. ⊎_elim (λ same. inr (inl (same_name name other same))) (λ none. absurd none) is)
          (λ other is. leads other is) state.orderly.1,
    ),
  );
  known = after_open types opened after name body tasks more state.known;
}
  where
    leads : (other : Name) → (name ≡ other) ⊎ ((names_outside_pointers body other ≡ true) ⊎ ⊥)
        → IsLed scope.declared (λ third. (bytes_eq name third ≡ true) ⊎ ⊥) other
    leads other (inl same) = inl (inl (is_same name other same))
    leads other (inr (inl names)) = inr (name, inl (is_same name name refl), ReachesNext body declared names)
    leads other (inr (inr none)) = absurd none

-- the first alias of a search is opened
pub opened_first : (scope : Scope) (types : Name → Option Ty) (opened after : Name → Bool) (name : Name) (body : WrittenTree)
    → scope.declared name ≡ Some body → IsResolved scope body
    → ((other : Name) → after other ≡ (opened other || bytes_eq other name))
    → IsSearching scope types opened [] → IsSearching scope types after (Visit body ∷ Finish name body ∷ [])
opened_first scope types opened after name body declared resolved more state = record {
  orderly = (
    resolved,
    (
      record {
        declared = declared;
        resolved = resolved;
        leads = λ other is. ⊎_elim (λ names. ReachesNext body declared names) (λ none. absurd none) is;
        parts = λ other is. inr (inl is);
      },
      tt,
    ),
  );
  known = after_open types opened after name body [] more state.known;
}

-- an alias is finished once it has a type
pub finished : (scope : Scope) (types after : Name → Option Ty) (opened : Name → Bool) (name : Name) (body : WrittenTree) (tasks : List TaskTree)
    → ((other : Name) → HasType types other → HasType after other) → HasType after name
    → IsSearching scope types opened (Finish name body ∷ tasks) → IsSearching scope after opened tasks
finished scope types after opened name body tasks keeps has state = record {
  orderly = moved scope types after _ nothing_above tasks keeps
      (λ other is. ⊎_elim (λ same. inl (subst (HasType after) same has)) (λ none. absurd none) is) (λ other none. absurd none) state.orderly.1;
  known = λ other is. ⊎_elim (λ was. inl (keeps other was))
      (λ waits. ⊎_elim (λ same. inl (subst (HasType after) same has)) (λ below. inr below) waits) (state.known other is);
}

-- an alias that is open leads to each name above it
met : (scope : Scope) (types : Name → Option Ty) (above : Name → Type 0) (name : Name) (tasks : List TaskTree)
    → AreOrderly scope types above tasks → above name → IsOpen name tasks → Reaches scope.declared name name
met scope types above name [] orderly is waits = absurd waits
met scope types above name (Visit written ∷ tasks) orderly is waits =
    met scope types (λ other. (names_outside_pointers written other ≡ true) ⊎ above other) name tasks orderly.1 (inr is) waits
met scope types above name (Finish other body ∷ tasks) orderly is (inl same) =
    let from : Name → Type 0 = λ first. Reaches scope.declared first name in
    subst from same (orderly.0.leads name is)
met scope types above name (Finish other body ∷ tasks) orderly is (inr waits) =
    met scope types (λ third. (other ≡ third) ⊎ above third) name tasks orderly.1 (inr is) waits

-- a name that is open and has no type contains itself
pub recursion_met : (scope : Scope) (types : Name → Option Ty) (opened : Name → Bool) (at : Pos) (name : Name) (tasks : List TaskTree)
    → opened name ≡ true → is_some (types name) ≡ false
    → IsSearching scope types opened (Visit (NamedType at name) ∷ tasks) → HasRecursion scope.declared
recursion_met scope types opened at name tasks is none state =
    (name, ⊎_elim (λ has. absurd (untyped has)) (λ waits. met scope types _ name tasks state.orderly.1 (inl (is_same name name refl)) waits) (state.known name is))
  where
    untyped : HasType types name → ⊥
    untyped has = cc (none, has.1)
