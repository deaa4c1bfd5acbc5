-- Each target of a program has a number.
use Rattle.std.proofs.Common.{◌≡◌, ◌∙◌, ◌++◌, Bool, true, false, if◌then◌else◌, List, [], ◌∷◌, map, flat_map, fold, Option, None, is_some, position, ap, sym, subst, refl, bytes_eq}
use Rattle.std.specs.List.{AllByRecursion, list_any}
use Rattle.std.specs.Map.{keys_of}
use Rattle.std.proofs.lemmas.Bool.{or_left, or_right, and_from}
use Rattle.std.proofs.lemmas.List.Folds.{list_any-append}
use Rattle.std.proofs.lemmas.Map.Made.{is_some-lookup}
use Rattle.std.proofs.lemmas.Slice.Eq.{bytes_eq-Decides}
use Rattle.indexmap.proofs.MapLemmas.{some_index}
use Rattle.tw_syntax.specs.Programs.{AliasTree, DeclTree, AliasDecl, FunDecl, ProgramTree}
use Rattle.tw_syntax.specs.Types.{WrittenTree, UnitType, UintType, BoolType, PairType, PtrType, NamedType, type_print}
use Rattle.tw_resolve.specs.Declarations.{Name, declared_as, aliases_of, funs_of, target_number, targets_in, with_target, decl_targets, targets_of}
use Rattle.tw_resolve.specs.AliasTypes.{IsNumbered, IsResolvedAlias}
use Rattle.tw_resolve.specs.Demands.{first_broken}
use Rattle.tw_resolve.specs.Denotes.{Scope, scope_of, names_declared}
use Rattle.tw_resolve.specs.Names.{declared_rules, aliases_rules}
use Rattle.tw_resolve.proofs.Demands.{Holds, EachHolds, none_broken-each}
use Rattle.tw_resolve.proofs.Each.{each_first, each_rest, each-append}

-- a position is found if some item passes
keys-paired : {X : Type 0} (xs : List X) → keys_of (map (λ x. (x, x)) xs) ≡ xs
keys-paired [] = refl
keys-paired (x ∷ xs) = ap (λ ys. x ∷ ys) (keys-paired xs)

is_some-position : {X : Type 0} (p : X → Bool) (xs : List X) → is_some (position p xs) ≡ list_any p xs
is_some-position {X} p xs =
    subst (λ (ys : List X). is_some (position p ys) ≡ list_any p ys) (keys-paired xs)
    (some_index p (map (λ x. (x, x)) xs) ∙ is_some-lookup p (map (λ x. (x, x)) xs))

-- a target that is there stays, and one that is added is there
numbered_later : (targets : List WrittenTree) (other to : WrittenTree) → IsNumbered targets to → IsNumbered (with_target targets other) to
numbered_later targets other to is = by (is_some (target_number targets other)) refl
  where
    by : (k : Bool) → is_some (target_number targets other) ≡ k → IsNumbered (if k then targets else targets ++ other ∷ []) to
    by true known = is
    by false new =
        is_some-position (λ target. bytes_eq (type_print to) (type_print target)) (targets ++ other ∷ [])
        ∙ list_any-append (λ target. bytes_eq (type_print to) (type_print target)) targets (other ∷ [])
        ∙ or_left (list_any (λ target. bytes_eq (type_print to) (type_print target)) targets) (list_any (λ target. bytes_eq (type_print to) (type_print target)) (other ∷ []))
        (sym (is_some-position (λ target. bytes_eq (type_print to) (type_print target)) targets) ∙ is)

numbered_now : (targets : List WrittenTree) (to : WrittenTree) → IsNumbered (with_target targets to) to
numbered_now targets to = by (is_some (target_number targets to)) refl
  where
    by : (k : Bool) → is_some (target_number targets to) ≡ k → IsNumbered (if k then targets else targets ++ to ∷ []) to
    by true known = known
    by false new =
        is_some-position (λ target. bytes_eq (type_print to) (type_print target)) (targets ++ to ∷ [])
        ∙ list_any-append (λ target. bytes_eq (type_print to) (type_print target)) targets (to ∷ [])
        ∙ or_right (list_any (λ target. bytes_eq (type_print to) (type_print target)) targets) (list_any (λ target. bytes_eq (type_print to) (type_print target)) (to ∷ []))
        (or_left (bytes_eq (type_print to) (type_print to)) false ((bytes_eq-Decides (type_print to) (type_print to)).1 refl))

-- all that were added are there
numbered_after : (more targets : List WrittenTree) (to : WrittenTree) → IsNumbered targets to → IsNumbered (fold with_target targets more) to
numbered_after [] targets to is = is
numbered_after (other ∷ more) targets to is = numbered_after more (with_target targets other) to (numbered_later targets other to is)

pub all_numbered : (more targets : List WrittenTree) → AllByRecursion (IsNumbered (fold with_target targets more)) more
all_numbered [] targets = tt
all_numbered (to ∷ more) targets = (numbered_after more (with_target targets to) to (numbered_now targets to), all_numbered more (with_target targets to))

-- what holds of all targets of declarations holds of those in aliases
of_aliases : (P : WrittenTree → Type 0) (decls : List DeclTree) → AllByRecursion P (flat_map decl_targets decls)
    → AllByRecursion (λ alias. AllByRecursion P (targets_in alias.body)) (aliases_of decls)
of_aliases P [] all = tt
of_aliases P (AliasDecl alias ∷ decls) all =
    (each_first P (targets_in alias.body) (flat_map decl_targets decls) all, of_aliases P decls (each_rest P (targets_in alias.body) (flat_map decl_targets decls) all))
of_aliases P (FunDecl fun ∷ decls) all = of_aliases P decls (each_rest P (decl_targets (FunDecl fun)) (flat_map decl_targets decls) all)

-- the targets in the aliases of a program have numbers
pub aliases_numbered : (program : ProgramTree) → AllByRecursion (λ alias. AllByRecursion (IsNumbered (targets_of program)) (targets_in alias.body)) (aliases_of program.decls)
aliases_numbered program = of_aliases (IsNumbered (targets_of program)) program.decls (all_numbered (flat_map decl_targets program.decls) [])

-- what holds of all targets of declarations holds of those in functions
of_funs : (P : WrittenTree → Type 0) (decls : List DeclTree) → AllByRecursion P (flat_map decl_targets decls)
    → AllByRecursion (λ fun. AllByRecursion P (decl_targets (FunDecl fun))) (funs_of decls)
of_funs P [] all = tt
of_funs P (AliasDecl alias ∷ decls) all = of_funs P decls (each_rest P (targets_in alias.body) (flat_map decl_targets decls) all)
of_funs P (FunDecl fun ∷ decls) all =
    (each_first P (decl_targets (FunDecl fun)) (flat_map decl_targets decls) all, of_funs P decls (each_rest P (decl_targets (FunDecl fun)) (flat_map decl_targets decls) all))

-- the targets in the functions of a program have numbers
pub funs_numbered : (program : ProgramTree) → AllByRecursion (λ fun. AllByRecursion (IsNumbered (targets_of program)) (decl_targets (FunDecl fun))) (funs_of program.decls)
funs_numbered program = of_funs (IsNumbered (targets_of program)) program.decls (all_numbered (flat_map decl_targets program.decls) [])

-- what holds of all targets that are added holds of those in the list
pub each_collected : (P : WrittenTree → Type 0) (more targets : List WrittenTree) → AllByRecursion P targets → AllByRecursion P more
    → AllByRecursion P (fold with_target targets more)
each_collected P [] targets all others = all
each_collected P (to ∷ more) targets all others = each_collected P more (with_target targets to) (by (is_some (target_number targets to))) others.1
  where
    by : (k : Bool) → AllByRecursion P (if k then targets else targets ++ to ∷ [])
    by true = all
    by false = each-append P targets (to ∷ []) all (others.0, tt)

-- the names in a type are declared if no rule of them is broken
names_if_kept : (declared : Name → Option WrittenTree) (written : WrittenTree) → EachHolds (declared_rules declared written) → names_declared declared written ≡ true
names_if_kept declared (UnitType at) each = refl
names_if_kept declared (UintType at) each = refl
names_if_kept declared (BoolType at) each = refl
names_if_kept declared (NamedType at name) each = each.0
names_if_kept declared (PtrType at to) each = names_if_kept declared to each
names_if_kept declared (PairType at first second) each =
    and_from (names_declared declared first) (names_declared declared second)
    (names_if_kept declared first (each_first Holds (declared_rules declared first) (declared_rules declared second) each))
    (names_if_kept declared second (each_rest Holds (declared_rules declared first) (declared_rules declared second) each))

all_names_if_kept : (declared : Name → Option WrittenTree) (aliases : List AliasTree) → EachHolds (aliases_rules declared aliases)
    → AllByRecursion (λ alias. names_declared declared alias.body ≡ true) aliases
all_names_if_kept declared [] each = tt
all_names_if_kept declared (alias ∷ aliases) each = (
  names_if_kept declared alias.body (each_first Holds (declared_rules declared alias.body) (aliases_rules declared aliases) each),
  all_names_if_kept declared aliases (each_rest Holds (declared_rules declared alias.body) (aliases_rules declared aliases) each),
)

-- both hold of each alias
both : (scope : Scope) (aliases : List AliasTree) → AllByRecursion (λ alias. names_declared scope.declared alias.body ≡ true) aliases
    → AllByRecursion (λ alias. AllByRecursion (IsNumbered scope.targets) (targets_in alias.body)) aliases → AllByRecursion (IsResolvedAlias scope) aliases
both scope [] names targets = tt
both scope (alias ∷ aliases) names targets = (record { names = names.0; targets = targets.0 }, both scope aliases names.1 targets.1)

-- the aliases of a program refer to what is there if their names are declared
pub aliases_resolved : (program : ProgramTree) → first_broken (aliases_rules (declared_as (aliases_of program.decls)) (aliases_of program.decls)) ≡ None
    → AllByRecursion (IsResolvedAlias (scope_of program)) (aliases_of program.decls)
aliases_resolved program none =
    let declared = declared_as (aliases_of program.decls) in
    both (scope_of program) (aliases_of program.decls)
    (all_names_if_kept declared (aliases_of program.decls) ((none_broken-each (aliases_rules declared (aliases_of program.decls))).1 none))
    (aliases_numbered program)
