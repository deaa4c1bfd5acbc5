-- Each written type whose names are declared denotes a type, if no alias contains itself.
use Rattle.std.proofs.Common.{◌≡◌, ◌∙◌, ◌≤◌, ◌<◌, refl, sym, ap, subst, arith, ℕ, zero, suc, Bool, true, false, ◌||◌, if◌then◌else◌, List, [], ◌∷◌, slice_get, Option, Some, is_some, option_and_then, bytes_eq}
use Rattle.std.specs.List.{AllByRecursion}
use Rattle.std.proofs.lemmas.Bool.{and_parts}
use Rattle.std.proofs.lemmas.Option.{none-some, slice_get-get_or}
use Rattle.std.proofs.lemmas.List.Quantifiers.{position-Some}
use Rattle.tw_syntax.specs.Programs.{AliasTree}
use Rattle.tw_syntax.specs.Types.{WrittenTree, UnitType, UintType, BoolType, PairType, PtrType, NamedType, type_print}
use Rattle.tw_types.specs.Types.{Ty, UnitTy, Word, Boolean, Pointer, PairTy}
use Rattle.tw_resolve.specs.AliasTypes.{IsNumbered, IsResolved, IsResolvedAlias}
use Rattle.tw_resolve.specs.Declarations.{Name, is_one_of, declared_as, target_number, targets_in}
use Rattle.tw_resolve.specs.Denotes.{Scope, names_declared, names_outside_pointers, Denotes, DenotesUnit, DenotesWord, DenotesBoolean, DenotesPair, DenotesPointer, DenotesNamed, Reaches, ReachesNext, IsRecursive}
use Rattle.tw_resolve.specs.Programs.{IsFinite}
use Rattle.tw_resolve.specs.Searches.{alias_steps}
use Rattle.tw_resolve.specs.Setting.{Setting, type_of, pointee}
use Rattle.tw_resolve.proofs.Denoting.{reaches_by}
use Rattle.tw_resolve.proofs.Each.{each_first, each_rest}
use Rattle.tw_resolve.proofs.Steps.{steps_once}
use Rattle.tw_resolve.proofs.Visiting.{resolved_body}
use Rattle.tw_state.proofs.Basics.{by_test, by_option, same_name, name_test, contradiction}

-- no declared alias contains itself
finite_at : (declared : Name → Option WrittenTree) (aliases : List AliasTree) → AllByRecursion (IsFinite declared) aliases → (name : Name) (body : WrittenTree) → declared_as aliases name ≡ Some body → IsRecursive declared name → ⊥
finite_at declared [] all name body is reaches = none-some body is
finite_at declared (alias ∷ aliases) all name body is reaches = by (bytes_eq name alias.name.text) refl is (λ later. finite_at declared aliases all.1 name body later reaches)
  where
    by : (k : Bool) → bytes_eq name alias.name.text ≡ k → (if k then Some alias.body else declared_as aliases name) ≡ Some body → (declared_as aliases name ≡ Some body → ⊥) → ⊥
    by true same is later = all.0 (subst (IsRecursive declared) (same_name name alias.name.text same) reaches)
    by false other is later = later is

-- a path of aliases, by name
abbrev on_path : List Name → Name → Bool
on_path path name = is_one_of name path

module _ (scope : Scope) (aliases : List AliasTree) (declared : scope.declared ≡ declared_as aliases) (resolved : AllByRecursion (IsResolvedAlias scope) aliases) (finite : AllByRecursion (IsFinite scope.declared) aliases) where
  abbrev Known : WrittenTree → Type 0
  Known written = (ty : Ty) × Denotes scope written ty

  -- each alias of the path leads to each name of the written type outside pointers
  abbrev Leads : List Name → WrittenTree → Type 0
  Leads path written = (first : Name) → is_one_of first path ≡ true → (name : Name) → names_outside_pointers written name ≡ true → Reaches scope.declared first name

  or_true : (p q : Bool) → q ≡ true → (p || q) ≡ true
  or_true true q is = refl
  or_true false q is = is

  or_first : (p q : Bool) → p ≡ true → (p || q) ≡ true
  or_first true q is = refl
  or_first false q is = contradiction {test = true} refl (sym is)

  or_sym : (p q : Bool) → (p || q) ≡ (q || p)
  or_sym true true = refl
  or_sym true false = refl
  or_sym false true = refl
  or_sym false false = refl

  step : (fuel : ℕ) → ((path : List Name) (body : WrittenTree) → alias_steps (on_path path) aliases < fuel → IsResolved scope body → Leads path body → Known body)
      → (path : List Name) → alias_steps (on_path path) aliases ≤ fuel → (written : WrittenTree) → IsResolved scope written → Leads path written → Known written
  step fuel below path within (UnitType at) is leads = (UnitTy, DenotesUnit)
  step fuel below path within (UintType at) is leads = (Word, DenotesWord)
  step fuel below path within (BoolType at) is leads = (Boolean, DenotesBoolean)
  step fuel below path within (PtrType at to) is leads =
      by_option (target_number scope.targets to) (λ none. contradiction {test = true} refl (sym is.targets.0 ∙ ap is_some none))
      (λ number found. (Pointer number, DenotesPointer number is.names found))
  step fuel below path within (PairType at first second) is leads =
      let names = and_parts (names_declared scope.declared first) (names_declared scope.declared second) is.names in
      let one = step fuel below path within first (record { names = names.0; targets = each_first (IsNumbered scope.targets) (targets_in first) (targets_in second) is.targets })
      (λ p on name inside. leads p on name (or_first (names_outside_pointers first name) (names_outside_pointers second name) inside)) in
      let two = step fuel below path within second (record { names = names.1; targets = each_rest (IsNumbered scope.targets) (targets_in first) (targets_in second) is.targets })
      (λ p on name inside. leads p on name (or_true (names_outside_pointers first name) (names_outside_pointers second name) inside)) in
      (PairTy one.0 two.0, DenotesPair one.1 two.1)
  step fuel below path within (NamedType at name) is leads =
      by_option (scope.declared name) (λ none. contradiction {test = true} refl (sym is.names ∙ ap is_some none)) named
    where
      named : (body : WrittenTree) → scope.declared name ≡ Some body → Known (NamedType at name)
      named body found =
          let as_alias : declared_as aliases name ≡ Some body = ap (λ (f : Name → Option WrittenTree). f name) (sym declared) ∙ found in
          by_test (is_one_of name path)
          (λ on. absurd (finite_at scope.declared aliases finite name body as_alias (leads name on name (name_test name))))
          (λ off.
          let fewer = steps_once (on_path path) (on_path (name ∷ path)) name body (λ other. or_sym (bytes_eq other name) (is_one_of other path)) off aliases as_alias in
          let inner = below (name ∷ path) body (omega (arith, fewer, within)) (resolved_body scope aliases resolved name body as_alias) (leads_on body found) in
          (inner.0, DenotesNamed body found inner.1))
        where
          leads_on : (body : WrittenTree) → scope.declared name ≡ Some body → Leads (name ∷ path) body
          leads_on body found first on last inside =
              by_test (bytes_eq first name)
              (λ same. subst (λ n. Reaches scope.declared n last) (sym (same_name first name same)) (ReachesNext body found inside))
              (λ other. reaches_by (leads first (subst (λ k. (k || is_one_of first path) ≡ true) other on) name (name_test name)) (ReachesNext body found inside))

  known_from : (fuel : ℕ) (path : List Name) → alias_steps (on_path path) aliases ≤ fuel → (written : WrittenTree) → IsResolved scope written → Leads path written → Known written
  known_from zero path within written is leads = step zero (λ p body less. absurd (omega (arith, less))) path within written is leads
  known_from (suc fuel) path within written is leads = step (suc fuel) (λ p body less. known_from fuel p (omega (arith, less)) body) path within written is leads

  pub known : (written : WrittenTree) → IsResolved scope written → (ty : Ty) × Denotes scope written ty
  known written is = known_from (alias_steps (on_path []) aliases) [] (omega arith) written is (λ first on name inside. contradiction {test = true} refl (sym on))

-- the number of a target is that of one in the list
pub target_there : (targets : List WrittenTree) (to : WrittenTree) (number : ℕ) → target_number targets to ≡ Some number → (target : WrittenTree) × (slice_get targets number ≡ Some target)
target_there targets to number is =
    let found = position-Some (λ target. bytes_eq (type_print to) (type_print target)) targets number to is in
    (_, slice_get-get_or targets number to found.0)

module _ (setting : Setting) where
  -- each pointer in the type has a target that denotes a type
  abbrev pub IsKnown : Ty → Type 0
  IsKnown UnitTy = Unit {0}
  IsKnown Word = Unit {0}
  IsKnown Boolean = Unit {0}
  IsKnown (Pointer target) = (content : Ty) × (pointee setting (Some (Pointer target)) ≡ Some content)
  IsKnown (PairTy first second) = IsKnown first × IsKnown second

  pub known_denoted : ((number : ℕ) (target : WrittenTree) → slice_get setting.scope.targets number ≡ Some target → (ty : Ty) × (type_of setting target ≡ Some ty))
      → {written : WrittenTree} {ty : Ty} → Denotes setting.scope written ty → IsKnown ty
  known_denoted targets DenotesUnit = tt
  known_denoted targets DenotesWord = tt
  known_denoted targets DenotesBoolean = tt
  known_denoted targets (DenotesPair first second) = (known_denoted targets first, known_denoted targets second)
  known_denoted targets (DenotesPointer {to = to} number names is) =
      let target = target_there setting.scope.targets to number is in
      let content = targets number target.0 target.1 in
      (content.0, ap (option_and_then (type_of setting)) target.1 ∙ content.1)
  known_denoted targets (DenotesNamed body is inner) = known_denoted targets inner
