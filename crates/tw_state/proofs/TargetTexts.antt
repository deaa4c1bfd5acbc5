-- The targets of a program are told apart by their texts.
use Rattle.std.proofs.Common.{◌≡◌, ◌≢◌, ◌∙◌, refl, sym, ap, subst, ℕ, zero, suc, true, if◌then◌else◌, List, [], ◌∷◌, map, flat_map, fold, Option, Some, is_some, option_map, option_and_then, unwrap_or, slice_get, bytes_eq}
use Rattle.std.specs.List.{AllByRecursion, AllByRecursion-prop}
use Rattle.std.proofs.Math.Bool.{Bool-set}
use Rattle.std.proofs.Math.Logic.{∥∥₁_elim}
use Rattle.std.proofs.lemmas.Bool.{and_parts}
use Rattle.std.proofs.lemmas.List.{map-append}
use Rattle.std.proofs.lemmas.Option.{none-some, slice_get-map}
use Rattle.tw_syntax.specs.Programs.{AliasTree, ProgramTree, program_tree}
use Rattle.tw_syntax.specs.Types.{WrittenTree, UnitType, UintType, BoolType, PairType, PtrType, NamedType, type_print}
use Rattle.tw_types.specs.Types.{Widths, Ty, UnitTy, Pointer, Target}
use Rattle.tw_types.specs.Table.{AreDistinct, place_of, written_at}
use Rattle.tw_types.proofs.Tables.{distinct-interned}
use Rattle.tw_resolve.specs.Declarations.{Name, aliases_of, declared_as, decl_targets, target_number, targets_of, with_target}
use Rattle.tw_resolve.specs.Denotes.{scope_of, names_declared}
use Rattle.tw_resolve.specs.AliasTypes.{IsResolved}
use Rattle.tw_resolve.specs.Entries.{types_in}
use Rattle.tw_resolve.specs.Programs.{IsTyped}
use Rattle.tw_resolve.specs.Resolved.{resolved_setting}
use Rattle.tw_resolve.specs.Setting.{Setting, type_of, pointee}
use Rattle.tw_resolve.proofs.Entries.{position-map}
use Rattle.tw_check.specs.declared.checked.Checked.{Checked}
use Rattle.tw_state.specs.EntryEncoding.{targets_in}
use Rattle.tw_state.proofs.Basics.{some_value, by_test, by_option, same_name}
use Rattle.tw_state.proofs.Blocks.{get_all}
use Rattle.tw_state.proofs.SoundPrograms.{targets_each}
use Rattle.tw_state.proofs.TypeTexts.{IsPlainName, HasPlainNames}

-- the names of the aliases of a program have no delimiter of types
abbrev pub HasPlainAliases : ProgramTree → Type 0
HasPlainAliases program = AllByRecursion (λ alias. IsPlainName alias.name.text) (aliases_of program.decls)

-- a declared name is that of an alias
plain_if_declared : (aliases : List AliasTree) (name : Name) → AllByRecursion (λ (alias : AliasTree). IsPlainName alias.name.text) aliases → is_some (declared_as aliases name) ≡ true → IsPlainName name
plain_if_declared [] name plain declared = cc
plain_if_declared (alias ∷ aliases) name plain declared =
    by_test (bytes_eq name alias.name.text)
    (λ is. subst IsPlainName (sym (same_name name alias.name.text is)) plain.0)
    (λ other. plain_if_declared aliases name plain.1 (sym (ap (λ k. is_some (if k then Some alias.body else declared_as aliases name)) other) ∙ declared))

-- so a type whose names are declared has plain names
plain_names : (aliases : List AliasTree) (written : WrittenTree) → AllByRecursion (λ (alias : AliasTree). IsPlainName alias.name.text) aliases → names_declared (declared_as aliases) written ≡ true → HasPlainNames written
plain_names aliases (UnitType at) plain declared = tt
plain_names aliases (UintType at) plain declared = tt
plain_names aliases (BoolType at) plain declared = tt
plain_names aliases (NamedType at name) plain declared = plain_if_declared aliases name plain declared
plain_names aliases (PtrType at to) plain declared = plain_names aliases to plain declared
plain_names aliases (PairType at first second) plain declared =
    let parts = and_parts (names_declared (declared_as aliases) first) (names_declared (declared_as aliases) second) declared in
    (plain_names aliases first plain parts.0, plain_names aliases second plain parts.1)

each_plain : (aliases : List AliasTree) (targets : List WrittenTree) → AllByRecursion (λ (alias : AliasTree). IsPlainName alias.name.text) aliases
    → AllByRecursion (λ to. names_declared (declared_as aliases) to ≡ true) targets → AllByRecursion HasPlainNames targets
each_plain aliases [] plain declared = tt
each_plain aliases (to ∷ targets) plain declared = (plain_names aliases to plain declared.0, each_plain aliases targets plain declared.1)

each_declared : (program : ProgramTree) (targets : List WrittenTree) → AllByRecursion (IsResolved (scope_of program)) targets → AllByRecursion (λ to. names_declared (declared_as (aliases_of program.decls)) to ≡ true) targets
each_declared program [] all = tt
each_declared program (to ∷ targets) all = (all.0.names, each_declared program targets all.1)

-- the names in the targets of a program are those of aliases
pub plain_targets : (widths : Widths) (program : ProgramTree) (types : Name → Option Ty) → ∥ IsTyped widths program types ∥₁ → HasPlainAliases program → AllByRecursion HasPlainNames (targets_of program)
plain_targets widths program types typed plain =
    each_plain (aliases_of program.decls) (targets_of program) plain
    (∥∥₁_elim typed (AllByRecursion-prop _ (λ to. Bool-set _ _) (targets_of program)) (λ are. each_declared program (targets_of program) (targets_each widths program types are)))

pub targets_plain : (checked : Checked) → HasPlainAliases (program_tree checked.resolved.program.now) → AllByRecursion HasPlainNames (resolved_setting checked.resolved).scope.targets
targets_plain checked plain =
    let program = program_tree checked.resolved.program.now in
    let tables = checked.resolved.tables in
    each_plain (aliases_of program.decls) (targets_of program) plain
    (∥∥₁_elim checked.resolved.typed (AllByRecursion-prop _ (λ to. Bool-set _ _) (targets_of program))
    (λ are. each_declared program (targets_of program) (targets_each tables.types.widths program (types_in tables.types.table.entries) are.typed)))

-- a written target with a type
module _ (f : WrittenTree → Ty) where
  abbrev listed_as : WrittenTree → Target
  listed_as to = record { written = type_print to; ty = f to }

  new_number : (targets : List WrittenTree) (to : WrittenTree) → place_of (type_print to) (map listed_as targets) ≡ target_number targets to
  new_number targets to = position-map (λ target. bytes_eq (type_print to) target.written) listed_as targets

  step_distinct : (targets : List WrittenTree) (to : WrittenTree) → AreDistinct (map listed_as targets) → AreDistinct (map listed_as (with_target targets to))
  step_distinct targets to distinct =
      by_option (target_number targets to)
      (λ new. rw new (subst AreDistinct (sym (map-append listed_as targets (to ∷ []))) (distinct-interned (type_print to) (f to) (map listed_as targets) (new_number targets to ∙ new) distinct)))
      (λ number known. rw known distinct)

  fold_distinct : (more targets : List WrittenTree) → AreDistinct (map listed_as targets) → AreDistinct (map listed_as (fold with_target targets more))
  fold_distinct [] targets distinct = distinct
  fold_distinct (to ∷ more) targets distinct = fold_distinct more (with_target targets to) (step_distinct targets to distinct)

-- the targets of a program are written differently
pub distinct_targets : (setting : Setting) (program : ProgramTree) → AreDistinct (map (listed_as (λ to. unwrap_or (type_of setting to) UnitTy)) (targets_of program))
distinct_targets setting program = fold_distinct (λ to. unwrap_or (type_of setting to) UnitTy) (flat_map decl_targets program.decls) [] tt

pub targets_distinct : (checked : Checked) → AreDistinct (targets_in (resolved_setting checked.resolved))
targets_distinct checked =
    let setting = resolved_setting checked.resolved in
    fold_distinct (λ to. unwrap_or (type_of setting to) UnitTy) (flat_map decl_targets (program_tree checked.resolved.program.now).decls) [] tt

-- the target of a number in a list has a text
text_of_target : (targets : List Target) (number : ℕ) (text : List ℕ) → written_at targets number ≡ Some text → (target : Target) × (slice_get targets number ≡ Some target) × (target.written ≡ text)
text_of_target targets number text is =
    by_option (slice_get targets number)
    (λ none. absurd (none-some text (sym (ap (option_map (λ target. target.written)) none) ∙ is)))
    (λ target found. (target, found, some_value (sym (ap (option_map (λ t. t.written)) found) ∙ is)))

-- targets of one text have one number
pub same_number : (targets : List Target) (m n : ℕ) (text : List ℕ) → AreDistinct targets → written_at targets m ≡ Some text → written_at targets n ≡ Some text → m ≡ n
same_number [] m n text distinct is is2 = absurd (none-some text is)
same_number (target ∷ targets) zero zero text distinct is is2 = refl
same_number (target ∷ targets) zero (suc n) text distinct is is2 =
    let other = text_of_target targets n text is2 in
    absurd (get_all (λ o. target.written ≢ o.written) targets n other.0 distinct.0 other.1 (some_value is ∙ sym other.2))
same_number (target ∷ targets) (suc m) zero text distinct is is2 =
    let other = text_of_target targets m text is in
    absurd (get_all (λ o. target.written ≢ o.written) targets m other.0 distinct.0 other.1 (some_value is2 ∙ sym other.2))
same_number (target ∷ targets) (suc m) (suc n) text distinct is is2 = ap suc (same_number targets m n text distinct.1 is is2)

-- a number that leads to a type is that of a written target
pub known_target : (setting : Setting) (number : ℕ) (ty : Ty) → pointee setting (Some (Pointer number)) ≡ Some ty
    → (to : WrittenTree) × (slice_get setting.scope.targets number ≡ Some to) × (written_at (targets_in setting) number ≡ Some (type_print to))
known_target setting number ty is =
    by_option (slice_get setting.scope.targets number)
    (λ none. absurd (none-some ty (sym (ap (option_and_then (type_of setting)) none) ∙ is)))
    (λ to found. (to, found, ap (option_map (λ target. target.written)) (slice_get-map (listed_as (λ t. unwrap_or (type_of setting t) UnitTy)) setting.scope.targets number ∙ ap (option_map (listed_as (λ t. unwrap_or (type_of setting t) UnitTy))) found)))
