-- The function of an entry: the laws of a program's functions hold for it, and its names are different.
use Rattle.std.proofs.Common.{◌≡◌, ◌∙◌, ◌<◌, refl, sym, ap, subst, arith, nat_lt, ℕ, zero, suc, Bool, true, false, ◌||◌, not, ◌&&◌, List, [], ◌∷◌, ◌++◌, length, slice_get, Option, Some, option_and_then, bytes_eq}
use Rattle.std.specs.List.{position_or_len}
use Rattle.std.proofs.Math.Bool.{Bool-set}
use Rattle.std.proofs.Math.Logic.{∥∥₁_elim}
use Rattle.std.proofs.lemmas.Bool.{and_parts, or_parts, not-true}
use Rattle.std.proofs.lemmas.Bool.Decides.{Decides-ltb}
use Rattle.std.proofs.lemmas.Option.{none-some}
use Rattle.tw_syntax.specs.Programs.{FunTree, ProgramTree, program_tree}
use Rattle.tw_types.specs.Types.{Widths, Ty}
use Rattle.tw_resolve.specs.Declarations.{Name, is_one_of, aliases_of, funs_of, declared_as, number_of}
use Rattle.tw_resolve.specs.Names.{name_rules, different_rules, aliases_rules, alias_names, fun_names}
use Rattle.tw_resolve.specs.Entries.{types_in}
use Rattle.tw_resolve.specs.Programs.{IsTyped, setting_of}
use Rattle.tw_resolve.specs.Resolved.{resolved_setting}
use Rattle.tw_resolve.proofs.Demands.{Holds, EachHolds, none_broken-each}
use Rattle.tw_resolve.proofs.Each.{each_first, each_rest}
use Rattle.tw_resolve.proofs.Texts.{bytes_eq-sym}
use Rattle.tw_check.specs.declared.checked.Checked.{Checked}
use Rattle.tw_check.specs.Liveness.{param_names}
use Rattle.tw_check.proofs.NameSets.{is_one_of-append}
use Rattle.tw_state.specs.declared.state.Side.{Side}
use Rattle.tw_state.specs.declared.state.Side.TheVariants as side
use Rattle.tw_state.specs.FromCode.{names_at}
use Rattle.tw_state.proofs.Basics.{some_value, name_test}
use Rattle.tw_state.proofs.Calls.{AreDifferent}
use Rattle.tw_state.proofs.EntryResults.{IsFunction}
use Rattle.tw_state.proofs.SoundPrograms.{sound}

-- whether a function has this name
abbrev has_name : Name → FunTree → Bool
has_name name fun = bytes_eq name fun.name.text

-- a function of different ones is the first of its name
record IsFirst (funs : List FunTree) (earlier : List Name) (k : ℕ) (fun : FunTree) : Type 0 where
  pub new : is_one_of fun.name.text earlier ≡ false
  pub place : position_or_len (has_name fun.name.text) funs ≡ k
  pub within : k < length funs

first_of : (funs : List FunTree) (earlier : List Name) → EachHolds (different_rules earlier (fun_names funs)) → (k : ℕ) (fun : FunTree) → slice_get funs k ≡ Some fun → IsFirst funs earlier k fun
first_of [] earlier each k fun found = absurd (none-some fun found)
first_of (first ∷ funs) earlier each zero fun found =
    let same : first ≡ fun = some_value found in
    subst (IsFirst (first ∷ funs) earlier 0) same (record { new = not-true (is_one_of first.name.text earlier) each.0; place = rw (name_test first.name.text) refl; within = omega arith })
first_of (first ∷ funs) earlier each (suc k) fun found =
    let later = first_of funs (earlier ++ first.name.text ∷ []) each.1 k fun found in
    let parts = or_parts (is_one_of fun.name.text earlier) (bytes_eq fun.name.text first.name.text || false) (sym (is_one_of-append fun.name.text earlier (first.name.text ∷ [])) ∙ later.new) in
    let other = or_parts (bytes_eq fun.name.text first.name.text) false parts.1 in
    record { new = parts.0; place = rw (other.0, later.place) (omega arith); within = omega (arith, later.within) }

number_found : (funs : List FunTree) (earlier : List Name) (k : ℕ) (fun : FunTree) → IsFirst funs earlier k fun → number_of funs fun.name.text ≡ Some k
number_found funs earlier k fun first =
    let within : nat_lt k (length funs) ≡ true = (Decides-ltb k (length funs)).1 first.within in
    rw (first.place, within) refl

-- a function of a well-typed program, by its number
pub function_of : (widths : Widths) (program : ProgramTree) (types : Name → Option Ty) → IsTyped widths program types → (k : ℕ) (fun : FunTree) → slice_get (funs_of program.decls) k ≡ Some fun → IsFunction (setting_of widths program types) fun
function_of widths program types typed k fun found =
    let aliases = aliases_of program.decls in
    let first = different_rules [] (alias_names aliases) in
    let second = different_rules [] (fun_names (funs_of program.decls)) in
    let third = aliases_rules (declared_as aliases) aliases in
    let names = (none_broken-each (name_rules program)).1 typed.names in
    let number = number_found (funs_of program.decls) [] k fun (first_of (funs_of program.decls) [] (each_first Holds second third (each_rest Holds first (second ++ third) names)) k fun found) in
    record { name = fun.name.text; number = k; numbered = number; named = ap (option_and_then (slice_get (funs_of program.decls))) number ∙ found }

-- its number is the one by which it was found
pub function_of-number : (widths : Widths) (program : ProgramTree) (types : Name → Option Ty) (typed : IsTyped widths program types) (k : ℕ) (fun : FunTree) (found : slice_get (funs_of program.decls) k ≡ Some fun) → (function_of widths program types typed k fun found).number ≡ k
unfolding function_of
function_of-number widths program types typed k fun found = refl

-- whether names are different
pub all_different : List Name → Bool
all_different [] = true
all_different (name ∷ names) = not (is_one_of name names) && all_different names

pub tests_different : (names : List Name) → AreDifferent names → all_different names ≡ true
unfolding all_different
tests_different [] different = refl
tests_different (name ∷ names) different = rw (different.0, tests_different names different.1) refl

pub different_tested : (names : List Name) → all_different names ≡ true → AreDifferent names
unfolding all_different
different_tested [] test = tt
different_tested (name ∷ names) test =
    let parts = and_parts (not (is_one_of name names)) (all_different names) test in
    (not-true (is_one_of name names) parts.0, different_tested names parts.1)

-- names with another one at the end
pub more_different : (names : List Name) (last : Name) → is_one_of last names ≡ false → AreDifferent names → AreDifferent (names ++ last ∷ [])
more_different [] last new different = (refl, tt)
more_different (name ∷ names) last new different =
    let parts = or_parts (bytes_eq last name) (is_one_of last names) new in
    (is_one_of-append name names (last ∷ []) ∙ rw (different.0, bytes_eq-sym name last, parts.0) refl, more_different names last parts.1 different.1)

pub names_different : (side : Side) (fun : FunTree) → AreDifferent (fun.returned.text ∷ param_names fun) → AreDifferent (names_at side fun)
names_different side.Start fun different = different.1
names_different side.End fun different = more_different (param_names fun) fun.returned.text different.0 different.1

-- the names of an entry are different
pub entry_names_different : (checked : Checked) (side : Side) (k : ℕ) (fun : FunTree) → slice_get (resolved_setting checked.resolved).funs k ≡ Some fun → AreDifferent (names_at side fun)
entry_names_different checked side k fun found =
    let program = program_tree checked.resolved.program.now in
    let tables = checked.resolved.tables in
    let setting = resolved_setting checked.resolved in
    different_tested (names_at side fun)
    (∥∥₁_elim checked.resolved.typed (Bool-set _ _)
    (λ are. ∥∥₁_elim checked.right (Bool-set _ _)
    (λ right.
    let function = function_of tables.types.widths program (types_in tables.types.table.entries) are.typed k fun found in
    let fits = (sound tables.types.widths program (types_in tables.types.table.entries) are.typed right).fit function.name fun function.named in
    tests_different (names_at side fun) (names_different side fun fits.different))))
