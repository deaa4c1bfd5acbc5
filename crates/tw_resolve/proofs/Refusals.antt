-- A program has at most one refusal, and none if it is well-typed.
use Rattle.std.proofs.Common.{◌≡◌, ◌∙◌, List, [], ◌∷◌, Option, ap, sym, inl, inr}
use Rattle.std.specs.List.{AllByRecursion}
use Rattle.tw_text.specs.declared.refusal.Refusal.{Refusal}
use Rattle.tw_text.specs.declared.refusal.Rule.TheVariants as rule
use Rattle.tw_text.specs.Refusals.{broken}
use Rattle.tw_syntax.specs.Names.{NameTree}
use Rattle.tw_syntax.specs.Programs.{AliasTree, ProgramTree}
use Rattle.tw_syntax.specs.Types.{WrittenTree}
use Rattle.tw_types.specs.Types.{Widths, Ty}
use Rattle.tw_resolve.specs.Declarations.{Name, aliases_of}
use Rattle.tw_resolve.specs.Demands.{first_broken}
use Rattle.tw_resolve.specs.Denotes.{AreTypes, scope_of}
use Rattle.tw_resolve.specs.Programs.{IsTyped, HasOneAnswer, IsRefused, BreaksNames, BreaksFinite, BreaksTypes, IsFinite, IsFirstRecursive, type_rules, setting_of}
use Rattle.tw_resolve.proofs.Denoting.{one_table}

-- only one alias is the first that contains itself
one_first : (declared : Name → Option WrittenTree) (rest : List AliasTree) (name other : NameTree) → IsFirstRecursive declared rest name → IsFirstRecursive declared rest other → name ≡ other
one_first declared (alias ∷ rest) name other (inl is) (inl is2) = sym is.0 ∙ is2.0
one_first declared (alias ∷ rest) name other (inl is) (inr later) = absurd (later.0 is.1)
one_first declared (alias ∷ rest) name other (inr later) (inl is) = absurd (later.0 is.1)
one_first declared (alias ∷ rest) name other (inr later) (inr later2) = one_first declared rest name other later.1 later2.1
one_first declared [] name other is is2 = absurd is

-- if no alias contains itself, none is the first
no_first : (declared : Name → Option WrittenTree) (rest : List AliasTree) (name : NameTree) → AllByRecursion (IsFinite declared) rest → IsFirstRecursive declared rest name → ⊥
no_first declared [] name finite is = is
no_first declared (alias ∷ rest) name finite (inl is) = finite.0 is.1
no_first declared (alias ∷ rest) name finite (inr later) = no_first declared rest name finite.1 later.1

-- the first broken rule of types is the same by each table
same_broken : (widths : Widths) (program : ProgramTree) (types other : Name → Option Ty) → AreTypes (scope_of program) types → AreTypes (scope_of program) other
    → first_broken (type_rules (setting_of widths program types) (aliases_of program.decls)) ≡ first_broken (type_rules (setting_of widths program other) (aliases_of program.decls))
same_broken widths program types other are are2 =
    ap (λ (table : Name → Option Ty). first_broken (type_rules (setting_of widths program table) (aliases_of program.decls))) (one_table (scope_of program) types other are are2)

pub one_refusal : {widths : Widths} {program : ProgramTree} {refusal other : Refusal} → IsRefused widths program refusal → IsRefused widths program other → refusal ≡ other
one_refusal (BreaksNames is) (BreaksNames is2) = cc (is, is2)
one_refusal (BreaksNames is) (BreaksFinite name none first) = absurd (cc (is, none))
one_refusal (BreaksNames is) (BreaksTypes types none finite are is2) = absurd (cc (is, none))
one_refusal (BreaksFinite name none first) (BreaksNames is) = absurd (cc (is, none))
one_refusal {program = program} (BreaksFinite name none first) (BreaksFinite other none2 first2) =
    ap (λ (n : NameTree). broken rule.RecursiveType n.at) (one_first _ _ name other first first2)
one_refusal (BreaksFinite name none first) (BreaksTypes types none2 finite are is) = absurd (no_first _ _ name finite first)
one_refusal (BreaksTypes types none finite are is) (BreaksNames is2) = absurd (cc (none, is2))
one_refusal (BreaksTypes types none finite are is) (BreaksFinite name none2 first) = absurd (no_first _ _ name finite first)
one_refusal {widths} {program} (BreaksTypes types none finite are is) (BreaksTypes other none2 finite2 are2 is2) =
    let same : first_broken (type_rules (setting_of widths program types) (aliases_of program.decls)) ≡ first_broken (type_rules (setting_of widths program other) (aliases_of program.decls)) = same_broken widths program types other are are2 in
    cc (is, is2, same)

pub typed_not_refused : {widths : Widths} {program : ProgramTree} {types : Name → Option Ty} {refusal : Refusal} → IsTyped widths program types → IsRefused widths program refusal → ⊥
typed_not_refused typed (BreaksNames is) = cc (typed.names, is)
typed_not_refused typed (BreaksFinite name none first) = no_first _ _ name typed.finite first
typed_not_refused {widths} {program} {types} typed (BreaksTypes other none finite are is) =
    let same : first_broken (type_rules (setting_of widths program types) (aliases_of program.decls)) ≡ first_broken (type_rules (setting_of widths program other) (aliases_of program.decls)) = same_broken widths program types other typed.are_types are in
    cc (typed.typed, is, same)

pub one_answer : (widths : Widths) (program : ProgramTree) → HasOneAnswer widths program
one_answer widths program = record {
  one_refusal = λ refusal other is is2. one_refusal is is2;
  not_both = λ refusal typed is. typed_not_refused typed.1 is;
}
