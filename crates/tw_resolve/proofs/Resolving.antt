-- What the passes find together: a well-typed program, or its refusal.
use Rattle.std.proofs.Common.{refl, Result, Ok, Err, IfErr, IsErrAnd, ◌≡◌, ◌∙◌, List, None, ap, sym, subst, subst₂}
use Rattle.std.specs.List.{AllByRecursion}
use Rattle.tw_text.specs.declared.refusal.Fault.{Fault}
use Rattle.tw_text.specs.declared.refusal.Fault.TheVariants as fault
use Rattle.tw_syntax.specs.Programs.{AliasTree, ProgramTree}
use Rattle.tw_types.specs.Types.{Widths}
use Rattle.tw_resolve.specs.AliasTypes.{IsResolvedAlias, AreResolvedIn, IsRecursionFaultIn, KeepsNames}
use Rattle.tw_resolve.specs.Declarations.{aliases_of, declared_as}
use Rattle.tw_resolve.specs.Demands.{first_broken, IsReported}
use Rattle.tw_resolve.specs.Denotes.{AreComplete, AreTypes, Scope, scope_of}
use Rattle.tw_resolve.specs.Entries.{aliases_in, table_targets, funs_in, types_in}
use Rattle.tw_resolve.specs.Names.{name_rules}
use Rattle.tw_resolve.specs.Programs.{IsFinite, IsFirstRecursive, IsTyped, IsRefused, BreaksNames, BreaksFinite, BreaksTypes, IsRefusedWith, type_rules, setting_of}
use Rattle.tw_resolve.specs.Tables.{AreTablesOf, AreTypedTablesOf, setting_in}
use Rattle.tw_resolve.specs.declared.alias_table.AliasTable.{AliasTable}
use Rattle.tw_resolve.specs.declared.fun_table.FunTable.{FunTable}
use Rattle.tw_resolve.specs.declared.tables.Tables.{Tables}
use Rattle.tw_resolve.specs.declared.target_table.TargetTable.{TargetTable}
use Rattle.tw_resolve.proofs.NameRules.{third_holds}
use Rattle.tw_resolve.proofs.Numbered.{aliases_resolved}

module _ (program : ProgramTree) (widths : Widths) (tables : Tables) (are : AreTablesOf program widths tables) where
  -- the scope and the setting of the tables are those of the program
  pub same_scope : (setting_in tables).scope ≡ scope_of program
  same_scope = λ j. record { declared = declared_as (are.aliases j); targets = are.targets j }

  pub same_setting : setting_in tables ≡ setting_of widths program (types_in tables.types.table.entries)
  same_setting = λ j. record { widths = are.at_widths j; scope = same_scope j; types = types_in tables.types.table.entries; funs = are.funs j }

  -- the aliases refer to what is there
  pub are_resolved : first_broken (name_rules program) ≡ None → AreResolvedIn tables
  are_resolved none =
      subst₂ (λ (scope : Scope) (aliases : List AliasTree). AllByRecursion (IsResolvedAlias scope) aliases) (sym same_scope) (sym are.aliases)
      (aliases_resolved program (third_holds program none))

  -- no alias contains itself, and the table of types is right
  abbrev pub AreFinite : Type 0
  AreFinite = AllByRecursion (IsFinite (setting_in tables).scope.declared) (aliases_in tables.aliases.table.entries)

  abbrev pub HasTypes : Type 0
  HasTypes = AreTypes (setting_in tables).scope (setting_in tables).types

  -- the rules of types by the tables are those of the program
  same_rules : type_rules (setting_in tables) (aliases_in tables.aliases.table.entries)
      ≡ type_rules (setting_of widths program (types_in tables.types.table.entries)) (aliases_of program.decls)
  same_rules = λ j. type_rules (same_setting j) (are.aliases j)

  finite_in : AreFinite
      → AllByRecursion (IsFinite (declared_as (aliases_of program.decls))) (aliases_of program.decls)
  finite_in finite = subst (λ (aliases : List AliasTree). AllByRecursion (IsFinite (declared_as aliases)) aliases) are.aliases finite

  types_are : HasTypes → AreTypes (scope_of program) (types_in tables.types.table.entries)
  types_are types = subst (λ (scope : Scope). AreTypes scope (types_in tables.types.table.entries)) same_scope types

  -- all rules hold: the program is well-typed
  pub is_typed : first_broken (name_rules program) ≡ None → AreFinite → HasTypes
      → first_broken (type_rules (setting_in tables) (aliases_in tables.aliases.table.entries)) ≡ None
      → IsTyped widths program (types_in tables.types.table.entries)
  is_typed names finite types rules = record {
    names = names;
    finite = finite_in finite;
    are_types = types_are types;
    typed = sym (ap first_broken same_rules) ∙ rules;
  }

  -- each declared name has a type
  complete_in : AreComplete (setting_in tables).scope (setting_in tables).types → AreComplete (scope_of program) (types_in tables.types.table.entries)
  complete_in complete = subst (λ (scope : Scope). AreComplete scope (types_in tables.types.table.entries)) same_scope complete

  -- the tables are those of a well-typed program
  pub typed_tables : first_broken (name_rules program) ≡ None → AreFinite → HasTypes → AreComplete (setting_in tables).scope (setting_in tables).types
      → first_broken (type_rules (setting_in tables) (aliases_in tables.aliases.table.entries)) ≡ None
      → AreTypedTablesOf program tables
  typed_tables names finite types complete rules = record {
    tables_of = record { aliases = are.aliases; targets = are.targets; funs = are.funs; at_widths = refl };
    typed = subst (λ (w : Widths). IsTyped w program (types_in tables.types.table.entries)) (sym are.at_widths) (is_typed names finite types rules);
    complete = complete_in complete;
  }

  -- a rule of types is broken
  pub breaks_types : first_broken (name_rules program) ≡ None → AreFinite → HasTypes
      → (why : Fault) → IsReported (first_broken (type_rules (setting_in tables) (aliases_in tables.aliases.table.entries))) why
      → IsRefusedWith widths program why
  breaks_types names finite types (fault.Refused refusal) is =
      BreaksTypes (types_in tables.types.table.entries) names (finite_in finite) (types_are types) (sym (ap first_broken same_rules) ∙ is)
  breaks_types names finite types fault.Memory is = tt

  -- an alias contains itself
  pub breaks_finite : first_broken (name_rules program) ≡ None → (why : Fault) → IsRecursionFaultIn tables why → IsRefusedWith widths program why
  breaks_finite names (fault.Refused refusal) is =
      subst (IsRefused widths program) (sym is.2)
      (BreaksFinite is.0 names (subst (λ (aliases : List AliasTree). IsFirstRecursive (declared_as aliases) aliases is.0) are.aliases is.1))
  breaks_finite names fault.Memory is = tt

-- the tables are still those of the program after the types are found
pub kept_tables : (program : ProgramTree) (widths : Widths) (old new : Tables) → KeepsNames old new → AreTablesOf program widths old → AreTablesOf program widths new
kept_tables program widths old new kept are = record {
  aliases = ap (λ (table : AliasTable). aliases_in table.table.entries) kept.aliases ∙ are.aliases;
  targets = ap (λ (table : TargetTable). table_targets table.table.entries) kept.targets ∙ are.targets;
  funs = ap (λ (table : FunTable). funs_in table.table.entries) kept.funs ∙ are.funs;
  at_widths = kept.widths ∙ are.at_widths;
}

-- a rule of names is broken
pub breaks_names : (widths : Widths) (program : ProgramTree) (why : Fault) → IsReported (first_broken (name_rules program)) why → IsRefusedWith widths program why
breaks_names widths program (fault.Refused refusal) is = BreaksNames is
breaks_names widths program fault.Memory is = tt

-- a call that ends with a fault that is the refusal
pub refused_as : {A : Type 0} (widths : Widths) (program : ProgramTree) (why : Fault) (result : Result A Fault) → IsErrAnd result (λ other. other ≡ why)
    → IsRefusedWith widths program why → IfErr result (IsRefusedWith widths program)
refused_as widths program why (Ok x) ends is = tt
refused_as widths program why (Err other) ends is = subst (IsRefusedWith widths program) (sym ends) is
