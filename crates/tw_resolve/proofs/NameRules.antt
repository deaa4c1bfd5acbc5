-- The rules of names in three parts: aliases, functions, and the names in aliases.
use Rattle.std.proofs.Common.{◌≡◌, ◌∙◌, List, [], ◌++◌, Option, None, ap, sym, subst}
use Rattle.tw_text.specs.declared.refusal.Fault.{Fault}
use Rattle.tw_text.specs.declared.refusal.Refusal.{Refusal}
use Rattle.tw_syntax.specs.Programs.{AliasTree, ProgramTree}
use Rattle.tw_resolve.specs.Declarations.{aliases_of, funs_of, declared_as}
use Rattle.tw_resolve.specs.Demands.{Demand, first_broken, IsReported}
use Rattle.tw_resolve.specs.Names.{alias_names, fun_names, different_rules, aliases_rules, name_rules}
use Rattle.tw_resolve.proofs.Demands.{Holds, none_broken-each, first_broken-after_none}
use Rattle.tw_resolve.proofs.Each.{each_rest}
use Rattle.tw_resolve.proofs.Ending.{reported_before}

module _ (program : ProgramTree) where
  abbrev first : List Demand
  first = different_rules [] (alias_names (aliases_of program.decls))

  abbrev second : List Demand
  second = different_rules [] (fun_names (funs_of program.decls))

  abbrev third : List Demand
  third = aliases_rules (declared_as (aliases_of program.decls)) (aliases_of program.decls)

  by_second : first_broken first ≡ None → first_broken (name_rules program) ≡ first_broken (second ++ third)
  by_second none = first_broken-after_none first (second ++ third) none

  by_third : first_broken first ≡ None → first_broken second ≡ None → first_broken (name_rules program) ≡ first_broken third
  by_third none none2 = by_second none ∙ first_broken-after_none second third none2

  pub reports_alias : (why : Fault) → IsReported (first_broken first) why → IsReported (first_broken (name_rules program)) why
  reports_alias why is = reported_before first (second ++ third) why is

  pub reports_fun : (why : Fault) → first_broken first ≡ None → IsReported (first_broken second) why → IsReported (first_broken (name_rules program)) why
  reports_fun why none is = subst (λ (broken : Option Refusal). IsReported broken why) (sym (by_second none)) (reported_before second third why is)

  -- the rules of the names in aliases, by a table of the same aliases
  by_table : (aliases : List AliasTree) → aliases ≡ aliases_of program.decls
      → first_broken (aliases_rules (declared_as aliases) (aliases_of program.decls)) ≡ first_broken third
  by_table aliases same = ap (λ (xs : List AliasTree). first_broken (aliases_rules (declared_as xs) (aliases_of program.decls))) same

  pub reports_name : (why : Fault) (aliases : List AliasTree) → aliases ≡ aliases_of program.decls → first_broken first ≡ None → first_broken second ≡ None
      → IsReported (first_broken (aliases_rules (declared_as aliases) (aliases_of program.decls))) why → IsReported (first_broken (name_rules program)) why
  reports_name why aliases same none none2 is =
      subst (λ (broken : Option Refusal). IsReported broken why) (by_table aliases same ∙ sym (by_third none none2)) is

  pub names_hold : (aliases : List AliasTree) → aliases ≡ aliases_of program.decls → first_broken first ≡ None → first_broken second ≡ None
      → first_broken (aliases_rules (declared_as aliases) (aliases_of program.decls)) ≡ None → first_broken (name_rules program) ≡ None
  names_hold aliases same none none2 is = by_third none none2 ∙ sym (by_table aliases same) ∙ is

  -- the names in aliases are declared if all rules of names hold
  pub third_holds : first_broken (name_rules program) ≡ None → first_broken third ≡ None
  third_holds none =
      (none_broken-each third).0 (each_rest Holds second third (each_rest Holds first (second ++ third) ((none_broken-each (name_rules program)).1 none)))
