-- The rules of declared names: none is declared twice, and each one that a declaration refers to is there.
use Rattle.std.specs.Prelude.{Option, not, List, [], ◌∷◌, ◌++◌, map, flat_map, is_some}
use Rattle.tw_text.specs.declared.refusal.Rule.TheVariants as rule
use Rattle.tw_syntax.specs.Names.{NameTree}
use Rattle.tw_syntax.specs.Programs.{AliasTree, FunTree, ProgramTree}
use Rattle.tw_syntax.specs.Types.{WrittenTree, PairType, PtrType, NamedType}
use Rattle.tw_resolve.specs.Demands.{Demand, demand}
use Rattle.tw_resolve.specs.Declarations.{Name, is_one_of, aliases_of, funs_of, declared_as}

-- no name is one of those before it
abbrev pub different_rules : List Name → List NameTree → List Demand
different_rules earlier [] = []
different_rules earlier (name ∷ names) =
    demand rule.DuplicateName name.at (not (is_one_of name.text earlier)) ∷ different_rules (earlier ++ name.text ∷ []) names

-- the names of aliases and of functions, with and without their places
abbrev pub alias_names : List AliasTree → List NameTree
alias_names aliases = map (λ alias. alias.name) aliases

abbrev pub fun_names : List FunTree → List NameTree
fun_names funs = map (λ fun. fun.name) funs

abbrev pub alias_texts : List AliasTree → List Name
alias_texts aliases = map (λ alias. alias.name.text) aliases

abbrev pub fun_texts : List FunTree → List Name
fun_texts funs = map (λ fun. fun.name.text) funs

-- each name in a written type is declared
abbrev pub declared_rules : (Name → Option WrittenTree) → WrittenTree → List Demand
declared_rules declared (PairType at first second) = declared_rules declared first ++ declared_rules declared second
declared_rules declared (PtrType at to) = declared_rules declared to
declared_rules declared (NamedType at name) = demand rule.UnknownName at (is_some (declared name)) ∷ []
declared_rules declared other = []

-- each name in aliases is declared
abbrev pub aliases_rules : (Name → Option WrittenTree) → List AliasTree → List Demand
aliases_rules declared aliases = flat_map (λ alias. declared_rules declared alias.body) aliases

-- the names of aliases are different, then those of functions, and then the names in the aliases are declared
abbrev pub name_rules : ProgramTree → List Demand
name_rules program =
    let aliases = aliases_of program.decls in
    different_rules [] (alias_names aliases)
    ++ (different_rules [] (fun_names (funs_of program.decls))
    ++ aliases_rules (declared_as aliases) aliases)
