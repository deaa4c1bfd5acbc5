-- The functions of declarations are right exactly if no rule of them is broken.
use Rattle.std.proofs.Common.{◌≡◌, ◌↔◌, flat_map, List, [], ◌∷◌, None}
use Rattle.std.specs.List.{AllByRecursion}
use Rattle.tw_syntax.specs.Programs.{FunTree, DeclTree}
use Rattle.tw_resolve.specs.Declarations.{funs_of}
use Rattle.tw_resolve.specs.Demands.{first_broken}
use Rattle.tw_resolve.proofs.Demands.{Holds, EachHolds, none_broken-each}
use Rattle.tw_resolve.proofs.Each.{each_first, each_rest, each-append}
use Rattle.tw_check.specs.Right.{IsRight}
use Rattle.tw_check.specs.Rules.{fun_rules, decls_rules}
use Rattle.tw_check.proofs.RightExactly.{right_exactly_if_kept}

right_if_each : (funs : List FunTree) → EachHolds (flat_map fun_rules funs) → AllByRecursion IsRight funs
right_if_each [] each = tt
right_if_each (fun ∷ funs) each = (
  (right_exactly_if_kept fun).1 ((none_broken-each (fun_rules fun)).0 (each_first Holds (fun_rules fun) (flat_map fun_rules funs) each)),
  right_if_each funs (each_rest Holds (fun_rules fun) (flat_map fun_rules funs) each),
)

each_if_right : (funs : List FunTree) → AllByRecursion IsRight funs → EachHolds (flat_map fun_rules funs)
each_if_right [] right = tt
each_if_right (fun ∷ funs) right =
    each-append Holds (fun_rules fun) (flat_map fun_rules funs) ((none_broken-each (fun_rules fun)).1 ((right_exactly_if_kept fun).0 right.0)) (each_if_right funs right.1)

pub right_exactly_if_none_broken : (decls : List DeclTree) → AllByRecursion IsRight (funs_of decls) ↔ (first_broken (decls_rules decls) ≡ None)
right_exactly_if_none_broken decls = (
  λ right. (none_broken-each (decls_rules decls)).0 (each_if_right (funs_of decls) right),
  λ none. right_if_each (funs_of decls) ((none_broken-each (decls_rules decls)).1 none),
)
