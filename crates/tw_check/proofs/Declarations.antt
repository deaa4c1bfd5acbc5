-- Functions of declarations that are checked one after the other.
use Rattle.std.proofs.Common.{◌≡◌, ◌∙◌, ◌<◌, ◌+◌, ℕ, List, [], ◌∷◌, ◌++◌, map, drop, get_or, length, Option, None, ap, sym, subst, refl, append-nil}
use Rattle.std.proofs.lemmas.List.{drop_more}
use Rattle.tw_text.specs.declared.refusal.Fault.{Fault}
use Rattle.tw_text.specs.declared.refusal.Refusal.{Refusal}
use Rattle.tw_syntax.specs.declared.program.Decl.{Decl}
use Rattle.tw_syntax.specs.Programs.{DeclTree, AliasDecl, FunDecl, decl_tree}
use Rattle.tw_resolve.specs.Demands.{Demand, first_broken, IsReported}
use Rattle.tw_resolve.proofs.Demands.{first_broken-after_none}
use Rattle.tw_resolve.proofs.Ending.{reported_before}
use Rattle.tw_check.specs.Rules.{decls_rules, fun_rules}

-- the rules of declarations are those of the first and then those of the others
first_rules : (decl : DeclTree) (rest : List DeclTree) → decls_rules (decl ∷ rest) ≡ decls_rules (decl ∷ []) ++ decls_rules rest
first_rules (AliasDecl alias) rest = refl
first_rules (FunDecl fun) rest = ap (λ (rules : List Demand). rules ++ decls_rules rest) (sym (append-nil (fun_rules fun)))

-- the rules of the declarations before hold: the rest decides
pub record CheckedSoFar (whole rest : List DeclTree) : Type 0 where
  pub tried : first_broken (decls_rules whole) ≡ first_broken (decls_rules rest)

-- the rest, from a position on, is the declaration there and the rest after it
rest_there : (decls : List Decl) (i : ℕ) (item d : Decl) → i < length decls → item ≡ get_or decls i d
    → first_broken (decls_rules (map decl_tree (drop i decls)))
    ≡ first_broken (decls_rules (decl_tree item ∷ []) ++ decls_rules (map decl_tree (drop (i + 1) decls)))
rest_there decls i item d inside is =
    ap (λ (xs : List Decl). first_broken (decls_rules (map decl_tree xs))) (drop_more decls i d inside)
    ∙ ap (λ (x : Decl). first_broken (decls_rules (decl_tree x ∷ map decl_tree (drop (i + 1) decls)))) (sym is)
    ∙ ap first_broken (first_rules (decl_tree item) (map decl_tree (drop (i + 1) decls)))

pub checked_next : (decls : List Decl) (i : ℕ) (item d : Decl) → i < length decls → item ≡ get_or decls i d
    → CheckedSoFar (map decl_tree decls) (map decl_tree (drop i decls)) → first_broken (decls_rules (decl_tree item ∷ [])) ≡ None
    → CheckedSoFar (map decl_tree decls) (map decl_tree (drop (i + 1) decls))
checked_next decls i item d inside is now none = record {
  tried = now.tried ∙ rest_there decls i item d inside is
      ∙ first_broken-after_none (decls_rules (decl_tree item ∷ [])) (decls_rules (map decl_tree (drop (i + 1) decls))) none;
}

pub checked_until : (decls : List Decl) (i : ℕ) (item d : Decl) (why : Fault) → i < length decls → item ≡ get_or decls i d
    → CheckedSoFar (map decl_tree decls) (map decl_tree (drop i decls)) → IsReported (first_broken (decls_rules (decl_tree item ∷ []))) why
    → IsReported (first_broken (decls_rules (map decl_tree decls))) why
checked_until decls i item d why inside is now reported =
    subst (λ (broken : Option Refusal). IsReported broken why) (sym (now.tried ∙ rest_there decls i item d inside is))
    (reported_before (decls_rules (decl_tree item ∷ [])) (decls_rules (map decl_tree (drop (i + 1) decls))) why reported)
