-- Declarations that are taken one after the other, while their names are different.
use Rattle.std.proofs.lemmas.List.{drop_more}
use Rattle.tw_syntax.specs.declared.program.Decl.{Decl}
use Rattle.std.proofs.Common.{drop, get_or, length, ◌<◌, ◌+◌, ◌≡◌, ◌∙◌, ℕ, not, List, [], ◌∷◌, ◌++◌, map, Option, None, ap, sym, subst, refl, append_assoc, append-nil}
use Rattle.std.proofs.lemmas.List.{map-append}
use Rattle.tw_text.specs.declared.refusal.Fault.{Fault}
use Rattle.tw_text.specs.declared.refusal.Refusal.{Refusal}
use Rattle.tw_text.specs.declared.refusal.Rule.TheVariants as rule
use Rattle.tw_syntax.specs.Names.{NameTree}
use Rattle.tw_syntax.specs.Types.{WrittenTree}
use Rattle.tw_syntax.specs.Programs.{AliasTree, FunTree, DeclTree, AliasDecl, FunDecl, decl_tree}
use Rattle.tw_resolve.specs.Declarations.{Name, is_one_of, aliases_of, funs_of}
use Rattle.tw_resolve.specs.Demands.{Demand, demand, first_broken, IsReported}
use Rattle.tw_resolve.specs.Names.{different_rules, declared_rules, aliases_rules}
use Rattle.tw_resolve.proofs.Demands.{first_broken-after_none}
use Rattle.tw_resolve.proofs.Ending.{reported_before}

-- the rules of names in two parts
different_parts : (earlier : List Name) (xs ys : List NameTree)
    → different_rules earlier (xs ++ ys) ≡ different_rules earlier xs ++ different_rules (earlier ++ map (λ name. name.text) xs) ys
different_parts earlier [] ys = ap (λ (names : List Name). different_rules names ys) (sym (append-nil earlier))
different_parts earlier (x ∷ xs) ys =
    ap (λ (rest : List Demand). demand rule.DuplicateName x.at (not (is_one_of x.text earlier)) ∷ rest)
    (different_parts (earlier ++ x.text ∷ []) xs ys
    ∙ ap (λ (names : List Name). different_rules (earlier ++ x.text ∷ []) xs ++ different_rules names ys) (append_assoc earlier (x.text ∷ []) (map (λ name. name.text) xs)))

module _ {T : Type 0} (pick : List DeclTree → List T) (name : T → NameTree)
    (nothing : pick [] ≡ []) (first : (decl : DeclTree) (decls : List DeclTree) → pick (decl ∷ decls) ≡ pick (decl ∷ []) ++ pick decls) where
  abbrev pub texts : List T → List Name
  texts xs = map (λ x. (name x).text) xs

  -- so many are declared, with different names, and the rest is still to come
  pub record Declaring (whole : List DeclTree) (done : List T) (rest : List DeclTree) : Type 0 where
    pub tried : first_broken (different_rules [] (map name (pick whole))) ≡ first_broken (different_rules (texts done) (map name (pick rest)))
    pub parts : pick whole ≡ done ++ pick rest

  pub begin : (whole : List DeclTree) → Declaring whole [] whole
  begin whole = record { tried = refl; parts = refl }

  -- the rules of the rest are those of its first declaration and then those of the others
  rest_parts : (done : List T) (decl : DeclTree) (rest : List DeclTree)
      → different_rules (texts done) (map name (pick (decl ∷ rest)))
      ≡ different_rules (texts done) (map name (pick (decl ∷ []))) ++ different_rules (texts (done ++ pick (decl ∷ []))) (map name (pick rest))
  rest_parts done decl rest =
      ap (λ (xs : List T). different_rules (texts done) (map name xs)) (first decl rest)
      ∙ ap (different_rules (texts done)) (map-append name (pick (decl ∷ [])) (pick rest))
      ∙ different_parts (texts done) (map name (pick (decl ∷ []))) (map name (pick rest))
      ∙ ap (λ (names : List Name). different_rules (texts done) (map name (pick (decl ∷ []))) ++ different_rules names (map name (pick rest)))
      (ap (λ (names : List Name). texts done ++ names) (map_twice (pick (decl ∷ []))) ∙ sym (map-append (λ x. (name x).text) done (pick (decl ∷ []))))
    where
      map_twice : (xs : List T) → map (λ n. n.text) (map name xs) ≡ texts xs
      map_twice [] = refl
      map_twice (x ∷ xs) = ap (λ (names : List Name). (name x).text ∷ names) (map_twice xs)

  pub step : (whole : List DeclTree) (done : List T) (decl : DeclTree) (rest : List DeclTree) → Declaring whole done (decl ∷ rest)
      → first_broken (different_rules (texts done) (map name (pick (decl ∷ [])))) ≡ None → Declaring whole (done ++ pick (decl ∷ [])) rest
  step whole done decl rest now none = record {
    tried = now.tried ∙ ap first_broken (rest_parts done decl rest) ∙ first_broken-after_none (different_rules (texts done) (map name (pick (decl ∷ [])))) (different_rules (texts (done ++ pick (decl ∷ []))) (map name (pick rest))) none;
    parts = now.parts ∙ ap (λ (xs : List T). done ++ xs) (first decl rest) ∙ sym (append_assoc done (pick (decl ∷ [])) (pick rest));
  }

  pub stop : (whole : List DeclTree) (done : List T) (decl : DeclTree) (rest : List DeclTree) (why : Fault) → Declaring whole done (decl ∷ rest)
      → IsReported (first_broken (different_rules (texts done) (map name (pick (decl ∷ []))))) why
      → IsReported (first_broken (different_rules [] (map name (pick whole)))) why
  stop whole done decl rest why now is =
      subst (λ (broken : Option Refusal). IsReported broken why) (sym (now.tried ∙ ap first_broken (rest_parts done decl rest)))
      (reported_before (different_rules (texts done) (map name (pick (decl ∷ [])))) (different_rules (texts (done ++ pick (decl ∷ []))) (map name (pick rest))) why is)

  pub none_at_end : (whole : List DeclTree) (done : List T) → Declaring whole done [] → first_broken (different_rules [] (map name (pick whole))) ≡ None
  none_at_end whole done now = now.tried ∙ ap (λ (xs : List T). first_broken (different_rules (texts done) (map name xs))) nothing

  pub all_at_end : (whole : List DeclTree) (done : List T) → Declaring whole done [] → done ≡ pick whole
  all_at_end whole done now = sym (now.parts ∙ ap (λ (xs : List T). done ++ xs) nothing ∙ append-nil done)

-- the first alias of declarations, and the first function
pub first_alias : (decl : DeclTree) (decls : List DeclTree) → aliases_of (decl ∷ decls) ≡ aliases_of (decl ∷ []) ++ aliases_of decls
first_alias (AliasDecl alias) decls = refl
first_alias (FunDecl fun) decls = refl

pub first_fun : (decl : DeclTree) (decls : List DeclTree) → funs_of (decl ∷ decls) ≡ funs_of (decl ∷ []) ++ funs_of decls
first_fun (AliasDecl alias) decls = refl
first_fun (FunDecl fun) decls = refl

abbrev pub DeclaringAliases : List DeclTree → List AliasTree → List DeclTree → Type 0
DeclaringAliases = Declaring aliases_of (λ alias. alias.name) refl first_alias

abbrev pub DeclaringFuns : List DeclTree → List FunTree → List DeclTree → Type 0
DeclaringFuns = Declaring funs_of (λ fun. fun.name) refl first_fun

-- the rules of the aliases of declarations, while those before hold
pub record KnownSoFar (declared : Name → Option WrittenTree) (whole rest : List DeclTree) : Type 0 where
  pub tried : first_broken (aliases_rules declared (aliases_of whole)) ≡ first_broken (aliases_rules declared (aliases_of rest))

pub known_begin : (declared : Name → Option WrittenTree) (whole : List DeclTree) → KnownSoFar declared whole whole
known_begin declared whole = record { tried = refl }

first_rules : (declared : Name → Option WrittenTree) (decl : DeclTree) (rest : List DeclTree)
    → aliases_rules declared (aliases_of (decl ∷ rest)) ≡ aliases_rules declared (aliases_of (decl ∷ [])) ++ aliases_rules declared (aliases_of rest)
first_rules declared (AliasDecl alias) rest = ap (λ (rules : List Demand). rules ++ aliases_rules declared (aliases_of rest)) (sym (append-nil (declared_rules declared alias.body)))
first_rules declared (FunDecl fun) rest = refl

pub known_step : (declared : Name → Option WrittenTree) (whole : List DeclTree) (decl : DeclTree) (rest : List DeclTree) → KnownSoFar declared whole (decl ∷ rest)
    → first_broken (aliases_rules declared (aliases_of (decl ∷ []))) ≡ None → KnownSoFar declared whole rest
known_step declared whole decl rest now none = record {
  tried = now.tried ∙ ap first_broken (first_rules declared decl rest)
      ∙ first_broken-after_none (aliases_rules declared (aliases_of (decl ∷ []))) (aliases_rules declared (aliases_of rest)) none;
}

pub known_stop : (declared : Name → Option WrittenTree) (whole : List DeclTree) (decl : DeclTree) (rest : List DeclTree) (why : Fault) → KnownSoFar declared whole (decl ∷ rest)
    → IsReported (first_broken (aliases_rules declared (aliases_of (decl ∷ [])))) why → IsReported (first_broken (aliases_rules declared (aliases_of whole))) why
known_stop declared whole decl rest why now is =
    subst (λ (broken : Option Refusal). IsReported broken why) (sym (now.tried ∙ ap first_broken (first_rules declared decl rest)))
    (reported_before (aliases_rules declared (aliases_of (decl ∷ []))) (aliases_rules declared (aliases_of rest)) why is)

-- the rest, from a position on, is the item there and the rest after it
item_there : (decls : List Decl) (i : ℕ) (item : Decl) (d : Decl) → i < length decls → item ≡ get_or decls i d
    → map decl_tree (drop i decls) ≡ decl_tree item ∷ map decl_tree (drop (i + 1) decls)
item_there decls i item d inside is = ap (map decl_tree) (drop_more decls i d inside) ∙ ap (λ (x : Decl). decl_tree x ∷ map decl_tree (drop (i + 1) decls)) (sym is)

pub known_next : (declared : Name → Option WrittenTree) (decls : List Decl) (i : ℕ) (item : Decl) (d : Decl) → i < length decls → item ≡ get_or decls i d
    → KnownSoFar declared (map decl_tree decls) (map decl_tree (drop i decls)) → first_broken (aliases_rules declared (aliases_of (decl_tree item ∷ []))) ≡ None
    → KnownSoFar declared (map decl_tree decls) (map decl_tree (drop (i + 1) decls))
known_next declared decls i item d inside is now none =
    known_step declared (map decl_tree decls) (decl_tree item) (map decl_tree (drop (i + 1) decls))
    (subst (KnownSoFar declared (map decl_tree decls)) (item_there decls i item d inside is) now) none

pub known_until : (declared : Name → Option WrittenTree) (decls : List Decl) (i : ℕ) (item : Decl) (d : Decl) (why : Fault) → i < length decls → item ≡ get_or decls i d
    → KnownSoFar declared (map decl_tree decls) (map decl_tree (drop i decls)) → IsReported (first_broken (aliases_rules declared (aliases_of (decl_tree item ∷ [])))) why
    → IsReported (first_broken (aliases_rules declared (aliases_of (map decl_tree decls)))) why
known_until declared decls i item d why inside is now reported =
    known_stop declared (map decl_tree decls) (decl_tree item) (map decl_tree (drop (i + 1) decls)) why
    (subst (KnownSoFar declared (map decl_tree decls)) (item_there decls i item d inside is) now) reported
