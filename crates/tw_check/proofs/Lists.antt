-- The lists of names that code collects.
use Rattle.std.proofs.Common.{◌≡◌, ◌∙◌, ap, sym, refl, ℕ, List, [], ◌∷◌, ◌++◌, map, append_assoc}
use Rattle.std.proofs.lemmas.List.{map-append}
use Rattle.std.proofs.lemmas.Result.{on_ok_weaker}
use Rattle.std.specs.Result.{OnOk}
use Rattle.std.specs.Prelude.{Result}
use Rattle.tw_syntax.specs.declared.name.Name.{Name}
use Rattle.tw_syntax.specs.Names.{NameTree, name_tree}
use Rattle.tw_check.specs.Liveness.{texts}
use Rattle.tw_check.specs.Walks.{texts_of}

-- the texts of names, by way of their trees
pub texts_of-trees : (names : List Name) → texts (map name_tree names) ≡ texts_of names
texts_of-trees [] = refl
texts_of-trees (name ∷ names) = ap (λ rest. name.text.now ∷ rest) (texts_of-trees names)

-- a call appends a second part
pub appended_then : {T E : Type 0} (r : Result T E) (old mid new xs ys : List (List ℕ)) → mid ≡ old ++ xs → OnOk r (new ≡ mid ++ ys) → OnOk r (new ≡ old ++ (xs ++ ys))
appended_then r old mid new xs ys first =
    on_ok_weaker r (λ second. second ∙ ap (λ front. front ++ ys) first ∙ append_assoc old xs ys)

-- the texts of one more name
pub texts_of-appended : (old mid : List Name) (name : Name) → mid ≡ old ++ name ∷ [] → texts_of mid ≡ texts_of old ++ name.text.now ∷ []
texts_of-appended old mid name appended = ap texts_of appended ∙ map-append (λ (x : Name). x.text.now) old (name ∷ [])

-- the texts of more names, by way of their trees
texts_of-trees_appended : (mid new : List Name) (trees : List NameTree) → map name_tree new ≡ map name_tree mid ++ trees → texts_of new ≡ texts_of mid ++ texts trees
texts_of-trees_appended mid new trees appended =
    sym (texts_of-trees new)
    ∙ ap texts appended
    ∙ map-append (λ (name : NameTree). name.text) (map name_tree mid) trees
    ∙ ap (λ front. front ++ texts trees) (texts_of-trees mid)

-- a target, and then the variables of a right side
pub appended_variables : {T E : Type 0} (r : Result T E) (old mid new : List Name) (target : Name) (variables : List NameTree) → mid ≡ old ++ target ∷ [] → OnOk r (map name_tree new ≡ map name_tree mid ++ variables) → OnOk r (texts_of new ≡ texts_of old ++ target.text.now ∷ texts variables)
appended_variables r old mid new target variables first second =
    appended_then r (texts_of old) (texts_of mid) (texts_of new) (target.text.now ∷ []) (texts variables) (texts_of-appended old mid target first)
    (on_ok_weaker r (texts_of-trees_appended mid new variables) second)

-- the names that were collected into an empty list, as a slice
pub mentioned_is : (made slice new : List Name) (all : List (List ℕ)) → slice ≡ new → texts_of new ≡ texts_of made ++ all → made ≡ [] → texts_of slice ≡ all
mentioned_is made slice new all is appended empty = ap texts_of is ∙ appended ∙ ap (λ names. texts_of names ++ all) empty

pub both_mentioned_are : (made slice mid new : List Name) (xs ys : List (List ℕ)) → slice ≡ new → texts_of new ≡ texts_of mid ++ ys → texts_of mid ≡ texts_of made ++ xs → made ≡ [] → texts_of slice ≡ xs ++ ys
both_mentioned_are made slice mid new xs ys is second first empty =
    ap texts_of is ∙ second ∙ ap (λ front. front ++ ys) (first ∙ ap (λ names. texts_of names ++ xs) empty)
