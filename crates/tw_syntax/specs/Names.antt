-- Names and paths without pointers.
use Rattle.std.specs.Prelude.{◌≡◌, ℕ, List, [], ◌∷◌, codes, refl}
use Rattle.tw_text.specs.declared.place.Pos.{Pos}
use Rattle.tw_syntax.specs.declared.name.Name.{Name}
use Rattle.tw_syntax.specs.declared.name.Path.{Path}
use Rattle.tw_syntax.specs.Examples.{lent, name, place}

-- a name, as bytes, and its place
pub record NameTree : Type 0 where
  pub text : List ℕ
  pub at : Pos
  deriving IsSet as NameTree-set

-- a name, and the steps, 1 or 2, from its value to a part
pub record PathTree : Type 0 where
  pub root : NameTree
  pub steps : List ℕ
  deriving IsSet as PathTree-set

-- the tree of a name
abbrev pub name_tree : Name → NameTree
name_tree x = record { text = x.text.now; at = x.at }

-- the tree of a path
abbrev pub path_tree : Path → PathTree
path_tree x = record { root = name_tree x.root; steps = x.steps.now }

pub path_tree-steps : path_tree (record { root = name (codes "p") (place 3 1); steps = lent (1 ∷ 2 ∷ []) })
    ≡ record { root = record { text = codes "p"; at = place 3 1 }; steps = 1 ∷ 2 ∷ [] }
path_tree-steps = refl
