-- The state of the search for an alias in what it leads to.
use denote.Bor.{Bor}
use Rattle.std.specs.Prelude.{Bool, List, [], map, reverse, Option, if◌then◌else◌, option_to_list}
use Rattle.tw_syntax.specs.declared.written.Written.{Written}
use Rattle.tw_syntax.specs.Types.{WrittenTree, written_tree}
use Rattle.tw_resolve.specs.Declarations.{Name}

-- the written types that wait, the next first
abbrev pub waiting_in : List (Bor Written) → List WrittenTree
waiting_in waiting = reverse (map (λ written. written_tree written.now) waiting)

-- the body of an alias, unless its name is in a set
abbrev pub new_body : (Name → Option WrittenTree) → (Name → Bool) → Name → List WrittenTree
new_body declared reached name = if reached name then [] else option_to_list (declared name)
