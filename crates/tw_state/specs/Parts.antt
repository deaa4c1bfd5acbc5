-- Parts of values, and stores with another value at a path.
use Rattle.std.specs.Prelude.{◌≡◌, ℕ, zero, suc, if◌then◌else◌, true, false, List, [], ◌∷◌, Option, Some, None, option_map, option_and_then, codes, refl}
use Rattle.std.specs.Str.{bytes_eq}
use Rattle.tw_syntax.specs.Examples.{place}
use Rattle.tw_syntax.specs.Names.{PathTree}
use Rattle.tw_types.specs.Values.{Value, Number, Truth, PairValue}
use Rattle.tw_state.specs.States.{Store, empty, with_value}

-- the part of a value that steps lead to: step 1 takes the first half of a pair, and step 2 the second
abbrev pub part_of : List ℕ → Value → Option Value
part_of [] value = Some value
part_of (suc zero ∷ steps) (PairValue x y) = part_of steps x
part_of (suc (suc zero) ∷ steps) (PairValue x y) = part_of steps y
part_of steps value = None

-- the value with this part there
abbrev pub with_part : List ℕ → Value → Value → Value
with_part [] value part = part
with_part (suc zero ∷ steps) (PairValue x y) part = PairValue (with_part steps x part) y
with_part (suc (suc zero) ∷ steps) (PairValue x y) part = PairValue x (with_part steps y part)
with_part steps value part = value

-- the value at a path, if its root has a value and its steps lead to a part
abbrev pub value_at : Store → PathTree → Option Value
value_at store path = option_and_then (part_of path.steps) (store path.root.text)

-- the store with this value at a path
abbrev pub with_value_at : Store → PathTree → Value → Store
with_value_at store path part name =
    if bytes_eq path.root.text name then option_map (λ value. with_part path.steps value part) (store name) else store name

-- `x` is `(5, (true, 7))`
abbrev store_of_x : Store
store_of_x = with_value empty (codes "x") (PairValue (Number 5) (PairValue (Truth true) (Number 7)))

abbrev path_of_x : List ℕ → PathTree
path_of_x steps = record { root = record { text = codes "x"; at = place 1 1 }; steps = steps }

pub part_at_2_1 : value_at store_of_x (path_of_x (2 ∷ 1 ∷ [])) ≡ Some (Truth true)
part_at_2_1 = refl

pub no_part_at_1_1 : value_at store_of_x (path_of_x (1 ∷ 1 ∷ [])) ≡ None
no_part_at_1_1 = refl

pub false_at_2_1 : with_value_at store_of_x (path_of_x (2 ∷ 1 ∷ [])) (Truth false) (codes "x") ≡ Some (PairValue (Number 5) (PairValue (Truth false) (Number 7)))
false_at_2_1 = refl
