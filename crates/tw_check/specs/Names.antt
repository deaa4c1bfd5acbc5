-- Sets of names.
pub use Rattle.tw_resolve.specs.Declarations.{is_one_of}
use Rattle.std.specs.Prelude.{◌≡◌, ℕ, Bool, true, false, ◌&&◌, if◌then◌else◌, List, [], ◌∷◌, codes, refl}
use Rattle.std.proofs.Math.Bool.{beq}
use Rattle.std.specs.Str.{bytes_eq}

-- a set of names: whether each name is in it
abbrev pub Names : Type 0
Names = List ℕ → Bool

abbrev pub no_names : Names
no_names name = false

-- the set with a name put in, or taken out
abbrev pub with_name : Names → List ℕ → Bool → Names
with_name names changed is_in name = if bytes_eq changed name then is_in else names name

-- whether two sets agree on each name of a list
abbrev pub agree_on : List (List ℕ) → Names → Names → Bool
agree_on [] left right = true
agree_on (first ∷ rest) left right = beq (left first) (right first) && agree_on rest left right

-- the set `{x}`
abbrev only_x : Names
only_x = with_name no_names (codes "x") true

pub x_is_in : only_x (codes "x") ≡ true
x_is_in = refl

pub y_is_out : only_x (codes "y") ≡ false
y_is_out = refl

pub x_taken_out : with_name only_x (codes "x") false (codes "x") ≡ false
x_taken_out = refl

pub agree_on_y : agree_on (codes "y" ∷ []) only_x no_names ≡ true
agree_on_y = refl

pub differ_on_x : agree_on (codes "y" ∷ codes "x" ∷ []) only_x no_names ≡ false
differ_on_x = refl
