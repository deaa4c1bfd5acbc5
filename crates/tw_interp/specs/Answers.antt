-- What the answers of the code say of the semantics.
use Rattle.std.specs.Prelude.{◌≡◌, Option, Some}

-- if a value is defined, it was found
abbrev pub Finds : {A : Type 0} → Option A → Option A → Type 0
Finds {A} defined found = (value : A) → defined ≡ Some value → found ≡ Some value

-- if two values are defined, both were found
abbrev pub FindsBoth : {A : Type 0} → Option A → Option A → Option (A × A) → Type 0
FindsBoth {A} first second found = (x y : A) → first ≡ Some x → second ≡ Some y → found ≡ Some (x, y)
