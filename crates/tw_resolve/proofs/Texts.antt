-- Equality of texts.
use Rattle.std.proofs.Common.{◌≡◌, sym, ℕ, List, bytes_eq}
use Rattle.std.proofs.lemmas.Bool.Decides.{same_from_decides}
use Rattle.std.proofs.lemmas.Slice.Eq.{bytes_eq-Decides}

pub bytes_eq-sym : (x y : List ℕ) → bytes_eq x y ≡ bytes_eq y x
bytes_eq-sym x y =
    same_from_decides (bytes_eq x y) (bytes_eq y x) (bytes_eq-Decides x y)
    ((λ is. sym ((bytes_eq-Decides y x).0 is)), (λ same. (bytes_eq-Decides y x).1 (sym same)))
