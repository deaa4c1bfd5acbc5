-- The list of targets: the place of a text in it, and the list after a new text or a new type.
use Rattle.std.specs.Prelude.{◌≡◌, ◌≢◌, ℕ, zero, suc, if◌then◌else◌, List, [], ◌∷◌, ◌++◌, Option, Some, None, is_some, option_map, position, slice_get, refl}
use Rattle.std.specs.List.{AllByRecursion}
use Rattle.std.specs.Str.{bytes_eq}
use Rattle.tw_types.specs.Types.{Ty, UnitTy, Word, Boolean, Target}

-- the texts of the targets are all different
abbrev pub AreDistinct : List Target → Type 0
AreDistinct [] = Unit {0}
AreDistinct (target ∷ targets) = AllByRecursion (λ other. target.written ≢ other.written) targets × AreDistinct targets

-- the place of a text among the targets, if it has one
abbrev pub place_of : List ℕ → List Target → Option ℕ
place_of text targets = position (λ target. bytes_eq text target.written) targets

-- the targets with this text among them: unchanged, or with it appended and the type `()`
abbrev pub interned : List ℕ → List Target → List Target
interned text targets =
    if is_some (place_of text targets) then targets else targets ++ record { written = text; ty = UnitTy } ∷ []

-- the targets, with another type at one place
abbrev pub defined : ℕ → Ty → List Target → List Target
defined place ty [] = []
defined zero ty (target ∷ targets) = record target { ty = ty } ∷ targets
defined (suc place) ty (target ∷ targets) = target ∷ defined place ty targets

-- the text and the type of the target at a place
abbrev pub written_at : List Target → ℕ → Option (List ℕ)
written_at targets place = option_map (λ target. target.written) (slice_get targets place)

abbrev pub ty_at : List Target → ℕ → Option Ty
ty_at targets place = option_map (λ target. target.ty) (slice_get targets place)

-- the targets `a`, which is a word, and `b`, which is a truth value
abbrev two : List Target
two = record { written = 97 ∷ []; ty = Word } ∷ record { written = 98 ∷ []; ty = Boolean } ∷ []

pub place_of_b : place_of (98 ∷ []) two ≡ Some 1
place_of_b = refl

pub no_place_of_c : place_of (99 ∷ []) two ≡ None
no_place_of_c = refl

pub b_stays : interned (98 ∷ []) two ≡ two
b_stays = refl

pub c_comes_last : interned (99 ∷ []) two ≡ two ++ record { written = 99 ∷ []; ty = UnitTy } ∷ []
c_comes_last = refl

pub b_is_a_word : defined 1 Word two ≡ record { written = 97 ∷ []; ty = Word } ∷ record { written = 98 ∷ []; ty = Word } ∷ []
b_is_a_word = refl

pub text_of_b : written_at two 1 ≡ Some (98 ∷ [])
text_of_b = refl

pub type_of_a : ty_at two 0 ≡ Some Word
type_of_a = refl
