-- What notes of a set say of a later set, and how they put it back.
use denote.Bor.{Bor}
use mathlib.Core.Path.{fun_ext}
use mathlib.Core.Bool.{beq}
use Rattle.std.proofs.Common.{◌≡◌, ◌∙◌, ap, refl, ℕ, Bool, true, false, ◌&&◌, ◌||◌, if◌then◌else◌, List, [], ◌∷◌, bytes_eq}
use Rattle.std.proofs.lemmas.Slice.Eq.{bytes_eq-Decides}
use Rattle.tw_syntax.specs.declared.name.Name.{Name}
use Rattle.tw_resolve.proofs.Texts.{bytes_eq-sym}
use Rattle.tw_check.specs.Names.{Names, with_name, is_one_of, agree_on}
use Rattle.tw_check.specs.Walks.{texts_of, noted, is_as_noted, put_back}
use Rattle.tw_check.proofs.NameSets.{on_or_off}

-- a set is as it was noted if it agrees with the set of that moment on the noted names
pub is_as_noted-agree_on : (names : List Name) (was now : Names) → is_as_noted (noted was names) now ≡ agree_on (texts_of names) was now
is_as_noted-agree_on [] was now = refl
is_as_noted-agree_on (name ∷ names) was now = ap (λ rest. beq (was name.text.now) (now name.text.now) && rest) (is_as_noted-agree_on names was now)

-- a noted name is as it was noted, and each other name stays
put_back-at : (names : List Name) (was now : Names) (name : List ℕ) → put_back (noted was names) now name ≡ (if is_one_of name (texts_of names) then was name else now name)
put_back-at [] was now name = refl
put_back-at (first ∷ names) was now name = put_back-at names was (with_name now first.text.now (was first.text.now)) name ∙ by (bytes_eq first.text.now name) refl (is_one_of name (texts_of names))
    ∙ ap (λ k. if k || is_one_of name (texts_of names) then was name else now name) (bytes_eq-sym first.text.now name)
  where
    by : (k : Bool) → bytes_eq first.text.now name ≡ k → (later : Bool) → (if later then was name else if k then was first.text.now else now name) ≡ (if k || later then was name else now name)
    by true same true = refl
    by true same false = ap was ((bytes_eq-Decides first.text.now name).0 same)
    by false other true = refl
    by false other false = refl

-- the set that is put back
pub put_back-is : (names : List Name) (was now end : Names) → ((name : List ℕ) → is_one_of name (texts_of names) ≡ true → was name ≡ end name) → ((name : List ℕ) → is_one_of name (texts_of names) ≡ false → now name ≡ end name) → put_back (noted was names) now ≡ end
put_back-is names was now end on off =
    fun_ext (λ name. put_back-at names was now name ∙
    on_or_off (texts_of names) name
    (λ one. ap (λ k. if k then was name else now name) one ∙ on name one)
    (λ none. ap (λ k. if k then was name else now name) none ∙ off name none))

-- the test of notes of all these names
pub noted_agree : (notes : List (Bor (List ℕ) × Bool)) (names : List Name) (all : List (List ℕ)) (was now : Names) → notes ≡ noted was names → texts_of names ≡ all → is_as_noted notes now ≡ agree_on all was now
noted_agree notes names all was now are_noted are_all =
    ap (λ (written : List (Bor (List ℕ) × Bool)). is_as_noted written now) are_noted ∙ is_as_noted-agree_on names was now ∙ ap (λ (texts : List (List ℕ)). agree_on texts was now) are_all
