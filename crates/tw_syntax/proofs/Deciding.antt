-- Tests that decide whether syntax trees of one form are equal without places.
use Rattle.std.proofs.Common.{◌≡◌, refl, Bool, true, false, ◌&&◌, List, [], ◌∷◌, Option, Some, None, map, Decides}
use Rattle.std.specs.Option.{option_map}
use Rattle.std.proofs.Math.Bool.{false≢true}
use Rattle.std.proofs.lemmas.Bool.Decides.{Decides-and}
use Rattle.tw_syntax.specs.Same.{same_each, same_optional}

-- a test of one part
pub one : {P R : Type 0} {b : Bool} → Decides b P → (P → R) → (R → P) → Decides b R
one p made part = (λ h. made (p.0 h), λ r. p.1 (part r))

pub both : {P Q : Type 0} {a b : Bool} → Decides a P → Decides b Q → Decides (a && b) (P × Q)
both {a = a} {b = b} p q = Decides-and a b p q

-- tests of two parts
pub two : {P Q R : Type 0} {a b : Bool} → Decides a P → Decides b Q → (P → Q → R) → (R → P) → (R → Q) → Decides (a && b) R
two p q made first second = one (both p q) (λ h. made (h.0) (h.1)) (λ r. (first r, second r))

-- tests of three parts, nested to the left
pub three : {P Q S R : Type 0} {a b c : Bool} → Decides a P → Decides b Q → Decides c S → (P → Q → S → R) → (R → P) → (R → Q) → (R → S) → Decides ((a && b) && c) R
three p q s made first second third = two (both p q) s (λ h. made (h.0) (h.1)) (λ r. (first r, second r)) third

-- a test that always holds decides what always holds
pub always : {R : Type 0} → R → Decides true R
always r = (λ h. r, λ h. refl)

-- a test that never holds decides what never holds
pub never : {R : Type 0} → (R → false ≡ true) → Decides false R
never f = (λ h. absurd (false≢true h), f)

pub each_decides : {A B : Type 0} (test : A → A → Bool) (tree : A → B) → ((x y : A) → Decides (test x y) (tree x ≡ tree y))
    → (xs ys : List A) → Decides (same_each test xs ys) (map tree xs ≡ map tree ys)
each_decides test tree decides [] [] = always refl
each_decides test tree decides [] (y ∷ ys) = never (λ e. cc)
each_decides test tree decides (x ∷ xs) [] = never (λ e. cc)
each_decides test tree decides (x ∷ xs) (y ∷ ys) = two (decides x y) (each_decides test tree decides xs ys) (λ e f. cc) (λ e. cc) (λ e. cc)

pub optional_decides : {A B : Type 0} (test : A → A → Bool) (tree : A → B) → ((x y : A) → Decides (test x y) (tree x ≡ tree y))
    → (x y : Option A) → Decides (same_optional test x y) (option_map tree x ≡ option_map tree y)
optional_decides test tree decides None None = always refl
optional_decides test tree decides None (Some y) = never (λ e. cc)
optional_decides test tree decides (Some x) None = never (λ e. cc)
optional_decides test tree decides (Some x) (Some y) = one (decides x y) (λ e. cc) (λ e. cc)
