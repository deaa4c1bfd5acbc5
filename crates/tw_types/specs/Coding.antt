-- Types and targets as lists of numbers that determine them. A struct needs this if its value is a list of targets.
use Rattle.std.specs.Prelude.{◌≡◌, ℕ, zero, suc, List, [], ◌∷◌, ◌++◌, fold, refl}
use Rattle.std.proofs.Common.{◌∙◌, ap}
use Rattle.std.proofs.lemmas.List.Sums.{fold-append}
use Rattle.std.specs.Coded.{Coded, code_by, coded×, coded_ℕ, coded_list}
use Rattle.tw_types.specs.Types.{Ty, UnitTy, Word, Boolean, Pointer, PairTy, Target}

-- a type in postfix order: 0 to 2 for `()`, `uint` and `bool`, 3 after both halves of a pair, and 4 and more for pointers
abbrev pub postfix : Ty → List ℕ
postfix UnitTy = 0 ∷ []
postfix Word = 1 ∷ []
postfix Boolean = 2 ∷ []
postfix (PairTy first second) = postfix first ++ (postfix second ++ 3 ∷ [])
postfix (Pointer target) = suc (suc (suc (suc target))) ∷ []

-- the stack of types after one more number
abbrev pub push : List Ty → ℕ → List Ty
push stack zero = UnitTy ∷ stack
push stack (suc zero) = Word ∷ stack
push stack (suc (suc zero)) = Boolean ∷ stack
push (second ∷ first ∷ stack) (suc (suc (suc zero))) = PairTy first second ∷ stack
push stack (suc (suc (suc zero))) = stack
push stack (suc (suc (suc (suc target)))) = Pointer target ∷ stack

-- the top of the stack
abbrev pub top : List Ty → Ty
top [] = UnitTy
top (ty ∷ stack) = ty

-- `(uint, ptr<..>)` is 1 4 3, and read back from there
pub postfix_of_item : postfix (PairTy Word (Pointer 0)) ≡ 1 ∷ 4 ∷ 3 ∷ []
postfix_of_item = refl

pub item_read_back : top (fold push [] (1 ∷ 4 ∷ 3 ∷ [])) ≡ PairTy Word (Pointer 0)
item_read_back = refl

-- the numbers of a type push it
pub pushed : (ty : Ty) (stack : List Ty) → fold push stack (postfix ty) ≡ ty ∷ stack
pushed UnitTy stack = refl
pushed Word stack = refl
pushed Boolean stack = refl
pushed (Pointer target) stack = refl
pushed (PairTy first second) stack =
    fold-append push stack (postfix first) (postfix second ++ 3 ∷ [])
    ∙ ap (λ (made : List Ty). fold push made (postfix second ++ 3 ∷ [])) (pushed first stack)
    ∙ fold-append push (first ∷ stack) (postfix second) (3 ∷ [])
    ∙ ap (λ (made : List Ty). fold push made (3 ∷ [])) (pushed second (first ∷ stack))

-- the code of targets
abbrev pub target_code : Coded Target
target_code =
    code_by (List ℕ × List ℕ) (coded× (coded_list coded_ℕ) (coded_list coded_ℕ))
    (λ target. (target.written, postfix target.ty))
    (λ code. record { written = code.0; ty = top (fold push [] code.1) })
    (λ target. ap (λ (ty : Ty). record { written = target.written; ty = ty }) (ap top (pushed target.ty [])))
