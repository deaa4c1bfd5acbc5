-- The rest of a list from a place on.
use Rattle.std.proofs.Common.{◌≡◌, ◌∙◌, ◌+◌, ◌≤◌, ap, arith, ℕ, zero, suc, List, [], ◌∷◌, drop, length, Some, slice_get}
use Rattle.std.proofs.Math.Seq.{drop-nil}
use Rattle.std.proofs.lemmas.Option.{none-some}
use Rattle.tw_state.proofs.Basics.{some_value}

pub ahead_next : {A : Type 0} (xs : List A) (i : ℕ) (x : A) → slice_get xs i ≡ Some x → drop i xs ≡ x ∷ drop (i + 1) xs
ahead_next [] i x is = absurd (none-some x is)
ahead_next (y ∷ ys) zero x is = ap (λ z. z ∷ ys) (some_value is)
ahead_next (y ∷ ys) (suc i) x is =
    let e : suc (i + 1) ≡ suc i + 1 = omega arith in
    ahead_next ys i x is ∙ ap (λ (n : ℕ). x ∷ drop n (y ∷ ys)) e

pub ahead_none : {A : Type 0} (xs : List A) (i : ℕ) → length xs ≤ i → drop i xs ≡ []
ahead_none [] i past = drop-nil i
ahead_none (x ∷ xs) zero past = absurd (omega (arith, past))
ahead_none (x ∷ xs) (suc i) past = ahead_none xs i (omega (arith, past))
