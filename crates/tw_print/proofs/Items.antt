-- Printing a list item by item.
use Rattle.std.proofs.Common.{◌≡◌, ℕ, suc, ◌<◌, ◌≤◌, ◌+◌, ◌-◌, List, [], ◌∷◌, length, drop, take, get_or, Option, ap, sym, codes, ◌++◌, arith}
use Rattle.std.proofs.lemmas.List.{drop_more, take_all}
use Rattle.tw_print.specs.Progress.{Goes}
use Rattle.tw_print.specs.Programs.{indent}
use Rattle.tw_print.specs.declared.progress.Progress.{Progress}
use Rattle.tw_print.proofs.Going.{goes_none}

-- the item at a position, and those after it
pub next_item : {X K : Type 0} {taken : K → Option (List ℕ)} {faults : K → ℕ} {a b : K} {p q : Progress} (view : List X → List ℕ) (xs : List X) (i : ℕ) (d : X)
    → i < length xs → Goes taken faults a b p q (view (get_or xs i d ∷ drop (i + 1) xs)) → Goes taken faults a b p q (view (drop i xs))
next_item view xs i d inside goes = rw (drop_more xs i d inside) goes

first_is : {X : Type 0} (xs : List X) (d : X) → 1 ≤ length xs → xs ≡ get_or xs 0 d ∷ take (length xs - 1) (drop 1 xs)
first_is [] d some = absurd (omega arith)
first_is (x ∷ xs) d some = ap (λ ys. x ∷ ys) (sym (take_all (suc (length xs) - 1) xs (omega arith)))

-- the first item, and those after it
pub first_item : {X K : Type 0} {taken : K → Option (List ℕ)} {faults : K → ℕ} {a b : K} {p q : Progress} (view : List X → List ℕ) (xs : List X) (d : X)
    → 1 ≤ length xs → Goes taken faults a b p q (view (get_or xs 0 d ∷ take (length xs - 1) (drop 1 xs))) → Goes taken faults a b p q (view xs)
first_item view xs d some goes = rw (first_is xs d some) goes

-- the spaces of one brace, and those that remain
pub next_indent : {K : Type 0} {taken : K → Option (List ℕ)} {faults : K → ℕ} {a b : K} {p q : Progress} (depth i : ℕ)
    → i < depth → Goes taken faults a b p q (codes "  " ++ indent (depth - (i + 1))) → Goes taken faults a b p q (indent (depth - i))
next_indent depth i inside goes =
    let less : depth - i ≡ suc (depth - (i + 1)) = omega (arith, inside) in rw less goes

pub no_indent : {K : Type 0} {taken : K → Option (List ℕ)} {faults : K → ℕ} {a : K} {p : Progress} (depth i : ℕ)
    → depth ≤ i → Goes taken faults a a p p (indent (depth - i))
no_indent depth i all = let none : depth - i ≡ 0 = omega (arith, all) in rw none (goes_none _ _ _ _)
