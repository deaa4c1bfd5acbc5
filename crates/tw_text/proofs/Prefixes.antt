-- The laws of prefixes.
use Rattle.std.proofs.Common.{◌≡◌, ◌+◌, ap, ℕ, nat_eq, Bool, true, false, ◌&&◌, cond, List, [], ◌∷◌, ◌++◌, length, take, drop, Option, Some, None, Bor, MatchOption, refl}
use Rattle.std.specs.Option.{option_copied}
use Rattle.std.specs.Cmp.Lexicographic.{pointwise}
use Rattle.std.proofs.lemmas.Bool.Decides.{Decides-eqb}
use Rattle.tw_text.specs.Prefix.{after}

pub after-append : (prefix rest : List ℕ) → after prefix (prefix ++ rest) ≡ Some rest
unfolding after
after-append [] rest = refl
after-append (c ∷ prefix) rest = rw ((Decides-eqb c c).1 refl) (after-append prefix rest)

more : (k : Bool) (c byte : ℕ) (bytes rest rest' : List ℕ) → nat_eq byte c ≡ k → (found : Option (List ℕ)) → cond k found None ≡ Some rest → (found ≡ Some rest → bytes ≡ rest') → byte ∷ bytes ≡ c ∷ rest'
more true c byte bytes rest rest' same found is next =
    let e : byte ≡ c = (Decides-eqb byte c).0 same in
    let f = next is in
    cc
more false c byte bytes rest rest' same found is next = cc

pub append-after : (prefix bytes rest : List ℕ) → after prefix bytes ≡ Some rest → bytes ≡ prefix ++ rest
unfolding after
append-after [] bytes rest found = cc
append-after (c ∷ prefix) [] rest found = cc
append-after (c ∷ prefix) (byte ∷ bytes) rest found = more (nat_eq byte c) c byte bytes rest (prefix ++ rest) refl (after prefix bytes) found (append-after prefix bytes rest)

-- `after` by the test of std's `strip_prefix`
after_by_test : (prefix bytes : List ℕ) → after prefix bytes ≡ cond (pointwise nat_eq (take (length prefix) bytes) prefix) (Some (drop (length prefix) bytes)) None
unfolding after
after_by_test [] bytes = refl
after_by_test (c ∷ prefix) [] = refl
after_by_test (c ∷ prefix) (byte ∷ bytes) =
    elim (nat_eq byte c) as (λ k. cond k (after prefix bytes) None ≡ cond (k && pointwise nat_eq (take (length prefix) bytes) prefix) (Some (drop (length prefix) bytes)) None) [ true ↦ after_by_test prefix bytes | false ↦ refl ]

pub after_from_strip_prefix : (prefix bytes : List ℕ) (r : Option (Bor (List ℕ))) → MatchOption r (pointwise nat_eq (take (length prefix) bytes) prefix ≡ false) (λ x. (pointwise nat_eq (take (length prefix) bytes) prefix ≡ true) × (x.now ≡ drop (length prefix) bytes) × (length x.now + length prefix ≡ length bytes)) → option_copied r ≡ after prefix bytes
after_from_strip_prefix prefix bytes None h = rw (after_by_test prefix bytes, h) refl
after_from_strip_prefix prefix bytes (Some x) h = rw (after_by_test prefix bytes, h.0) (ap Some h.1)
