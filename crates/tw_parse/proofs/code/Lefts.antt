-- The tokens that are left, one at a time.
use Rattle.std.proofs.Common.{◌≡◌, ◌∙◌, ap, ℕ, zero, suc, ◌+◌, List, [], ◌∷◌, drop, refl, arith}
use Rattle.tw_lex.specs.Tokens.{Lexed}
use Rattle.tw_lex.specs.Cursors.{after_first}

after_first-next : (n : ℕ) (ts : List Lexed) → after_first (drop n ts) ≡ drop (suc n) ts
after_first-next zero [] = refl
after_first-next zero (t ∷ ts) = refl
after_first-next (suc n) [] = refl
after_first-next (suc n) (t ∷ ts) = after_first-next n ts

pub after_first-drop : (n : ℕ) (ts : List Lexed) → after_first (drop n ts) ≡ drop (n + 1) ts
after_first-drop n ts = let next : suc n ≡ n + 1 = omega arith in after_first-next n ts ∙ ap (λ k. drop k ts) next
