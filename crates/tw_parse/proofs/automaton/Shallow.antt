-- No more brackets are open in some tokens than a limit.
use Rattle.std.proofs.Common.{◌≡◌, ℕ, ◌+◌, ◌-◌, ◌≤◌, if◌then◌else◌, List, [], ◌∷◌, ◌++◌, subst, Bool, arith}
use Rattle.tw_lex.specs.Tokens.{Lexeme, Lexed}
use Rattle.tw_parse.specs.Prefixes.{announces, opens, closes, open_brackets}

-- at each place of the tokens, where so many are open before them
abbrev pub Shallow : ℕ → ℕ → Bool → List Lexed → Type 0
Shallow limit n announced toks = (prefix suffix : List Lexed) → toks ≡ prefix ++ suffix → open_brackets n announced prefix ≤ limit

-- how many are open after a word
abbrev pub count_of : ℕ → Bool → Lexeme → ℕ
count_of n announced w = if opens announced w then n + 1 else (if closes w then n - 1 else n)

pub shallow_none : (limit n : ℕ) (announced : Bool) → n ≤ limit → Shallow limit n announced []
shallow_none limit n announced h [] suffix e = h
shallow_none limit n announced h (t ∷ prefix) suffix e = absurd (grind arith)

pub shallow_then : (limit n : ℕ) (announced : Bool) (t : Lexed) (ts : List Lexed) → n ≤ limit → Shallow limit (count_of n announced t.lexeme) (announces t.lexeme) ts
    → Shallow limit n announced (t ∷ ts)
shallow_then limit n announced t ts h after [] suffix e = h
shallow_then limit n announced t ts h after (u ∷ prefix) suffix e =
    let same : t ≡ u = cc in
    let rest : ts ≡ prefix ++ suffix = cc in
    subst (λ x. open_brackets (count_of n announced x.lexeme) (announces x.lexeme) prefix ≤ limit) same (after prefix suffix rest)
