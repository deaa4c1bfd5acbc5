-- Reading items one after the other, as a loop does.
use Rattle.std.proofs.Common.{◌≡◌, ℕ, zero, suc, ◌-◌, ◌+◌, ◌≤◌, ◌<◌, Bool, true, false, List, [], ◌∷◌, ◌++◌, length, Result, Ok, Err, refl, sym, ap, ◌∙◌, append_assoc, arith}
use Rattle.std.proofs.lemmas.List.{append-nil}
use Rattle.tw_parse.specs.declared.error.Rejection.{Rejection}
use Rattle.tw_parse.specs.declared.error.ParseError.{ParseError}
use Rattle.tw_parse.specs.declared.error.ParseError.TheVariants as error
use Rattle.tw_lex.specs.Tokens.{Lexed}
use Rattle.tw_parse.specs.reading.Steps.{Reader, ◌>>=◌, Fails, many_at, all_at, put_first}

-- what was read before, and what is still read
abbrev pub with_prefix : {X : Type 0} → List X → Result (List X × List Lexed) Rejection → Result (List X × List Lexed) Rejection
with_prefix prefix read = read >>= λ x. Ok (prefix ++ x.0, x.1)

-- these items were read, and at most so many more from these tokens make up the whole
pub record Reads {X : Type 0} (goes : List Lexed → Bool) (item : Reader X) (prefix : List X) (left : ℕ) (ts : List Lexed) (whole : Result (List X × List Lexed) Rejection) : Type 0 where
  pub same : with_prefix prefix (many_at goes item left ts) ≡ whole

regroup : {X : Type 0} (prefix : List X) (x : X) (read : Result (List X × List Lexed) Rejection) → with_prefix prefix (read >>= λ y. Ok (x ∷ y.0, y.1)) ≡ with_prefix (prefix ++ x ∷ []) read
regroup {X} prefix x (Ok y) = ap (λ (xs : List X). Ok (xs, y.1)) (simp append_assoc)
regroup prefix x (Err e) = refl

prefix_none : {X : Type 0} (read : Result (List X × List Lexed) Rejection) → with_prefix [] read ≡ read
prefix_none (Ok x) = refl
prefix_none (Err e) = refl

pub starts : {X : Type 0} {goes : List Lexed → Bool} {item : Reader X} (count : ℕ) (ts : List Lexed) → count ≡ length ts → Reads goes item [] (count - 0) ts (all_at goes item ts)
starts {goes = goes} {item = item} count ts e =
    let k : count - 0 ≡ length ts = omega (arith, e) in
    record { same = rw k (prefix_none (all_at goes item ts)) }

pub starts_with : {X : Type 0} {goes : List Lexed → Bool} {item : Reader X} (x : X) (count : ℕ) (ts : List Lexed) → count ≡ length ts → Reads goes item (x ∷ []) (count - 0) ts (put_first x (all_at goes item ts))
starts_with {goes = goes} {item = item} x count ts e =
    let k : count - 0 ≡ length ts = omega (arith, e) in
    record { same = rw k refl }

pub goes_on : {X : Type 0} {goes : List Lexed → Bool} {item : Reader X} {prefix : List X} {count i : ℕ} {ts us : List Lexed} {x : X} {whole : Result (List X × List Lexed) Rejection}
    → Reads goes item prefix (count - i) ts whole → i < count → goes ts ≡ true → item ts ≡ Ok (x, us) → Reads goes item (prefix ++ x ∷ []) (count - (i + 1)) us whole
unfolding many_at
goes_on {goes = goes} {item = item} {prefix = prefix} {count = count} {i = i} {ts = ts} {us = us} {x = x} so_far lt going h =
    let k : count - i ≡ suc (count - (i + 1)) = omega arith in
    let one : with_prefix prefix (many_at goes item (count - i) ts) ≡ with_prefix (prefix ++ x ∷ []) (many_at goes item (count - (i + 1)) us) =
    rw (k, going, h) (regroup prefix x (many_at goes item (count - (i + 1)) us)) in
    record { same = sym one ∙ so_far.same }

pub fails : {X : Type 0} {goes : List Lexed → Bool} {item : Reader X} {prefix : List X} {count i : ℕ} {ts : List Lexed} {whole : Result (List X × List Lexed) Rejection}
    (e : ParseError) → Reads goes item prefix (count - i) ts whole → i < count → goes ts ≡ true → Fails e (item ts) → Fails e whole
unfolding many_at
fails error.Memory so_far lt going h = tt
fails {goes = goes} {item = item} {prefix = prefix} {count = count} {i = i} {ts = ts} (error.Rejection rejection) so_far lt going h =
    let k : count - i ≡ suc (count - (i + 1)) = omega arith in
    let one : with_prefix prefix (many_at goes item (count - i) ts) ≡ Err rejection = rw (k, going, h) refl in
    sym so_far.same ∙ one

-- what fails at its first step fails
pub fails_first : {A B : Type 0} (e : ParseError) (read : Result A Rejection) (next : A → Result B Rejection) → Fails e read → Fails e (read >>= next)
fails_first error.Memory read next h = tt
fails_first (error.Rejection rejection) read next h = rw h refl

many_none : {X : Type 0} (goes : List Lexed → Bool) (item : Reader X) (n : ℕ) (ts : List Lexed) → goes ts ≡ false → many_at goes item n ts ≡ Ok ([], ts)
unfolding many_at
many_none goes item zero ts h = refl
many_none goes item (suc n) ts h = rw h refl

pub stops : {X : Type 0} {goes : List Lexed → Bool} {item : Reader X} {prefix : List X} {left : ℕ} {ts : List Lexed} {whole : Result (List X × List Lexed) Rejection}
    → Reads goes item prefix left ts whole → goes ts ≡ false → whole ≡ Ok (prefix, ts)
stops {X} {goes = goes} {item = item} {prefix = prefix} {left = left} {ts = ts} so_far h =
    sym so_far.same ∙ rw (many_none goes item left ts h) (ap (λ (xs : List X). Ok (xs, ts)) (append-nil prefix))

pub is_done : {X : Type 0} {goes : List Lexed → Bool} {item : Reader X} {prefix : List X} {count i : ℕ} {ts : List Lexed} {whole : Result (List X × List Lexed) Rejection}
    → Reads goes item prefix (count - i) ts whole → count ≤ i → whole ≡ Ok (prefix, ts)
unfolding many_at
is_done {X} {goes = goes} {item = item} {prefix = prefix} {count = count} {i = i} {ts = ts} so_far le =
    let k : count - i ≡ 0 = omega arith in
    let one : with_prefix prefix (many_at goes item (count - i) ts) ≡ Ok (prefix, ts) = rw k (ap (λ (xs : List X). Ok (xs, ts)) (append-nil prefix)) in
    sym so_far.same ∙ one
