-- What a reader says of the tokens that it took, where it does not end early.
use Rattle.std.proofs.Common.{◌≡◌, refl, subst, ℕ, zero, suc, ◌<◌, List, [], ◌∷◌, length, Bool, true, false, if◌then◌else◌, Result, Ok, Err}
use Rattle.tw_text.specs.declared.place.Pos.{Pos}
use Rattle.tw_parse.specs.declared.error.Rejection.{Rejection}
use Rattle.tw_lex.specs.Tokens.{Lexeme, Lexed}
use Rattle.tw_parse.specs.reading.Steps.{Reader, ◌>>=◌, many_at, place_at}

-- what is given where nothing ends early
pub record Says {X : Type 0} (P : X → Type 0) (r : Result X Rejection) : Type 0 where
  pub holds : (x : X) → r ≡ Ok x → P x

ok_is : {X : Type 0} (x y : X) → (let r : Result X Rejection = Ok x in r) ≡ Ok y → x ≡ y
ok_is x y e = cc

pub says_ok : {X : Type 0} {P : X → Type 0} {x : X} → P x → Says P (Ok x)
says_ok {P = P} {x = x} h = record { holds = λ y e. subst P (ok_is x y e) h }

pub says_err : {X : Type 0} {P : X → Type 0} {h : Rejection} → Says P (Err h)
says_err = record { holds = λ y e. absurd (cc) }

pub says : {X Y : Type 0} {P : X → Type 0} {Q : Y → Type 0} {r : Result X Rejection} {k : X → Result Y Rejection}
    → Says P r → ((x : X) → P x → Says Q (k x)) → Says Q (r >>= k)
says {r = Ok x} h f = f x (h.holds x refl)
says {r = Err e} h f = says_err

pub says_as : {X : Type 0} {P Q : X → Type 0} {r : Result X Rejection} → Says P r → ((x : X) → P x → Q x) → Says Q r
says_as h f = record { holds = λ x e. f x (h.holds x e) }

pub says_either : {X : Type 0} {P : X → Type 0} (b : Bool) {r s : Result X Rejection} → Says P r → Says P s → Says P (if b then r else s)
says_either true h i = h
says_either false h i = i

-- a form of the grammar with what was read
pub record Got {C X : Type 0} (text : C → List Lexed → List Lexed) (tree : C → X) (ts : List Lexed) (x : X × List Lexed) : Type 0 where
  pub form : C
  pub spelled : ts ≡ text form x.1
  pub value : x.0 ≡ tree form

-- a reader of forms
abbrev pub Spells : {C X : Type 0} → (C → List Lexed → List Lexed) → (C → X) → Reader X → Type 0
Spells text tree read = (ts : List Lexed) → Says (Got text tree ts) (read ts)

-- what is read takes a token at least
pub record Shorter {X : Type 0} (ts : List Lexed) (x : X × List Lexed) : Type 0 where
  pub less : length x.1 < length ts

pub says_shorter : {C X : Type 0} {text : C → List Lexed → List Lexed} {tree : C → X} {ts : List Lexed} {r : Result (X × List Lexed) Rejection}
    → ((c : C) (k : List Lexed) → length k < length (text c k)) → Says (Got text tree ts) r → Says (Shorter ts) r
says_shorter grows h = says_as h (λ x c. record { less = rw c.spelled (grows c.form x.1) })

-- a list of what is read
pub says_many : {X : Type 0} (goes : List Lexed → Bool) (item : Reader X) (P : List Lexed → X × List Lexed → Type 0) (Q : List Lexed → List X × List Lexed → Type 0)
    → ((ts : List Lexed) → Q ts ([], ts)) → ((ts : List Lexed) (x : X × List Lexed) (xs : List X × List Lexed) → P ts x → Q x.1 xs → Q ts (x.0 ∷ xs.0, xs.1))
    → ((ts : List Lexed) → Says (P ts) (item ts)) → (n : ℕ) (ts : List Lexed) → Says (Q ts) (many_at goes item n ts)
unfolding many_at
says_many goes item P Q none more one zero ts = says_ok (none ts)
says_many goes item P Q none more one (suc n) ts =
    says_either (goes ts) (says (one ts) (λ x p. says (says_many goes item P Q none more one n x.1) (λ xs q. says_ok (more ts x xs p q)))) (says_ok (none ts))

-- the first token
pub record Leads (ts : List Lexed) (at : Pos) : Type 0 where
  pub lexeme : Lexeme
  pub rest : List Lexed
  pub same : ts ≡ (record { lexeme = lexeme; at = at }) ∷ rest

pub says_place : (ts : List Lexed) → Says (Leads ts) (place_at ts)
says_place [] = says_err
says_place (t ∷ ts) = says_ok (record { lexeme = t.lexeme; rest = ts; same = refl })

abbrev pub first_at : Pos → List Lexed → Pos
first_at other [] = other
first_at other (t ∷ ts) = t.at
