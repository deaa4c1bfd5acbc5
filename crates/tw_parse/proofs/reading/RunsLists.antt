-- The automaton follows a reader of lists.
use Rattle.std.proofs.Common.{◌≡◌, refl, ℕ, zero, suc, ◌<◌, ◌≤◌, le_refl, List, [], ◌∷◌, length, ◌∙◌, Bool, true, false, if◌then◌else◌, Result, Ok, Err, arith}
use Rattle.tw_parse.specs.declared.error.Rejection.{Rejection}
use Rattle.tw_lex.specs.Tokens.{Lexed}
use Rattle.tw_parse.specs.reading.Steps.{Reader, ◌>>=◌, many_at, all_at}
use Rattle.tw_parse.proofs.automaton.Transitions.{Expected, Outcome, run}
use Rattle.tw_parse.proofs.reading.Runs.{follow, Runs, bind, done}
use Rattle.tw_parse.proofs.reading.Says.{Says, Shorter}

-- one turn of a list: an item and the same list again, or its end
abbrev pub Turn : {X : Type 0} → Reader X → ℕ → List Expected → List Expected → Bool → List Lexed → Type 0
Turn item room from mid true ts = Runs (run ts room from) (item ts) room from
Turn item room from mid false ts = run ts room from ≡ run ts room mid

-- one reader that takes a token at least, then another
bind_short : {X Y : Type 0} {r : Result (X × List Lexed) Rejection} {k : X × List Lexed → Result (Y × List Lexed) Rejection} {room left : ℕ} {mid st : List Expected} {o : Outcome} {ts : List Lexed}
    → Runs o r room mid → Says (Shorter ts) r → ((x : X × List Lexed) → length x.1 < length ts → Runs (run x.1 room mid) (k x) left st) → Runs o (r >>= k) left st
unfolding follow
bind_short {r = Ok x} e s h = record { same = e.same ∙ (h x (s.holds x refl).less).same }
bind_short {r = Err h} e s _ = record { same = e.same }

runs_many : {X : Type 0} (goes : List Lexed → Bool) (item : Reader X) (room : ℕ) (from mid : List Expected) → run [] room from ≡ run [] room mid
    → ((ts : List Lexed) → Turn item room from mid (goes ts) ts) → ((ts : List Lexed) → Says (Shorter ts) (item ts))
    → (n : ℕ) (ts : List Lexed) → length ts ≤ n → Runs (run ts room from) (many_at goes item n ts) room mid
unfolding many_at follow
runs_many goes item room from mid end turn short zero [] le = record { same = end }
runs_many goes item room from mid end turn short zero (t ∷ ts) le = absurd (omega arith)
runs_many {X = X} goes item room from mid end turn short (suc n) ts le =
    go (goes ts) (turn ts) (λ us less. runs_many goes item room from mid end turn short n us (omega arith))
  where
    go : (goes_on : Bool) → Turn item room from mid goes_on ts → ((us : List Lexed) → length us < length ts → Runs (run us room from) (many_at goes item n us) room mid)
        → Runs (run ts room from) (if goes_on then (item ts >>= λ first. many_at goes item n first.1 >>= λ rest. Ok (first.0 ∷ rest.0, rest.1)) else Ok ([], ts)) room mid
    go true h again = bind_short h (short ts) (λ first less. bind (again first.1 less) (λ rest. done))
    go false h again = record { same = h }

pub runs_all : {X : Type 0} (goes : List Lexed → Bool) (item : Reader X) (room : ℕ) (from mid : List Expected) → run [] room from ≡ run [] room mid
    → ((ts : List Lexed) → Turn item room from mid (goes ts) ts) → ((ts : List Lexed) → Says (Shorter ts) (item ts))
    → (ts : List Lexed) → Runs (run ts room from) (all_at goes item ts) room mid
runs_all goes item room from mid end turn short ts = runs_many goes item room from mid end turn short (length ts) ts (le_refl (length ts))
