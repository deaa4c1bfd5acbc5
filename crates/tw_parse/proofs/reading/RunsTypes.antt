-- The automaton follows the readers of single tokens and of types.
use Rattle.std.proofs.Common.{◌≡◌, refl, ℕ, zero, suc, List, [], ◌∷◌, length, Bool, true, false, if◌then◌else◌, Ok, Err}
use Rattle.std.proofs.Math.Dec.{eqb-suc-zero}
use Rattle.tw_text.specs.declared.place.Pos.{Pos}
use Rattle.tw_lex.specs.declared.symbol.Symbol.{Symbol}
use Rattle.tw_lex.specs.declared.symbol.Symbol.TheVariants as symbols
use Rattle.tw_lex.specs.Tokens.{Lexeme, Name, Sign, Lexed}
use Rattle.tw_parse.specs.reading.Steps.{Reader, ◌>>=◌, is_symbol, leads, take_symbol, take_name}
use Rattle.tw_parse.specs.Prefixes.{closes}
use Rattle.tw_parse.specs.declared.error.Rejection.TheVariants.{Syntax}
use Rattle.tw_syntax.specs.Types.{WrittenTree, UnitType}
use Rattle.tw_parse.specs.reading.Terms.{type_argument_with, ptr_with, pair_with, paren_with, plain_type_at, type_with, type_at}
use Rattle.tw_parse.proofs.automaton.Transitions.{Expected, TheMark, Name', Type', Angled', Paren', when, taken_mark, settled, move, stands_alone, went, run}
use Rattle.tw_parse.proofs.tokens.Words.{tok}
use Rattle.tw_parse.proofs.reading.Runs.{follow, Runs, Reads, ReadsAt, bind, done, shut, Inside}

pub runs_name : (room : ℕ) → Reads Name' take_name room
unfolding follow
runs_name room [] st = record { same = refl }
runs_name room (t ∷ ts) st = go t.lexeme
  where
    go : (w : Lexeme) → Runs (run (tok w t.at ∷ ts) room (Name' ∷ st)) (take_name (tok w t.at ∷ ts)) room st
    go (Name text) = record { same = refl }
    go w = record { same = refl }

pub runs_mark : (mark : Symbol) (alone : stands_alone mark ≡ true) (room : ℕ) (ts : List Lexed) (st : List Expected)
    → Runs (run ts room (TheMark mark alone ∷ st)) (take_symbol mark ts) (shut (closes (Sign mark)) room) st
unfolding follow
runs_mark mark alone room [] st = record { same = refl }
runs_mark mark alone room (t ∷ ts) st = record { same = go (is_symbol mark t.lexeme) (closes (Sign mark)) }
  where
    go : (is closing : Bool)
        → went (settled (when is (taken_mark closing st)) (move t.lexeme st)) room (run ts) (suc (length ts)) ≡ follow (if is then Ok (t.at, ts) else Err (Syntax (suc (length ts)))) (shut closing room) st
    go true true = refl
    go true false = refl
    go false closing = refl

runs_angle_at : (inner : Reader WrittenTree) (room : ℕ) → Inside Type' inner room
    → (w : Lexeme) → ReadsAt Angled' (type_argument_with inner room) room w
unfolding type_argument_with follow
runs_angle_at inner zero inside (Sign symbols.Less) p ts st = record { same = refl }
runs_angle_at inner (suc room) inside (Sign symbols.Less) p ts st =
    rw (eqb-suc-zero room) (bind (inside ts _) (λ to. bind (runs_mark symbols.Greater refl room to.1 _) (λ more. done)))
runs_angle_at inner room inside w p ts st = record { same = refl }

pub runs_angle : (inner : Reader WrittenTree) (room : ℕ) → Inside Type' inner room → Reads Angled' (type_argument_with inner room) room
unfolding type_argument_with follow
runs_angle inner room inside [] st = record { same = refl }
runs_angle inner room inside (t ∷ ts) st = runs_angle_at inner room inside t.lexeme t.at ts st

-- what stands after the "(" of a type
abbrev paren_type : Reader WrittenTree → Pos → Reader WrittenTree
paren_type inner at ts = if leads symbols.CloseParen ts then (take_symbol symbols.CloseParen ts >>= λ close. Ok (UnitType at, close.1)) else pair_with inner at ts

runs_pair : (inner : Reader WrittenTree) (room : ℕ) → Reads Type' inner room → (at : Pos) (ts : List Lexed) (st : List Expected)
    → Runs (run ts room (Type' ∷ TheMark symbols.Comma refl ∷ Type' ∷ TheMark symbols.CloseParen refl ∷ st)) (pair_with inner at ts) (suc room) st
unfolding pair_with
runs_pair inner room reads at ts st =
    bind (reads ts _) (λ first. bind (runs_mark symbols.Comma refl room first.1 _) (λ comma.
    bind (reads comma.1 _) (λ second. bind (runs_mark symbols.CloseParen refl room second.1 _) (λ close. done))))

runs_paren_at : (inner : Reader WrittenTree) (room : ℕ) → Reads Type' inner room → (at : Pos) (w : Lexeme) (p : Pos) (ts : List Lexed) (st : List Expected)
    → Runs (run (tok w p ∷ ts) room (Paren' ∷ st)) (paren_type inner at (tok w p ∷ ts)) (suc room) st
runs_paren_at inner room reads at (Sign symbols.CloseParen) p ts st = done
runs_paren_at inner room reads at w p ts st = runs_pair inner room reads at (tok w p ∷ ts) st

runs_paren : (inner : Reader WrittenTree) (room : ℕ) → Reads Type' inner room → (at : Pos) (ts : List Lexed) (st : List Expected)
    → Runs (run ts room (Paren' ∷ st)) (paren_type inner at ts) (suc room) st
runs_paren inner room reads at [] st = runs_pair inner room reads at [] st
runs_paren inner room reads at (t ∷ ts) st = runs_paren_at inner room reads at t.lexeme t.at ts st

runs_type_at : (inner : Reader WrittenTree) (room : ℕ) → Inside Type' inner room
    → (w : Lexeme) → ReadsAt Type' (type_with inner room) room w
unfolding type_with ptr_with paren_with plain_type_at follow
runs_type_at inner room inside (Sign symbols.Ptr) p ts st = bind (runs_angle inner room inside ts st) (λ to. done)
runs_type_at inner zero inside (Sign symbols.OpenParen) p ts st = record { same = refl }
runs_type_at inner (suc room) inside (Sign symbols.OpenParen) p ts st = rw (eqb-suc-zero room) (runs_paren inner room inside p ts st)
runs_type_at inner room inside w p ts st = record { same = refl }

runs_type_with : (inner : Reader WrittenTree) (room : ℕ) → Inside Type' inner room → Reads Type' (type_with inner room) room
unfolding type_with plain_type_at follow
runs_type_with inner room inside [] st = record { same = refl }
runs_type_with inner room inside (t ∷ ts) st = runs_type_at inner room inside t.lexeme t.at ts st

pub runs_type : (room : ℕ) → Reads Type' (type_at (suc room)) room
unfolding type_at
runs_type zero ts st = runs_type_with (type_at zero) zero tt ts st
runs_type (suc room) ts st = runs_type_with (type_at (suc room)) (suc room) (runs_type room) ts st

pub inside_type : (room : ℕ) → Inside Type' (type_at room) room
inside_type zero = tt
inside_type (suc room) = runs_type room
