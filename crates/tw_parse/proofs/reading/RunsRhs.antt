-- The automaton follows the readers of bounds, calls and right sides.
use Rattle.std.proofs.Common.{refl, ℕ, zero, suc, List, [], ◌∷◌, if◌then◌else◌, Ok}
use Rattle.std.proofs.Math.Dec.{eqb-suc-zero}
use Rattle.tw_text.specs.declared.place.Pos.{Pos}
use Rattle.tw_syntax.specs.Names.{NameTree}
use Rattle.tw_syntax.specs.Terms.{BoundTree, SameBound, LessBound}
use Rattle.tw_lex.specs.declared.symbol.Symbol.TheVariants as symbols
use Rattle.tw_lex.specs.Tokens.{Lexeme, Name, Number, Sign, Lexed}
use Rattle.tw_parse.specs.reading.Steps.{Reader, ◌>>=◌, leads, all_at, take_symbol, take_bound_number}
use Rattle.tw_parse.specs.reading.Terms.{type_at, named_bound_at, bound_at, call_bound_at, comma_name_at, names_at, args_at, call_at, alloc_at, rhs_at, expr_at, op_expr_at}
use Rattle.tw_parse.proofs.automaton.Transitions.{Expected, TheMark, Rhs', AfterName', Bound', BoundTail', CallArgs', Args', MoreArgs', run}
use Rattle.tw_parse.proofs.tokens.Words.{tok}
use Rattle.tw_parse.proofs.reading.Runs.{follow, Runs, Reads, ReadsAt, bind, done}
use Rattle.tw_parse.proofs.reading.RunsTypes.{runs_mark, runs_name, runs_angle, inside_type}
use Rattle.tw_parse.proofs.reading.RunsLists.{Turn, runs_all}
use Rattle.tw_parse.proofs.reading.RunsPaths.{runs_small}
use Rattle.tw_parse.proofs.reading.RunsExprs.{runs_expr}
use Rattle.tw_parse.proofs.reading.SaysRhs.{comma_name_shorter}

-- what stands after the name of a bound
abbrev bound_tail : NameTree → Reader BoundTree
bound_tail name ts =
    if leads symbols.Minus ts then (take_symbol symbols.Minus ts >>= λ minus. take_bound_number minus.1 >>= λ number. Ok (LessBound name number.0, number.1)) else Ok (SameBound name, ts)

runs_bound_tail_at : (room : ℕ) (name : NameTree) (w : Lexeme) → ReadsAt BoundTail' (bound_tail name) room w
unfolding follow
runs_bound_tail_at room name (Sign symbols.Minus) p ts st = bind (runs_small room ts st) (λ number. done)
runs_bound_tail_at room name w p ts st = record { same = refl }

runs_bound_tail : (room : ℕ) (name : NameTree) → Reads BoundTail' (bound_tail name) room
unfolding follow
runs_bound_tail room name [] st = record { same = refl }
runs_bound_tail room name (t ∷ ts) st = runs_bound_tail_at room name t.lexeme t.at ts st

runs_bound_at : (room : ℕ) (w : Lexeme) → ReadsAt Bound' bound_at room w
unfolding bound_at named_bound_at follow
runs_bound_at room (Number value) p ts st = bind (runs_small room (tok (Number value) p ∷ ts) st) (λ number. done)
runs_bound_at room (Name text) p ts st = runs_bound_tail room (record { text = text; at = p }) ts st
runs_bound_at room w p ts st = record { same = refl }

runs_bound : (room : ℕ) → Reads Bound' bound_at room
unfolding bound_at named_bound_at follow
runs_bound room [] st = record { same = refl }
runs_bound room (t ∷ ts) st = runs_bound_at room t.lexeme t.at ts st

names_turn : (room : ℕ) (st : List Expected) (ts : List Lexed) → Turn comma_name_at room (MoreArgs' ∷ st) (TheMark symbols.CloseParen refl ∷ st) (leads symbols.Comma ts) ts
unfolding comma_name_at
names_turn room st [] = refl
names_turn room st (t ∷ ts) = go t.lexeme
  where
    go : (w : Lexeme) → Turn comma_name_at room (MoreArgs' ∷ st) (TheMark symbols.CloseParen refl ∷ st) (leads symbols.Comma (tok w t.at ∷ ts)) (tok w t.at ∷ ts)
    go (Sign symbols.Comma) = runs_name room ts (MoreArgs' ∷ st)
    go w = refl

runs_more_names : (room : ℕ) (ts : List Lexed) (st : List Expected)
    → Runs (run ts room (MoreArgs' ∷ st)) (all_at (leads symbols.Comma) comma_name_at ts) room (TheMark symbols.CloseParen refl ∷ st)
runs_more_names room ts st =
    runs_all (leads symbols.Comma) comma_name_at room (MoreArgs' ∷ st) (TheMark symbols.CloseParen refl ∷ st) refl (names_turn room st) comma_name_shorter ts

runs_names_at : (room : ℕ) (w : Lexeme) (p : Pos) (ts : List Lexed) (st : List Expected)
    → Runs (run (tok w p ∷ ts) room (Args' ∷ st)) (names_at (tok w p ∷ ts)) room (TheMark symbols.CloseParen refl ∷ st)
unfolding names_at follow
runs_names_at room (Name text) p ts st = bind (runs_more_names room ts st) (λ more. done)
runs_names_at room (Sign symbols.CloseParen) p ts st = record { same = refl }
runs_names_at room w p ts st = record { same = refl }

runs_names : (room : ℕ) (ts : List Lexed) (st : List Expected) → Runs (run ts room (Args' ∷ st)) (names_at ts) room (TheMark symbols.CloseParen refl ∷ st)
unfolding names_at follow
runs_names room [] st = record { same = refl }
runs_names room (t ∷ ts) st = runs_names_at room t.lexeme t.at ts st

runs_args_at : (room : ℕ) (w : Lexeme) → ReadsAt CallArgs' (args_at room) room w
unfolding args_at follow
runs_args_at zero (Sign symbols.OpenParen) p ts st = record { same = refl }
runs_args_at (suc room) (Sign symbols.OpenParen) p ts st =
    rw (eqb-suc-zero room) (bind (runs_names room ts st) (λ names. bind (runs_mark symbols.CloseParen refl room names.1 st) (λ close. done)))
runs_args_at room w p ts st = record { same = refl }

runs_args : (room : ℕ) → Reads CallArgs' (args_at room) room
unfolding args_at follow
runs_args room [] st = record { same = refl }
runs_args room (t ∷ ts) st = runs_args_at room t.lexeme t.at ts st

-- what stands after the name that a right side begins with
runs_after_name : (room : ℕ) (text : List ℕ) (p : Pos) (w : Lexeme) (q : Pos) (ts : List Lexed) (st : List Expected)
    → Runs (run (tok w q ∷ ts) room (AfterName' ∷ st)) (rhs_at room (tok (Name text) p ∷ tok w q ∷ ts)) room st
unfolding rhs_at call_at call_bound_at
runs_after_name room text p (Sign symbols.OpenBracket) q ts st =
    bind (bind (runs_bound room ts _) (λ bound. bind (runs_mark symbols.CloseBracket refl room bound.1 _) (λ close. done))) (λ bound.
    bind (runs_args room bound.1 st) (λ args. done))
runs_after_name room text p (Sign symbols.OpenParen) q ts st = bind (runs_args room (tok (Sign symbols.OpenParen) q ∷ ts) st) (λ args. done)
runs_after_name room text p w q ts st = bind (runs_expr room (tok (Name text) p ∷ tok w q ∷ ts) st) (λ expr. done)

runs_rhs_name : (room : ℕ) (text : List ℕ) (p : Pos) (ts : List Lexed) (st : List Expected)
    → Runs (run ts room (AfterName' ∷ st)) (rhs_at room (tok (Name text) p ∷ ts)) room st
unfolding rhs_at
runs_rhs_name room text p [] st = bind (runs_expr room (tok (Name text) p ∷ []) st) (λ expr. done)
runs_rhs_name room text p (t ∷ ts) st = runs_after_name room text p t.lexeme t.at ts st

runs_rhs_at : (room : ℕ) (w : Lexeme) → ReadsAt Rhs' (rhs_at room) room w
unfolding rhs_at alloc_at
runs_rhs_at room (Sign symbols.Alloc) p ts st = bind (runs_angle (type_at room) room (inside_type room) ts st) (λ of. done)
runs_rhs_at room (Name text) p ts st = runs_rhs_name room text p ts st
runs_rhs_at room w p ts st = bind (runs_expr room (tok w p ∷ ts) st) (λ expr. done)

pub runs_rhs : (room : ℕ) → Reads Rhs' (rhs_at room) room
unfolding rhs_at expr_at op_expr_at follow
runs_rhs room [] st = record { same = refl }
runs_rhs room (t ∷ ts) st = runs_rhs_at room t.lexeme t.at ts st
