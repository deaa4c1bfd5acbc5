-- The automaton follows the readers of expressions.
use Rattle.std.proofs.Common.{refl, ℕ, zero, suc, List, [], ◌∷◌, if◌then◌else◌}
use Rattle.std.proofs.Math.Dec.{eqb-suc-zero}
use Rattle.tw_text.specs.declared.place.Pos.{Pos}
use Rattle.tw_syntax.specs.Terms.{AtomTree, UnitAtom, ExprTree}
use Rattle.tw_lex.specs.declared.symbol.Symbol.TheVariants as symbols
use Rattle.tw_lex.specs.Tokens.{Lexeme, Sign, Lexed}
use Rattle.tw_parse.specs.reading.Steps.{Reader, ◌>>=◌, leads, take_symbol}
use Rattle.tw_parse.specs.reading.Terms.{op_at, not_at, two_at, paren_expr_at, op_expr_at, expr_at}
use Rattle.tw_parse.proofs.automaton.Transitions.{Expected, TheMark, Atom', Expr', ExprParen', OpTail', run}
use Rattle.tw_parse.proofs.tokens.Words.{tok}
use Rattle.tw_parse.proofs.reading.Runs.{follow, Runs, Reads, ReadsAt, bind, done}
use Rattle.tw_parse.proofs.reading.RunsTypes.{runs_mark}
use Rattle.tw_parse.proofs.reading.RunsPaths.{runs_atom}

runs_op_at : (at : Pos) (left : AtomTree) (room : ℕ) (w : Lexeme) → ReadsAt OpTail' (op_at at left room) room w
unfolding op_at follow
runs_op_at at left room (Sign symbols.Plus) p ts st = bind (runs_atom room ts st) (λ right. done)
runs_op_at at left room (Sign symbols.Minus) p ts st = bind (runs_atom room ts st) (λ right. done)
runs_op_at at left room (Sign symbols.Star) p ts st = bind (runs_atom room ts st) (λ right. done)
runs_op_at at left room (Sign symbols.Less) p ts st = bind (runs_atom room ts st) (λ right. done)
runs_op_at at left room (Sign symbols.Equal) p ts st = bind (runs_atom room ts st) (λ right. done)
runs_op_at at left room (Sign symbols.NotEqual) p ts st = bind (runs_atom room ts st) (λ right. done)
runs_op_at at left room (Sign symbols.And) p ts st = bind (runs_atom room ts st) (λ right. done)
runs_op_at at left room (Sign symbols.Or) p ts st = bind (runs_atom room ts st) (λ right. done)
runs_op_at at left room w p ts st = record { same = refl }

runs_op : (at : Pos) (left : AtomTree) (room : ℕ) → Reads OpTail' (op_at at left room) room
unfolding op_at follow
runs_op at left room [] st = record { same = refl }
runs_op at left room (t ∷ ts) st = runs_op_at at left room t.lexeme t.at ts st

runs_two : (room : ℕ) (at : Pos) (ts : List Lexed) (st : List Expected)
    → Runs (run ts room (Atom' ∷ TheMark symbols.Comma refl ∷ Atom' ∷ TheMark symbols.CloseParen refl ∷ st)) (two_at at (suc room) ts) (suc room) st
unfolding two_at
runs_two room at ts st =
    bind (runs_atom room ts _) (λ first. bind (runs_mark symbols.Comma refl room first.1 _) (λ comma.
    bind (runs_atom room comma.1 _) (λ second. bind (runs_mark symbols.CloseParen refl room second.1 _) (λ close. done))))

-- what stands after the "(" of an expression
abbrev paren_expr : Pos → ℕ → Reader ExprTree
paren_expr at room ts = if leads symbols.CloseParen ts then (take_symbol symbols.CloseParen ts >>= λ close. op_at at (UnitAtom at) (suc room) close.1) else two_at at (suc room) ts

runs_paren_expr_at : (room : ℕ) (at : Pos) (w : Lexeme) (p : Pos) (ts : List Lexed) (st : List Expected)
    → Runs (run (tok w p ∷ ts) room (ExprParen' ∷ st)) (paren_expr at room (tok w p ∷ ts)) (suc room) st
runs_paren_expr_at room at (Sign symbols.CloseParen) p ts st = runs_op at (UnitAtom at) (suc room) ts st
runs_paren_expr_at room at w p ts st = runs_two room at (tok w p ∷ ts) st

runs_paren_expr : (room : ℕ) (at : Pos) (ts : List Lexed) (st : List Expected) → Runs (run ts room (ExprParen' ∷ st)) (paren_expr at room ts) (suc room) st
runs_paren_expr room at [] st = runs_two room at [] st
runs_paren_expr room at (t ∷ ts) st = runs_paren_expr_at room at t.lexeme t.at ts st

runs_expr_at : (room : ℕ) (w : Lexeme) → ReadsAt Expr' (expr_at room) room w
unfolding expr_at not_at paren_expr_at op_expr_at follow
runs_expr_at room (Sign symbols.Not) p ts st = bind (runs_atom room ts st) (λ atom. done)
runs_expr_at zero (Sign symbols.OpenParen) p ts st = record { same = refl }
runs_expr_at (suc room) (Sign symbols.OpenParen) p ts st = rw (eqb-suc-zero room) (runs_paren_expr room p ts st)
runs_expr_at room w p ts st = bind (runs_atom room (tok w p ∷ ts) (OpTail' ∷ st)) (λ left. runs_op p left.0 room left.1 st)

pub runs_expr : (room : ℕ) → Reads Expr' (expr_at room) room
unfolding expr_at op_expr_at follow
runs_expr room [] st = record { same = refl }
runs_expr room (t ∷ ts) st = runs_expr_at room t.lexeme t.at ts st
