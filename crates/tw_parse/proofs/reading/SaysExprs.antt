-- What the readers of expressions say.
use Rattle.std.proofs.Common.{◌≡◌, refl, ℕ, suc, List, [], ◌∷◌, ap, sym, ◌∙◌, Result, Ok}
use Rattle.tw_text.specs.declared.place.Pos.{Pos}
use Rattle.tw_syntax.specs.Terms.{AtomTree, UnitAtom, OpExpr}
use Rattle.tw_lex.specs.declared.symbol.Symbol.TheVariants as symbols
use Rattle.tw_parse.specs.declared.error.Rejection.{Rejection}
use Rattle.tw_lex.specs.Tokens.{Lexeme, Sign, Lexed, sign_at}
use Rattle.tw_parse.specs.Grammar as form
use Rattle.tw_parse.specs.Grammar.{AtomForm, atom_text, OpForm, ExprForm, expr_text}
use Rattle.tw_parse.specs.Trees.{atom_place, atom_tree, op_kind, expr_tree}
use Rattle.tw_parse.specs.reading.Steps.{◌>>=◌, leads}
use Rattle.tw_parse.specs.reading.Terms.{op_at, not_at, two_at, paren_expr_at, op_expr_at, expr_at}
use Rattle.tw_parse.proofs.tokens.Words.{tok}
use Rattle.tw_parse.proofs.reading.Says.{Says, says, says_ok, says_as, says_either, Got, Spells, says_place, first_at}
use Rattle.tw_parse.proofs.reading.SaysTypes.{says_mark, says_open}
use Rattle.tw_parse.proofs.reading.SaysPaths.{says_atom}

operand_got : (left : AtomForm) (op : OpForm) (p : Pos) (ts : List Lexed) {r : Result (AtomTree × List Lexed) Rejection} → Says (Got atom_text atom_tree ts) r
    → Says (Got expr_text expr_tree (atom_text left (sign_at (form.op_symbol op) p ∷ ts))) (r >>= λ right. Ok (OpExpr (atom_place left) (op_kind op) (atom_tree left) right.0, right.1))
operand_got left op p ts h = says h (λ right c. says_ok (record { form = form.Op left op p c.form; spelled = cc; value = cc }))

-- an operator and the atom after it
says_operand : (room : ℕ) (left : AtomForm) (op : OpForm) (p : Pos) (ts : List Lexed)
    → Says (Got expr_text expr_tree (atom_text left (sign_at (form.op_symbol op) p ∷ ts))) (op_at (atom_place left) (atom_tree left) room (sign_at (form.op_symbol op) p ∷ ts))
unfolding op_at
says_operand room left form.Add p ts = operand_got left form.Add p ts (says_atom (suc room) ts)
says_operand room left op p ts = operand_got left op p ts (says_atom (suc room) ts)

says_op_at : (room : ℕ) (left : AtomForm) (w : Lexeme) (p : Pos) (ts : List Lexed)
    → Says (Got expr_text expr_tree (atom_text left (tok w p ∷ ts))) (op_at (atom_place left) (atom_tree left) room (tok w p ∷ ts))
unfolding op_at
says_op_at room left (Sign symbols.Plus) p ts = says_operand room left form.Add p ts
says_op_at room left (Sign symbols.Minus) p ts = says_operand room left form.Sub p ts
says_op_at room left (Sign symbols.Star) p ts = says_operand room left form.Mul p ts
says_op_at room left (Sign symbols.Less) p ts = says_operand room left form.Lt p ts
says_op_at room left (Sign symbols.Equal) p ts = says_operand room left form.Eq p ts
says_op_at room left (Sign symbols.NotEqual) p ts = says_operand room left form.Ne p ts
says_op_at room left (Sign symbols.And) p ts = says_operand room left form.And p ts
says_op_at room left (Sign symbols.Or) p ts = says_operand room left form.Or p ts
says_op_at room left w p ts = says_ok (record { form = form.One left; spelled = refl; value = refl })

says_op : (room : ℕ) (left : AtomForm) (ts : List Lexed) → Says (Got expr_text expr_tree (atom_text left ts)) (op_at (atom_place left) (atom_tree left) room ts)
unfolding op_at
says_op room left [] = says_ok (record { form = form.One left; spelled = refl; value = refl })
says_op room left (t ∷ ts) = says_op_at room left t.lexeme t.at ts

-- the same after an atom that was read
says_op_behind : (room : ℕ) (at : Pos) (left : AtomTree) (ts us : List Lexed) (c : AtomForm) → at ≡ atom_place c → left ≡ atom_tree c → ts ≡ atom_text c us
    → Says (Got expr_text expr_tree ts) (op_at at left room us)
says_op_behind room at left ts us c place tree spelled = rw (place, tree, spelled) (says_op room c us)

says_two : (room : ℕ) (at : Pos) (ts : List Lexed) → Says (Got expr_text expr_tree (sign_at symbols.OpenParen at ∷ ts)) (two_at at room ts)
unfolding two_at
says_two room at ts =
    says (says_atom room ts) (λ first c. says (says_mark symbols.Comma first.1) (λ comma p. says (says_atom room comma.1) (λ second d. says (says_mark symbols.CloseParen second.1) (λ close q.
    says_ok (record { form = form.Two at c.form comma.0 d.form close.0; spelled = cc; value = cc })))))

says_paren_expr : (room : ℕ) → Spells expr_text expr_tree (paren_expr_at room)
unfolding paren_expr_at
says_paren_expr room ts =
    says (says_open symbols.OpenParen room ts) (λ begin p. says_either (leads symbols.CloseParen begin.1)
    (says (says_mark symbols.CloseParen begin.1) (λ close q. says_op_behind room begin.0 (UnitAtom begin.0) ts close.1 (form.Nothing begin.0 close.0) refl refl cc))
    (says_as (says_two room begin.0 begin.1) (λ x c. record { form = c.form; spelled = cc; value = c.value })))

-- the place of an atom is that of its first token
place_of_atom : (c : AtomForm) (k us : List Lexed) (w : Lexeme) (at : Pos) → tok w at ∷ us ≡ atom_text c k → at ≡ atom_place c
place_of_atom (form.Place path) k us w at e = ap (first_at at) e
place_of_atom c k us w at e = ap (first_at at) e

says_op_expr : (room : ℕ) → Spells expr_text expr_tree (op_expr_at room)
unfolding op_expr_at
says_op_expr room ts =
    says (says_place ts) (λ at p. says (says_atom (suc room) ts) (λ left c.
    says_op_behind room at left.0 ts left.1 c.form (place_of_atom c.form left.1 p.rest p.lexeme at (sym p.same ∙ c.spelled)) c.value c.spelled))

pub says_expr : (room : ℕ) → Spells expr_text expr_tree (expr_at room)
unfolding expr_at not_at
says_expr room ts =
    says_either (leads symbols.Not ts) (says (says_mark symbols.Not ts) (λ at p. says (says_atom (suc room) at.1) (λ atom c.
    says_ok (record { form = form.Not at.0 c.form; spelled = cc; value = cc }))))
    (says_either (leads symbols.OpenParen ts) (says_paren_expr room ts) (says_op_expr room ts))
