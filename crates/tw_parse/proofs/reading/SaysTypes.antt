-- What the readers of single tokens and of types say.
use Rattle.std.proofs.Common.{◌≡◌, refl, ℕ, zero, suc, ◌==◌, List, [], ◌∷◌, length, ap, Bool, true, false, if◌then◌else◌, Ok, Err}
use Rattle.tw_text.specs.declared.place.Pos.{Pos}
use Rattle.tw_syntax.specs.Names.{NameTree}
use Rattle.tw_syntax.specs.Types.{WrittenTree}
use Rattle.tw_lex.specs.declared.symbol.Symbol.{Symbol}
use Rattle.tw_lex.specs.declared.symbol.Symbol.TheVariants as symbols
use Rattle.tw_parse.specs.declared.error.Rejection.TheVariants.{Syntax}
use Rattle.tw_lex.specs.Tokens.{Lexeme, Name, Number, Sign, Lexed, name_at, number_at, sign_at}
use Rattle.tw_parse.specs.Grammar as form
use Rattle.tw_parse.specs.Grammar.{TypeForm, type_text}
use Rattle.tw_parse.specs.Trees.{type_tree}
use Rattle.tw_parse.specs.reading.Steps.{Reader, is_symbol, leads, take_symbol, take_open, bracketed_with, take_name, take_number}
use Rattle.tw_parse.specs.reading.Terms.{type_argument_with, ptr_with, pair_with, paren_with, plain_type_at, type_with, type_at}
use Rattle.tw_parse.proofs.tokens.Words.{tok, is_symbol-true}
use Rattle.tw_parse.proofs.reading.Says.{Says, says, says_ok, says_err, says_as, says_either, Got, Spells}

pub record Marked (mark : Symbol) (ts : List Lexed) (x : Pos × List Lexed) : Type 0 where
  pub same : ts ≡ sign_at mark x.0 ∷ x.1

pub record Titled (ts : List Lexed) (x : NameTree × List Lexed) : Type 0 where
  pub same : ts ≡ name_at x.0.text x.0.at ∷ x.1

pub record Counted (ts : List Lexed) (x : ℕ × List Lexed) : Type 0 where
  pub at : Pos
  pub same : ts ≡ number_at x.0 at ∷ x.1

-- a form of the grammar between two brackets, with what was read
pub record Bracketed {C X : Type 0} (first last : Symbol) (text : C → List Lexed → List Lexed) (tree : C → X) (ts : List Lexed) (x : X × List Lexed) : Type 0 where
  pub begin : Pos
  pub form : C
  pub close : Pos
  pub same : ts ≡ sign_at first begin ∷ text form (sign_at last close ∷ x.1)
  pub value : x.0 ≡ tree form

pub says_mark : (mark : Symbol) (ts : List Lexed) → Says (Marked mark ts) (take_symbol mark ts)
says_mark mark [] = says_err
says_mark mark (t ∷ ts) = go (is_symbol mark t.lexeme) (is_symbol-true mark t.lexeme)
  where
    go : (is : Bool) → (is ≡ true → t.lexeme ≡ Sign mark) → Says (Marked mark (t ∷ ts)) (if is then Ok (t.at, ts) else Err (Syntax (suc (length ts))))
    go true e = says_ok (record { same = ap (λ w. tok w t.at ∷ ts) (e refl) })
    go false e = says_err

pub says_open : (mark : Symbol) (room : ℕ) (ts : List Lexed) → Says (Marked mark ts) (take_open mark room ts)
says_open mark room ts = says (says_mark mark ts) (λ at h. says_either (room == 0) says_err (says_ok h))

pub says_name : (ts : List Lexed) → Says (Titled ts) (take_name ts)
says_name [] = says_err
says_name (t ∷ ts) = go t.lexeme
  where
    go : (w : Lexeme) → Says (Titled (tok w t.at ∷ ts)) (take_name (tok w t.at ∷ ts))
    go (Name text) = says_ok (record { same = refl })
    go (Number value) = says_err
    go (Sign mark) = says_err

pub says_number : (ts : List Lexed) → Says (Counted ts) (take_number ts)
says_number [] = says_err
says_number (t ∷ ts) = go t.lexeme
  where
    go : (w : Lexeme) → Says (Counted (tok w t.at ∷ ts)) (take_number (tok w t.at ∷ ts))
    go (Number value) = says_ok (record { at = t.at; same = refl })
    go (Name text) = says_err
    go (Sign mark) = says_err

pub says_bracketed : {C X : Type 0} {text : C → List Lexed → List Lexed} {tree : C → X} (first last : Symbol) (inner : Reader X) (room : ℕ) → Spells text tree inner → (ts : List Lexed)
    → Says (Bracketed first last text tree ts) (bracketed_with first last inner room ts)
says_bracketed first last inner room spells ts =
    says (says_open first room ts) (λ begin p. says (spells begin.1) (λ inside c. says (says_mark last inside.1) (λ close q.
    says_ok (record { begin = begin.0; form = c.form; close = close.0; same = cc; value = c.value }))))

pub says_angle : (inner : Reader WrittenTree) (room : ℕ) → Spells type_text type_tree inner → (ts : List Lexed)
    → Says (Bracketed symbols.Less symbols.Greater type_text type_tree ts) (type_argument_with inner room ts)
unfolding type_argument_with
says_angle inner room spells ts = says_bracketed symbols.Less symbols.Greater inner room spells ts

says_pair : (inner : Reader WrittenTree) → Spells type_text type_tree inner → (at : Pos) (ts : List Lexed)
    → Says (Got type_text type_tree (sign_at symbols.OpenParen at ∷ ts)) (pair_with inner at ts)
unfolding pair_with
says_pair inner spells at ts =
    says (spells ts) (λ first c. says (says_mark symbols.Comma first.1) (λ comma p. says (spells comma.1) (λ second d. says (says_mark symbols.CloseParen second.1) (λ close q.
    says_ok (record { form = form.Pair at c.form comma.0 d.form close.0; spelled = cc; value = cc })))))

says_paren : (inner : Reader WrittenTree) (room : ℕ) → Spells type_text type_tree inner → Spells type_text type_tree (paren_with inner room)
unfolding paren_with
says_paren inner room spells ts =
    says (says_open symbols.OpenParen room ts) (λ begin p. says_either (leads symbols.CloseParen begin.1)
    (says (says_mark symbols.CloseParen begin.1) (λ close q. says_ok (record { form = form.Unit begin.0 close.0; spelled = cc; value = refl })))
    (says_as (says_pair inner spells begin.0 begin.1) (λ x c. record { form = c.form; spelled = cc; value = c.value })))

says_plain_type : Spells type_text type_tree plain_type_at
unfolding plain_type_at
says_plain_type ts =
    says_either (leads symbols.Uint ts) (says (says_mark symbols.Uint ts) (λ at p. says_ok (record { form = form.Uint at.0; spelled = p.same; value = refl })))
    (says_either (leads symbols.Bool ts) (says (says_mark symbols.Bool ts) (λ at p. says_ok (record { form = form.Bool at.0; spelled = p.same; value = refl })))
    (says (says_name ts) (λ name p. says_ok (record { form = form.Named name.0.at name.0.text; spelled = p.same; value = refl }))))

says_type_with : (inner : Reader WrittenTree) (room : ℕ) → Spells type_text type_tree inner → Spells type_text type_tree (type_with inner room)
unfolding type_with ptr_with
says_type_with inner room spells ts =
    says_either (leads symbols.Ptr ts) (says (says_mark symbols.Ptr ts) (λ at p. says (says_angle inner room spells at.1) (λ to c.
    says_ok (record { form = form.Ptr at.0 c.begin c.form c.close; spelled = cc; value = cc }))))
    (says_either (leads symbols.OpenParen ts) (says_paren inner room spells ts) (says_plain_type ts))

pub says_type : (room : ℕ) → Spells type_text type_tree (type_at room)
unfolding type_at
says_type zero ts = says_err
says_type (suc room) ts = says_type_with (type_at room) room (says_type room) ts
