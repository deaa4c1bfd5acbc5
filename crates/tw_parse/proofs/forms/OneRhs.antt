-- Tokens begin with at most one bound, list of arguments or right side.
use Rattle.std.proofs.Common.{◌≡◌, refl, ℕ, ◌≤◌, List, ◌∷◌, ap, sym, subst, arith}
use Rattle.std.proofs.Math.Bridge.{le_prop}
use Rattle.tw_text.specs.declared.place.Pos.{Pos}
use Rattle.tw_lex.specs.declared.symbol.Symbol.TheVariants as symbols
use Rattle.tw_lex.specs.Tokens.{Number, Lexed, name_at, sign_at}
use Rattle.tw_parse.specs.Grammar.{TypeForm, StepsForm, steps_text, AtomForm, atom_text, OpForm, op_symbol, ExprForm, expr_text, BoundForm, bound_text, CallBoundForm, call_bound_text, NamesForm, names_text, MoreNamesForm, more_names_text, RhsForm, rhs_text}
use Rattle.tw_parse.proofs.forms.OneExpr.{same, name-same, Lacks, begins, type-same, atom-not, EndsExpr, expr-same}

fixed-same : (p q : Pos) (x y : ℕ) (small : x ≤ 255) (other : y ≤ 255) → p ≡ q → x ≡ y → BoundForm.Fixed p x small ≡ BoundForm.Fixed q y other
fixed-same p q x y small other place value =
    subst (λ z. (h : z ≤ 255) → BoundForm.Fixed p x small ≡ BoundForm.Fixed q z h) value (λ h. let proof : small ≡ h = le_prop small h in cc (place, proof)) other

less-same : (p q : Pos) (name other : List ℕ) (r s t u : Pos) (x y : ℕ) (small : x ≤ 255) (less : y ≤ 255) → p ≡ q → name ≡ other → r ≡ s → t ≡ u → x ≡ y
    → BoundForm.Less p name r t x small ≡ BoundForm.Less q other s u y less
less-same p q name other r s t u x y small less e₁ e₂ e₃ e₄ value =
    subst (λ z. (h : z ≤ 255) → BoundForm.Less p name r t x small ≡ BoundForm.Less q other s u z h) value (λ h. let proof : small ≡ h = le_prop small h in cc (e₁, e₂, e₃, e₄, proof)) less

number-same : {x y : ℕ} → Number x ≡ Number y → x ≡ y
number-same e = cc

pub bound-same : (c d : BoundForm) (k l : List Lexed) → Lacks symbols.Minus k → Lacks symbols.Minus l → bound_text c k ≡ bound_text d l → (c ≡ d) × (k ≡ l)
bound-same (BoundForm.Fixed p x small) (BoundForm.Fixed q y other) k l hk hl e = let h = same e in (fixed-same p q x y small other h.at (number-same h.lexeme), h.rest)
bound-same (BoundForm.Named p x) (BoundForm.Named q y) k l hk hl e = (cc ((same e).lexeme, (same e).at), (same e).rest)
bound-same (BoundForm.Named p x) (BoundForm.Less q y r s value small) k l hk hl e = absurd (begins symbols.Minus r k _ hk refl (same e).rest)
bound-same (BoundForm.Less q y r s value small) (BoundForm.Named p x) k l hk hl e = absurd (begins symbols.Minus r l _ hl refl (sym (same e).rest))
bound-same (BoundForm.Less p name r t x small) (BoundForm.Less q other s u y less) k l hk hl e =
    let first = same e in
    let minus = same first.rest in
    let last = same minus.rest in
    (less-same p q name other r s t u x y small less first.at (name-same first.lexeme) minus.at last.at (number-same last.lexeme), last.rest)
bound-same c d k l hk hl e = absurd (cc ((same e).lexeme))

pub more_names-same : (c d : MoreNamesForm) (p q : Pos) (k l : List Lexed) → more_names_text c (sign_at symbols.CloseParen p ∷ k) ≡ more_names_text d (sign_at symbols.CloseParen q ∷ l) → (c ≡ d) × (p ≡ q) × (k ≡ l)
more_names-same MoreNamesForm.NoMore MoreNamesForm.NoMore p q k l e = (refl, (same e).at, (same e).rest)
more_names-same (MoreNamesForm.More q p x rest) (MoreNamesForm.More q' p' y other) r s k l e =
    let comma = same e in
    let name = same comma.rest in
    let h = more_names-same rest other r s k l name.rest in
    (cc (comma.at, name.at, name.lexeme, h.0), h.1, h.2)
more_names-same c d p q k l e = absurd (cc ((same e).lexeme))

pub names-same : (c d : NamesForm) (p q : Pos) (k l : List Lexed) → names_text c (sign_at symbols.CloseParen p ∷ k) ≡ names_text d (sign_at symbols.CloseParen q ∷ l) → (c ≡ d) × (p ≡ q) × (k ≡ l)
names-same NamesForm.NoNames NamesForm.NoNames p q k l e = (refl, (same e).at, (same e).rest)
names-same (NamesForm.Names p x rest) (NamesForm.Names q y other) r s k l e =
    let name = same e in
    let h = more_names-same rest other r s k l name.rest in
    (cc (name.at, name.lexeme, h.0), h.1, h.2)
names-same c d p q k l e = absurd (cc ((same e).lexeme))

call_bound-same : (c d : CallBoundForm) (p q : Pos) (k l : List Lexed) → call_bound_text c (sign_at symbols.OpenParen p ∷ k) ≡ call_bound_text d (sign_at symbols.OpenParen q ∷ l) → (c ≡ d) × (p ≡ q) × (k ≡ l)
call_bound-same CallBoundForm.NoBound CallBoundForm.NoBound p q k l e = (refl, (same e).at, (same e).rest)
call_bound-same (CallBoundForm.Bound b bound o) (CallBoundForm.Bound b' other o') p q k l e =
    let first = same e in
    let h = bound-same bound other (sign_at symbols.CloseBracket o ∷ sign_at symbols.OpenParen p ∷ k) (sign_at symbols.CloseBracket o' ∷ sign_at symbols.OpenParen q ∷ l) refl refl first.rest in
    let close = same h.1 in
    let paren = same close.rest in
    (cc (first.at, h.0, close.at), paren.at, paren.rest)
call_bound-same c d p q k l e = absurd (cc ((same e).lexeme))

-- a right side ends before these tokens
pub record EndsCall (k : List Lexed) : Type 0 where
  pub expr : EndsExpr k
  pub paren : Lacks symbols.OpenParen k
  pub bracket : Lacks symbols.OpenBracket k

-- what begins a call after its name
NotCall : List Lexed → Type 0
NotCall k = Lacks symbols.OpenParen k × Lacks symbols.OpenBracket k

steps-not_call : (c : StepsForm) (k : List Lexed) → NotCall k → NotCall (steps_text c k)
unfolding NotCall
steps-not_call StepsForm.NoSteps k h = h
steps-not_call c k h = (refl, refl)

op-not_call : (op : OpForm) (p : Pos) (k : List Lexed) → NotCall (sign_at (op_symbol op) p ∷ k)
unfolding NotCall
op-not_call OpForm.Add p k = (refl, refl)
op-not_call op p k = (refl, refl)

atom-not_call : (c : AtomForm) (k : List Lexed) (p : Pos) (name : List ℕ) (l : List Lexed) → NotCall k → name_at name p ∷ l ≡ atom_text c k → NotCall l
atom-not_call (AtomForm.Place path) k p name l h e = subst NotCall (sym (same e).rest) (steps-not_call path.steps k h)
atom-not_call c k p name l h e = absurd (cc ((same e).lexeme))

expr-not_call : (c : ExprForm) (k : List Lexed) (p : Pos) (name : List ℕ) (l : List Lexed) → NotCall k → name_at name p ∷ l ≡ expr_text c k → NotCall l
expr-not_call (ExprForm.Not q atom) k p name l h e = absurd (cc ((same e).lexeme))
expr-not_call (ExprForm.Two q a r b s) k p name l h e = absurd (cc ((same e).lexeme))
expr-not_call (ExprForm.One a) k p name l h e = atom-not_call a k p name l h e
expr-not_call (ExprForm.Op a op q b) k p name l h e = atom-not_call a _ p name l (op-not_call op q (atom_text b k)) e

expr-not_alloc : (c : ExprForm) (k : List Lexed) (p : Pos) (l : List Lexed) → sign_at symbols.Alloc p ∷ l ≡ expr_text c k → ⊥
expr-not_alloc (ExprForm.Not q atom) k p l e = cc ((same e).lexeme)
expr-not_alloc (ExprForm.Two q a r b s) k p l e = cc ((same e).lexeme)
expr-not_alloc (ExprForm.One a) k p l e = atom-not a k symbols.Alloc p l refl e
expr-not_alloc (ExprForm.Op a op q b) k p l e = atom-not a _ symbols.Alloc p l refl e

call-not_expr : (bound : CallBoundForm) (c : ExprForm) (p : Pos) (name : List ℕ) (q : Pos) (x k : List Lexed) → EndsCall k
    → name_at name p ∷ call_bound_text bound (sign_at symbols.OpenParen q ∷ x) ≡ expr_text c k → ⊥
unfolding NotCall
call-not_expr CallBoundForm.NoBound c p name q x k ends e = let h = expr-not_call c k p name _ (ends.paren, ends.bracket) e in grind (arith, h.0)
call-not_expr (CallBoundForm.Bound b bound o) c p name q x k ends e = let h = expr-not_call c k p name _ (ends.paren, ends.bracket) e in grind (arith, h.1)

pub rhs-same : (c d : RhsForm) (k l : List Lexed) → EndsCall k → EndsCall l → rhs_text c k ≡ rhs_text d l → (c ≡ d) × (k ≡ l)
rhs-same (RhsForm.Alloc p q of r) (RhsForm.Alloc p' q' of' r') k l hk hl e =
    let first = same e in
    let inner = type-same (TypeForm.Ptr p q of r) (TypeForm.Ptr p q' of' r') k l (ap (λ ts. sign_at symbols.Ptr p ∷ ts) first.rest) in
    (cc (first.at, inner.0), inner.1)
rhs-same (RhsForm.Call p x bound q args r) (RhsForm.Call p' y bound' q' args' r') k l hk hl e =
    let name = same e in
    let paren = call_bound-same bound bound' q q' (names_text args (sign_at symbols.CloseParen r ∷ k)) (names_text args' (sign_at symbols.CloseParen r' ∷ l)) name.rest in
    let inner = names-same args args' r r' k l paren.2 in
    (cc (name.at, name.lexeme, paren.0, paren.1, inner.0, inner.1), inner.2)
rhs-same (RhsForm.Plain c) (RhsForm.Plain d) k l hk hl e = let h = expr-same c d k l hk.expr hl.expr e in (ap RhsForm.Plain h.0, h.1)
rhs-same (RhsForm.Alloc p q of r) (RhsForm.Plain c) k l hk hl e = absurd (expr-not_alloc c l p _ e)
rhs-same (RhsForm.Plain c) (RhsForm.Alloc p q of r) k l hk hl e = absurd (expr-not_alloc c k p _ (sym e))
rhs-same (RhsForm.Call p x bound q args r) (RhsForm.Plain c) k l hk hl e = absurd (call-not_expr bound c p x q _ l hl e)
rhs-same (RhsForm.Plain c) (RhsForm.Call p x bound q args r) k l hk hl e = absurd (call-not_expr bound c p x q _ k hk (sym e))
rhs-same c d k l hk hl e = absurd (cc ((same e).lexeme))
