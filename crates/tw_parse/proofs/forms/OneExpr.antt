-- Tokens begin with at most one type, path, atom or expression.
use Rattle.std.proofs.Common.{◌≡◌, refl, ℕ, List, ◌∷◌, ap, ◌∙◌, sym, Bool, true, false, Some, None}
use Rattle.tw_text.specs.declared.place.Pos.{Pos}
use Rattle.tw_lex.specs.declared.symbol.Symbol.{Symbol}
use Rattle.tw_lex.specs.declared.symbol.Symbol.TheVariants as symbols
use Rattle.tw_lex.specs.Tokens.{Name, Sign, Lexed, sign_at}
use Rattle.tw_parse.specs.Trees.{op_kind}
use Rattle.tw_parse.specs.Grammar.{TypeForm, type_text, PathForm, path_text, StepsForm, steps_text, AtomForm, atom_text, OpForm, op_symbol, ExprForm, expr_text}
use Rattle.tw_parse.specs.reading.Steps.{leads}
use Rattle.tw_parse.specs.reading.Terms.{op_of}

-- what two token lists share that are the same
pub record Same (t u : Lexed) (ts us : List Lexed) : Type 0 where
  pub lexeme : t.lexeme ≡ u.lexeme
  pub at : t.at ≡ u.at
  pub rest : ts ≡ us

pub same : {t u : Lexed} {ts us : List Lexed} → t ∷ ts ≡ u ∷ us → Same t u ts us
same {t = t} {u = u} e = let first : t ≡ u = cc in record { lexeme = ap (λ x. x.lexeme) first; at = ap (λ x. x.at) first; rest = cc }

pub name-same : {x y : List ℕ} → Name x ≡ Name y → x ≡ y
name-same e = cc

type-not_close : (c : TypeForm) (k : List Lexed) (p : Pos) (l : List Lexed) → sign_at symbols.CloseParen p ∷ l ≡ type_text c k → ⊥
type-not_close (TypeForm.Uint q) k p l e = cc ((same e).lexeme)
type-not_close c k p l e = cc ((same e).lexeme)

pub type-same : (c d : TypeForm) (k l : List Lexed) → type_text c k ≡ type_text d l → (c ≡ d) × (k ≡ l)
type-same (TypeForm.Uint p) (TypeForm.Uint q) k l e = (ap TypeForm.Uint (same e).at, (same e).rest)
type-same (TypeForm.Bool p) (TypeForm.Bool q) k l e = (ap TypeForm.Bool (same e).at, (same e).rest)
type-same (TypeForm.Named p x) (TypeForm.Named q y) k l e = (cc ((same e).lexeme, (same e).at), (same e).rest)
type-same (TypeForm.Ptr p q to r) (TypeForm.Ptr p' q' to' r') k l e =
    let first = same e in
    let second = same first.rest in
    let inner = type-same to to' (sign_at symbols.Greater r ∷ k) (sign_at symbols.Greater r' ∷ l) second.rest in
    let last = same inner.1 in
    (cc (first.at, second.at, inner.0, last.at), last.rest)
type-same (TypeForm.Unit p q) (TypeForm.Unit p' q') k l e =
    let first = same e in
    let last = same first.rest in
    (cc (first.at, last.at), last.rest)
type-same (TypeForm.Pair p a q b r) (TypeForm.Pair p' a' q' b' r') k l e =
    let first = same e in
    let one = type-same a a' (sign_at symbols.Comma q ∷ type_text b (sign_at symbols.CloseParen r ∷ k)) (sign_at symbols.Comma q' ∷ type_text b' (sign_at symbols.CloseParen r' ∷ l)) first.rest in
    let comma = same one.1 in
    let two = type-same b b' (sign_at symbols.CloseParen r ∷ k) (sign_at symbols.CloseParen r' ∷ l) comma.rest in
    let last = same two.1 in
    (cc (first.at, one.0, comma.at, two.0, last.at), last.rest)
type-same (TypeForm.Unit p q) (TypeForm.Pair p' a' q' b' r') k l e = absurd (type-not_close a' _ q k (same e).rest)
type-same (TypeForm.Pair p a q b r) (TypeForm.Unit p' q') k l e = absurd (type-not_close a _ q' l (sym (same e).rest))
type-same c d k l e = absurd (cc ((same e).lexeme))

-- the first token is not this mark
abbrev pub Lacks : Symbol → List Lexed → Type 0
Lacks mark ts = leads mark ts ≡ false

-- text that begins with a mark does not lack it
pub begins : (mark : Symbol) (p : Pos) (k l : List Lexed) → Lacks mark k → leads mark (sign_at mark p ∷ l) ≡ true → k ≡ sign_at mark p ∷ l → ⊥
begins mark p k l lacks has e = cc (ap (leads mark) e, lacks, has)

pub steps-same : (c d : StepsForm) (k l : List Lexed) → Lacks symbols.Dot k → Lacks symbols.Dot l → steps_text c k ≡ steps_text d l → (c ≡ d) × (k ≡ l)
steps-same StepsForm.NoSteps StepsForm.NoSteps k l hk hl e = (refl, e)
steps-same StepsForm.NoSteps (StepsForm.First p q rest) k l hk hl e = absurd (begins symbols.Dot p k _ hk refl e)
steps-same StepsForm.NoSteps (StepsForm.Second p q rest) k l hk hl e = absurd (begins symbols.Dot p k _ hk refl e)
steps-same (StepsForm.First p q rest) StepsForm.NoSteps k l hk hl e = absurd (begins symbols.Dot p l _ hl refl (sym e))
steps-same (StepsForm.Second p q rest) StepsForm.NoSteps k l hk hl e = absurd (begins symbols.Dot p l _ hl refl (sym e))
steps-same (StepsForm.First p q rest) (StepsForm.First p' q' rest') k l hk hl e =
    let dot = same e in
    let step = same dot.rest in
    let inner = steps-same rest rest' k l hk hl step.rest in
    (cc (dot.at, step.at, inner.0), inner.1)
steps-same (StepsForm.Second p q rest) (StepsForm.Second p' q' rest') k l hk hl e =
    let dot = same e in
    let step = same dot.rest in
    let inner = steps-same rest rest' k l hk hl step.rest in
    (cc (dot.at, step.at, inner.0), inner.1)
steps-same (StepsForm.First p q rest) (StepsForm.Second p' q' rest') k l hk hl e = absurd (cc ((same (same e).rest).lexeme))
steps-same (StepsForm.Second p q rest) (StepsForm.First p' q' rest') k l hk hl e = absurd (cc ((same (same e).rest).lexeme))

pub path-same : (c d : PathForm) (k l : List Lexed) → Lacks symbols.Dot k → Lacks symbols.Dot l → path_text c k ≡ path_text d l → (c ≡ d) × (k ≡ l)
path-same c d k l hk hl e =
    let name = same e in
    let steps = steps-same c.steps d.steps k l hk hl name.rest in
    (λ i. record { at = name.at i; root = name-same name.lexeme i; steps = steps.0 i }, steps.1)

pub atom-same : (c d : AtomForm) (k l : List Lexed) → Lacks symbols.Dot k → Lacks symbols.Dot l → atom_text c k ≡ atom_text d l → (c ≡ d) × (k ≡ l)
atom-same (AtomForm.Place path) (AtomForm.Place other) k l hk hl e = let h = path-same path other k l hk hl e in (ap AtomForm.Place h.0, h.1)
atom-same (AtomForm.Number p x) (AtomForm.Number q y) k l hk hl e = (cc ((same e).lexeme, (same e).at), (same e).rest)
atom-same (AtomForm.True p) (AtomForm.True q) k l hk hl e = (ap AtomForm.True (same e).at, (same e).rest)
atom-same (AtomForm.False p) (AtomForm.False q) k l hk hl e = (ap AtomForm.False (same e).at, (same e).rest)
atom-same (AtomForm.Nothing p q) (AtomForm.Nothing p' q') k l hk hl e =
    let first = same e in
    let last = same first.rest in
    (cc (first.at, last.at), last.rest)
atom-same (AtomForm.Null p q to r) (AtomForm.Null p' q' to' r') k l hk hl e =
    let first = same e in
    let inner = type-same (TypeForm.Ptr p q to r) (TypeForm.Ptr p q' to' r') k l (ap (λ ts. sign_at symbols.Ptr p ∷ ts) first.rest) in
    (cc (first.at, inner.0), inner.1)
atom-same (AtomForm.Default p q of r) (AtomForm.Default p' q' of' r') k l hk hl e =
    let first = same e in
    let inner = type-same (TypeForm.Ptr p q of r) (TypeForm.Ptr p q' of' r') k l (ap (λ ts. sign_at symbols.Ptr p ∷ ts) first.rest) in
    (cc (first.at, inner.0), inner.1)
atom-same c d k l hk hl e = absurd (cc ((same e).lexeme))

abbrev begins_atom : Symbol → Bool
begins_atom symbols.True = true
begins_atom symbols.False = true
begins_atom symbols.OpenParen = true
begins_atom symbols.Null = true
begins_atom symbols.Default = true
begins_atom mark = false

pub atom-not : (c : AtomForm) (k : List Lexed) (mark : Symbol) (p : Pos) (l : List Lexed) → begins_atom mark ≡ false → sign_at mark p ∷ l ≡ atom_text c k → ⊥
atom-not (AtomForm.Place path) k mark p l none e = cc ((same e).lexeme)
atom-not (AtomForm.Number q value) k mark p l none e = cc ((same e).lexeme)
atom-not (AtomForm.True q) k mark p l none e = let is : mark ≡ symbols.True = cc ((same e).lexeme) in cc (ap begins_atom is, none)
atom-not (AtomForm.False q) k mark p l none e = let is : mark ≡ symbols.False = cc ((same e).lexeme) in cc (ap begins_atom is, none)
atom-not (AtomForm.Nothing q r) k mark p l none e = let is : mark ≡ symbols.OpenParen = cc ((same e).lexeme) in cc (ap begins_atom is, none)
atom-not (AtomForm.Null q r to o) k mark p l none e = let is : mark ≡ symbols.Null = cc ((same e).lexeme) in cc (ap begins_atom is, none)
atom-not (AtomForm.Default q r of o) k mark p l none e = let is : mark ≡ symbols.Default = cc ((same e).lexeme) in cc (ap begins_atom is, none)

-- "(" atom is no atom
atom-not_two : (c a : AtomForm) (k l : List Lexed) (p : Pos) → sign_at symbols.OpenParen p ∷ atom_text a l ≡ atom_text c k → ⊥
atom-not_two (AtomForm.Nothing q r) a k l p e = atom-not a l symbols.CloseParen r k refl (sym (same e).rest)
atom-not_two c a k l p e = cc ((same e).lexeme)

op_form : Symbol → OpForm
op_form symbols.Minus = OpForm.Sub
op_form symbols.Star = OpForm.Mul
op_form symbols.Less = OpForm.Lt
op_form symbols.Equal = OpForm.Eq
op_form symbols.NotEqual = OpForm.Ne
op_form symbols.And = OpForm.And
op_form symbols.Or = OpForm.Or
op_form mark = OpForm.Add

op_form-mark : (op : OpForm) → op_form (op_symbol op) ≡ op
unfolding op_form
op_form-mark OpForm.Add = refl
op_form-mark op = refl

op-same : (op other : OpForm) → Sign (op_symbol op) ≡ Sign (op_symbol other) → op ≡ other
op-same op other e = let marks : op_symbol op ≡ op_symbol other = cc in sym (op_form-mark op) ∙ (ap op_form marks ∙ op_form-mark other)

op-lacks_dot : (op : OpForm) (p : Pos) (k : List Lexed) → Lacks symbols.Dot (sign_at (op_symbol op) p ∷ k)
op-lacks_dot OpForm.Add p k = refl
op-lacks_dot op p k = refl

op-is_op : (op : OpForm) (p : Pos) (k : List Lexed) → op_of (sign_at (op_symbol op) p ∷ k) ≡ Some (op_kind op)
op-is_op OpForm.Add p k = refl
op-is_op op p k = refl

-- an expression ends before these tokens
pub record EndsExpr (k : List Lexed) : Type 0 where
  pub dot : Lacks symbols.Dot k
  pub op : op_of k ≡ None

one-not_op : (a b c : AtomForm) (op : OpForm) (p : Pos) (k l : List Lexed) → EndsExpr k → atom_text a k ≡ expr_text (ExprForm.Op b op p c) l → ⊥
one-not_op a b c op p k l ends e =
    let h = atom-same a b k (sign_at (op_symbol op) p ∷ atom_text c l) ends.dot (op-lacks_dot op p (atom_text c l)) e in
    cc (ap op_of h.1, ends.op, op-is_op op p (atom_text c l))

pub expr-same : (c d : ExprForm) (k l : List Lexed) → EndsExpr k → EndsExpr l → expr_text c k ≡ expr_text d l → (c ≡ d) × (k ≡ l)
expr-same (ExprForm.Not p a) (ExprForm.Not q b) k l hk hl e =
    let first = same e in
    let h = atom-same a b k l hk.dot hl.dot first.rest in
    (cc (first.at, h.0), h.1)
expr-same (ExprForm.Not p a) (ExprForm.Two p' a' q' b' r') k l hk hl e = absurd (cc ((same e).lexeme))
expr-same (ExprForm.Not p a) (ExprForm.One b) k l hk hl e = absurd (atom-not b l symbols.Not p _ refl e)
expr-same (ExprForm.Not p a) (ExprForm.Op b op q c) k l hk hl e = absurd (atom-not b _ symbols.Not p _ refl e)
expr-same (ExprForm.Two p a q b r) (ExprForm.Not p' a') k l hk hl e = absurd (cc ((same e).lexeme))
expr-same (ExprForm.Two p a q b r) (ExprForm.Two p' a' q' b' r') k l hk hl e =
    let first = same e in
    let one = atom-same a a' (sign_at symbols.Comma q ∷ atom_text b (sign_at symbols.CloseParen r ∷ k)) (sign_at symbols.Comma q' ∷ atom_text b' (sign_at symbols.CloseParen r' ∷ l)) refl refl first.rest in
    let comma = same one.1 in
    let two = atom-same b b' (sign_at symbols.CloseParen r ∷ k) (sign_at symbols.CloseParen r' ∷ l) refl refl comma.rest in
    let last = same two.1 in
    (cc (first.at, one.0, comma.at, two.0, last.at), last.rest)
expr-same (ExprForm.Two p a q b r) (ExprForm.One c) k l hk hl e = absurd (atom-not_two c a l _ p e)
expr-same (ExprForm.Two p a q b r) (ExprForm.Op c op o d) k l hk hl e = absurd (atom-not_two c a _ _ p e)
expr-same (ExprForm.One a) (ExprForm.Not q b) k l hk hl e = absurd (atom-not a k symbols.Not q _ refl (sym e))
expr-same (ExprForm.One a) (ExprForm.Two p' a' q' b' r') k l hk hl e = absurd (atom-not_two a a' k _ p' (sym e))
expr-same (ExprForm.One a) (ExprForm.One b) k l hk hl e = let h = atom-same a b k l hk.dot hl.dot e in (ap ExprForm.One h.0, h.1)
expr-same (ExprForm.One a) (ExprForm.Op b op p c) k l hk hl e = absurd (one-not_op a b c op p k l hk e)
expr-same (ExprForm.Op a op p b) (ExprForm.Not q c) k l hk hl e = absurd (atom-not a _ symbols.Not q _ refl (sym e))
expr-same (ExprForm.Op a op p b) (ExprForm.Two p' a' q' b' r') k l hk hl e = absurd (atom-not_two a a' _ _ p' (sym e))
expr-same (ExprForm.Op a op p b) (ExprForm.One c) k l hk hl e = absurd (one-not_op c a b op p l k hl (sym e))
expr-same (ExprForm.Op a op p b) (ExprForm.Op a' op' p' b') k l hk hl e =
    let one = atom-same a a' (sign_at (op_symbol op) p ∷ atom_text b k) (sign_at (op_symbol op') p' ∷ atom_text b' l) (op-lacks_dot op p (atom_text b k)) (op-lacks_dot op' p' (atom_text b' l)) e in
    let sign = same one.1 in
    let two = atom-same b b' k l hk.dot hl.dot sign.rest in
    (cc (one.0, op-same op op' sign.lexeme, sign.at, two.0), two.1)
