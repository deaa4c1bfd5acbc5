-- The automaton takes the text of each type, path, atom, expression and right side.
use Rattle.std.proofs.Common.{◌≡◌, refl, ℕ, ◌≤◌, List, ◌∷◌, ◌∙◌, sym, Bool, true}
use Rattle.tw_text.specs.declared.place.Pos.{Pos}
use Rattle.tw_lex.specs.declared.symbol.Symbol.TheVariants as symbols
use Rattle.tw_lex.specs.Tokens.{Number, Lexed, number_at, sign_at}
use Rattle.tw_parse.specs.Grammar.{TypeForm, type_text, PathForm, path_text, StepsForm, steps_text, AtomForm, atom_text, OpForm, op_symbol, ExprForm, expr_text, RhsForm, rhs_text, BoundForm, bound_text, CallBoundForm, NamesForm, names_text, MoreNamesForm, more_names_text}
use Rattle.tw_parse.proofs.automaton.Transitions.{Expected, TheMark, Small', Type', Paren', Path', Steps', Atom', Expr', ExprParen', OpTail', Rhs', AfterName', Bound', BoundTail', Args', MoreArgs', Next, when, move, settled}
use Rattle.tw_parse.specs.reading.Steps.{is_bound_number}
use Rattle.tw_parse.proofs.tokens.Words.{is_bound_number-of}
use Rattle.tw_parse.proofs.automaton.Walks.{walk, moved}

-- the tokens go on with nothing of this
abbrev pub IsEmptyBefore : Expected → List Lexed → Type 0
IsEmptyBefore n k = (st : List Expected) → walk k (n ∷ st) ≡ walk k st

paren_type : (c : TypeForm) (k : List Lexed) (st : List Expected)
    → walk (type_text c k) (Paren' ∷ st) ≡ walk (type_text c k) (Type' ∷ TheMark symbols.Comma refl ∷ Type' ∷ TheMark symbols.CloseParen refl ∷ st)
paren_type (TypeForm.Uint p) k st = refl
paren_type c k st = refl

pub takes_type : (c : TypeForm) (k : List Lexed) (st : List Expected) → walk (type_text c k) (Type' ∷ st) ≡ walk k st
takes_type (TypeForm.Uint p) k st = refl
takes_type (TypeForm.Bool p) k st = refl
takes_type (TypeForm.Named p name) k st = refl
takes_type (TypeForm.Ptr p q to r) k st = takes_type to (sign_at symbols.Greater r ∷ k) (TheMark symbols.Greater refl ∷ st)
takes_type (TypeForm.Unit p q) k st = refl
takes_type (TypeForm.Pair p first q second r) k st =
    paren_type first (sign_at symbols.Comma q ∷ type_text second (sign_at symbols.CloseParen r ∷ k)) st
    ∙ (takes_type first (sign_at symbols.Comma q ∷ type_text second (sign_at symbols.CloseParen r ∷ k)) (TheMark symbols.Comma refl ∷ Type' ∷ TheMark symbols.CloseParen refl ∷ st)
    ∙ takes_type second (sign_at symbols.CloseParen r ∷ k) (TheMark symbols.CloseParen refl ∷ st))

pub takes_steps : (c : StepsForm) (k : List Lexed) (st : List Expected) → IsEmptyBefore Steps' k → walk (steps_text c k) (Steps' ∷ st) ≡ walk k st
takes_steps StepsForm.NoSteps k st ends = ends st
takes_steps (StepsForm.First p q rest) k st ends = takes_steps rest k st ends
takes_steps (StepsForm.Second p q rest) k st ends = takes_steps rest k st ends

pub takes_path : (c : PathForm) (k : List Lexed) (st : List Expected) → IsEmptyBefore Steps' k → walk (path_text c k) (Path' ∷ st) ≡ walk k st
takes_path c k st ends = takes_steps c.steps k st ends

pub takes_atom : (c : AtomForm) (k : List Lexed) (st : List Expected) → IsEmptyBefore Steps' k → walk (atom_text c k) (Atom' ∷ st) ≡ walk k st
takes_atom (AtomForm.Place path) k st ends = takes_steps path.steps k st ends
takes_atom (AtomForm.Number p value) k st ends = refl
takes_atom (AtomForm.True p) k st ends = refl
takes_atom (AtomForm.False p) k st ends = refl
takes_atom (AtomForm.Nothing p q) k st ends = refl
takes_atom (AtomForm.Null p q to r) k st ends = takes_type to (sign_at symbols.Greater r ∷ k) (TheMark symbols.Greater refl ∷ st)
takes_atom (AtomForm.Default p q of r) k st ends = takes_type of (sign_at symbols.Greater r ∷ k) (TheMark symbols.Greater refl ∷ st)

expr_atom : (c : AtomForm) (k : List Lexed) (st : List Expected) → walk (atom_text c k) (Expr' ∷ st) ≡ walk (atom_text c k) (Atom' ∷ OpTail' ∷ st)
expr_atom (AtomForm.True p) k st = refl
expr_atom c k st = refl

paren_atom : (c : AtomForm) (k : List Lexed) (st : List Expected)
    → walk (atom_text c k) (ExprParen' ∷ st) ≡ walk (atom_text c k) (Atom' ∷ TheMark symbols.Comma refl ∷ Atom' ∷ TheMark symbols.CloseParen refl ∷ st)
paren_atom (AtomForm.True p) k st = refl
paren_atom c k st = refl

op_ends : (op : OpForm) (p : Pos) (k : List Lexed) → IsEmptyBefore Steps' (sign_at (op_symbol op) p ∷ k)
op_ends OpForm.Add p k st = refl
op_ends op p k st = refl

takes_op : (op : OpForm) (p : Pos) (k : List Lexed) (st : List Expected) → walk (sign_at (op_symbol op) p ∷ k) (OpTail' ∷ st) ≡ walk k (Atom' ∷ st)
takes_op OpForm.Add p k st = refl
takes_op op p k st = refl

takes_op_after_name : (op : OpForm) (p : Pos) (k : List Lexed) (st : List Expected) → walk (sign_at (op_symbol op) p ∷ k) (AfterName' ∷ st) ≡ walk k (Atom' ∷ st)
takes_op_after_name OpForm.Add p k st = refl
takes_op_after_name op p k st = refl

pub takes_expr : (c : ExprForm) (k : List Lexed) (st : List Expected) → IsEmptyBefore Steps' k → IsEmptyBefore OpTail' k → walk (expr_text c k) (Expr' ∷ st) ≡ walk k st
takes_expr (ExprForm.Not p atom) k st ends alone = takes_atom atom k st ends
takes_expr (ExprForm.Two p first q second r) k st ends alone =
    paren_atom first (sign_at symbols.Comma q ∷ atom_text second (sign_at symbols.CloseParen r ∷ k)) st
    ∙ (takes_atom first (sign_at symbols.Comma q ∷ atom_text second (sign_at symbols.CloseParen r ∷ k)) (TheMark symbols.Comma refl ∷ Atom' ∷ TheMark symbols.CloseParen refl ∷ st) (λ s. refl)
    ∙ takes_atom second (sign_at symbols.CloseParen r ∷ k) (TheMark symbols.CloseParen refl ∷ st) (λ s. refl))
takes_expr (ExprForm.One atom) k st ends alone = expr_atom atom k st ∙ (takes_atom atom k (OpTail' ∷ st) ends ∙ alone st)
takes_expr (ExprForm.Op left op p right) k st ends alone =
    expr_atom left (sign_at (op_symbol op) p ∷ atom_text right k) st
    ∙ (takes_atom left (sign_at (op_symbol op) p ∷ atom_text right k) (OpTail' ∷ st) (op_ends op p (atom_text right k))
    ∙ (takes_op op p (atom_text right k) st ∙ takes_atom right k st ends))

takes_small : (value : ℕ) → value ≤ 255 → (p : Pos) (k : List Lexed) (st : List Expected) → walk (number_at value p ∷ k) (Small' ∷ st) ≡ walk k st
takes_small value small p k st = go (is_bound_number value) (is_bound_number-of value small)
  where
    go : (is : Bool) → is ≡ true → moved (settled (when is (Next.Take st)) (move (Number value) st)) (walk k) ≡ walk k st
    go is e = rw e refl

pub takes_bound : (c : BoundForm) (k : List Lexed) (st : List Expected) → IsEmptyBefore BoundTail' k → walk (bound_text c k) (Bound' ∷ st) ≡ walk k st
takes_bound (BoundForm.Fixed p value small) k st ends = takes_small value small p k st
takes_bound (BoundForm.Named p name) k st ends = ends st
takes_bound (BoundForm.Less p name q r value small) k st ends = takes_small value small r k st

pub takes_more_args : (c : MoreNamesForm) (r : Pos) (k : List Lexed) (st : List Expected) → walk (more_names_text c (sign_at symbols.CloseParen r ∷ k)) (MoreArgs' ∷ st) ≡ walk k st
takes_more_args MoreNamesForm.NoMore r k st = refl
takes_more_args (MoreNamesForm.More q p name rest) r k st = takes_more_args rest r k st

pub takes_args : (c : NamesForm) (r : Pos) (k : List Lexed) (st : List Expected) → walk (names_text c (sign_at symbols.CloseParen r ∷ k)) (Args' ∷ st) ≡ walk k st
takes_args NamesForm.NoNames r k st = refl
takes_args (NamesForm.Names p name rest) r k st = takes_more_args rest r k st

-- what goes on neither as a path nor as an expression nor as a call
pub record EndsRhs (k : List Lexed) : Type 0 where
  pub path : IsEmptyBefore Steps' k
  pub op : IsEmptyBefore OpTail' k
  pub name : IsEmptyBefore AfterName' k

-- after a name the steps of a path are as in an expression
after_name_steps : (c : StepsForm) (k : List Lexed) (st : List Expected) → walk k (AfterName' ∷ st) ≡ walk k (OpTail' ∷ st) → IsEmptyBefore Steps' k
    → walk (steps_text c k) (AfterName' ∷ st) ≡ walk k (OpTail' ∷ st)
after_name_steps StepsForm.NoSteps k st same ends = same
after_name_steps (StepsForm.First p q rest) k st same ends = takes_steps rest k (OpTail' ∷ st) ends
after_name_steps (StepsForm.Second p q rest) k st same ends = takes_steps rest k (OpTail' ∷ st) ends

-- what does not begin with a name is as an expression
plain_atom : (c : AtomForm) (k : List Lexed) (st : List Expected) → walk k (AfterName' ∷ st) ≡ walk k (OpTail' ∷ st) → IsEmptyBefore Steps' k
    → walk (atom_text c k) (Rhs' ∷ st) ≡ walk k (OpTail' ∷ st)
plain_atom (AtomForm.Place path) k st same ends = after_name_steps path.steps k st same ends
plain_atom (AtomForm.Number p value) k st same ends = refl
plain_atom (AtomForm.True p) k st same ends = refl
plain_atom (AtomForm.False p) k st same ends = refl
plain_atom (AtomForm.Nothing p q) k st same ends = refl
plain_atom (AtomForm.Null p q to r) k st same ends = takes_type to (sign_at symbols.Greater r ∷ k) (TheMark symbols.Greater refl ∷ OpTail' ∷ st)
plain_atom (AtomForm.Default p q of r) k st same ends = takes_type of (sign_at symbols.Greater r ∷ k) (TheMark symbols.Greater refl ∷ OpTail' ∷ st)

takes_plain : (c : ExprForm) (k : List Lexed) (st : List Expected) → EndsRhs k → walk (expr_text c k) (Rhs' ∷ st) ≡ walk k st
takes_plain (ExprForm.Not p atom) k st ends = takes_expr (ExprForm.Not p atom) k st ends.path ends.op
takes_plain (ExprForm.Two p first q second r) k st ends = takes_expr (ExprForm.Two p first q second r) k st ends.path ends.op
takes_plain (ExprForm.One atom) k st ends = plain_atom atom k st (ends.name st ∙ sym (ends.op st)) ends.path ∙ ends.op st
takes_plain (ExprForm.Op left op p right) k st ends =
    plain_atom left (sign_at (op_symbol op) p ∷ atom_text right k) st (takes_op_after_name op p _ st ∙ sym (takes_op op p _ st)) (op_ends op p (atom_text right k))
    ∙ (takes_op op p (atom_text right k) st ∙ takes_atom right k st ends.path)

pub takes_rhs : (c : RhsForm) (k : List Lexed) (st : List Expected) → EndsRhs k → walk (rhs_text c k) (Rhs' ∷ st) ≡ walk k st
takes_rhs (RhsForm.Alloc p q of r) k st ends = takes_type of (sign_at symbols.Greater r ∷ k) (TheMark symbols.Greater refl ∷ st)
takes_rhs (RhsForm.Call p callee CallBoundForm.NoBound q args r) k st ends = takes_args args r k st
takes_rhs (RhsForm.Call p callee (CallBoundForm.Bound b bound e) q args r) k st ends =
    takes_bound bound _ _ (λ s. refl) ∙ takes_args args r k st
takes_rhs (RhsForm.Plain expr) k st ends = takes_plain expr k st ends
