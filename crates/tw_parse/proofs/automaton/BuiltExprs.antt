-- Each move of the automaton is a step of the grammar: paths, atoms, expressions and right sides.
use Rattle.std.proofs.Common.{◌≡◌, refl, ℕ, List, ◌∷◌, ap, true, false}
use Rattle.tw_text.specs.declared.place.Pos.{Pos}
use Rattle.tw_lex.specs.declared.symbol.Symbol.TheVariants as symbols
use Rattle.tw_lex.specs.Tokens.{Lexeme, Name, Number, Sign, Lexed, name_at, number_at, sign_at}
use Rattle.tw_parse.specs.Grammar.{StepsForm, steps_text, AtomForm, atom_text, OpForm, op_symbol, ExprForm, expr_text, RhsForm, rhs_text, BoundForm, CallBoundForm, NamesForm, MoreNamesForm}
use Rattle.tw_parse.proofs.automaton.Transitions.{Expected, TheMark, Step', Small', Path', Steps', Atom', Expr', ExprParen', OpTail', Rhs', AfterName', Bound', BoundTail', CallArgs', Args', MoreArgs', next_atom, next_expr, next_op_tail}
use Rattle.tw_parse.proofs.automaton.Awaited.{Spelled, spelled, respelled, joined, StepForm, step_text, Has, Forest, Built, builds_as}
use Rattle.tw_parse.proofs.tokens.Words.{tok}
use Rattle.tw_parse.proofs.automaton.BuiltTypes.{builds_small}

pub builds_path : (w : Lexeme) → Built Path' w
builds_path (Name text) p ts st = λ f. spelled (λ x. name_at text p ∷ x) (λ c. record { at = p; root = text; steps = c }) (λ c k. refl) f
builds_path w p ts st = tt

-- a step and further ones, after a "."
abbrev step_of : Pos → StepForm → StepsForm → StepsForm
step_of p (StepForm.One q) rest = StepsForm.First p q rest
step_of p (StepForm.Two q) rest = StepsForm.Second p q rest

step_of-text : (p : Pos) (step : StepForm) (rest : StepsForm) (k : List Lexed)
    → sign_at symbols.Dot p ∷ step_text step (steps_text rest k) ≡ steps_text (step_of p step rest) k
step_of-text p (StepForm.One q) rest k = refl
step_of-text p (StepForm.Two q) rest k = refl

stepped : {K : List Lexed → Type 0} (p : Pos) (ts : List Lexed) → Spelled step_text ts (λ k. Spelled steps_text k K) → Spelled steps_text (sign_at symbols.Dot p ∷ ts) K
stepped p ts f = spelled (λ x. sign_at symbols.Dot p ∷ x) (λ c. step_of p c.0 c.1) (λ c k. step_of-text p c.0 c.1 k) (joined f)

pub builds_steps : (w : Lexeme) → Built Steps' w
builds_steps (Sign symbols.Dot) p ts st = λ f. stepped p ts f
builds_steps w p ts st = tt

pub builds_atom : (w : Lexeme) → Built Atom' w
builds_atom (Name text) p ts st = λ f. spelled (λ x. name_at text p ∷ x) (λ c. AtomForm.Place (record { at = p; root = text; steps = c })) (λ c k. refl) f
builds_atom (Number value) p ts st = λ f. record { form = AtomForm.Number p value; rest = ts; parts = refl; more = f }
builds_atom (Sign symbols.True) p ts st = λ f. record { form = AtomForm.True p; rest = ts; parts = refl; more = f }
builds_atom (Sign symbols.False) p ts st = λ f. record { form = AtomForm.False p; rest = ts; parts = refl; more = f }
builds_atom (Sign symbols.OpenParen) p ts st = λ f. spelled (λ x. sign_at symbols.OpenParen p ∷ x) (λ c. AtomForm.Nothing p c) (λ c k. refl) f
builds_atom (Sign symbols.Null) p ts st = λ f. spelled (λ x. sign_at symbols.Null p ∷ x) (λ c. AtomForm.Null p c.open_at c.ty c.close_at) (λ c k. refl) f
builds_atom (Sign symbols.Default) p ts st = λ f. spelled (λ x. sign_at symbols.Default p ∷ x) (λ c. AtomForm.Default p c.open_at c.ty c.close_at) (λ c k. refl) f
builds_atom w p ts st = tt

-- an atom, and after it what makes it an expression
operated : {K : List Lexed → Type 0} (ts : List Lexed) → Spelled atom_text ts (λ k. (atom : AtomForm) → Spelled expr_text (atom_text atom k) K) → Spelled expr_text ts K
operated ts f = respelled f.parts (f.more f.form)

two_atoms : (ts : List Lexed) (st : List Expected) → Forest (Atom' ∷ TheMark symbols.Comma refl ∷ Atom' ∷ TheMark symbols.CloseParen refl ∷ st) ts → Has ExprParen' ts (Forest st)
two_atoms ts st f q = spelled (λ x. sign_at symbols.OpenParen q ∷ x) (λ c. ExprForm.Two q c.0.0.0 c.0.0.1 c.0.1 c.1) (λ c k. refl) (joined (joined (joined f)))

pub builds_expr : (w : Lexeme) → Built Expr' w
builds_expr (Sign symbols.Not) p ts st = λ f. spelled (λ x. sign_at symbols.Not p ∷ x) (λ c. ExprForm.Not p c) (λ c k. refl) f
builds_expr (Sign symbols.OpenParen) p ts st = λ f. f p
builds_expr w p ts st = builds_as false ts (next_atom w (OpTail' ∷ st)) (operated {K = Forest st} (tok w p ∷ ts)) (builds_atom w p ts (OpTail' ∷ st))

pub builds_expr_paren : (w : Lexeme) → Built ExprParen' w
builds_expr_paren (Sign symbols.CloseParen) p ts st = λ f q. f (AtomForm.Nothing q p)
builds_expr_paren w p ts st =
    let after = TheMark symbols.Comma refl ∷ Atom' ∷ TheMark symbols.CloseParen refl ∷ st in
    builds_as false ts (next_atom w after) (two_atoms (tok w p ∷ ts) st) (builds_atom w p ts after)

op_with : {K : List Lexed → Type 0} (op : OpForm) (p : Pos) (ts : List Lexed) → Spelled atom_text ts K
    → (atom : AtomForm) → Spelled expr_text (atom_text atom (sign_at (op_symbol op) p ∷ ts)) K
op_with op p ts f atom = spelled (λ x. atom_text atom (sign_at (op_symbol op) p ∷ x)) (λ c. ExprForm.Op atom op p c) (λ c k. refl) f

pub builds_op_tail : (w : Lexeme) → Built OpTail' w
builds_op_tail (Sign symbols.Plus) p ts st = λ f. op_with OpForm.Add p ts f
builds_op_tail (Sign symbols.Minus) p ts st = λ f. op_with OpForm.Sub p ts f
builds_op_tail (Sign symbols.Star) p ts st = λ f. op_with OpForm.Mul p ts f
builds_op_tail (Sign symbols.Less) p ts st = λ f. op_with OpForm.Lt p ts f
builds_op_tail (Sign symbols.Equal) p ts st = λ f. op_with OpForm.Eq p ts f
builds_op_tail (Sign symbols.NotEqual) p ts st = λ f. op_with OpForm.Ne p ts f
builds_op_tail (Sign symbols.And) p ts st = λ f. op_with OpForm.And p ts f
builds_op_tail (Sign symbols.Or) p ts st = λ f. op_with OpForm.Or p ts f
builds_op_tail w p ts st = tt

plain : {K : List Lexed → Type 0} (ts : List Lexed) → Spelled expr_text ts K → Spelled rhs_text ts K
plain ts f = record { form = RhsForm.Plain f.form; rest = f.rest; parts = f.parts; more = f.more }

pub builds_rhs : (w : Lexeme) → Built Rhs' w
builds_rhs (Sign symbols.Alloc) p ts st = λ f. spelled (λ x. sign_at symbols.Alloc p ∷ x) (λ c. RhsForm.Alloc p c.open_at c.ty c.close_at) (λ c k. refl) f
builds_rhs (Name text) p ts st = λ f. f p text
builds_rhs w p ts st = builds_as false ts (next_expr w st) (plain {K = Forest st} (tok w p ∷ ts)) (builds_expr w p ts st)

-- a name that an operator may follow
of_name : {K : List Lexed → Type 0} (ts : List Lexed) → ((atom : AtomForm) → Spelled expr_text (atom_text atom ts) K)
    → (p : Pos) (name : List ℕ) → Spelled rhs_text (name_at name p ∷ ts) K
of_name ts f p name = plain (name_at name p ∷ ts) (f (AtomForm.Place (record { at = p; root = name; steps = StepsForm.NoSteps })))

-- a name that steps follow
of_steps : (p : Pos) (ts : List Lexed) (st : List Expected) → Forest (Step' ∷ Steps' ∷ OpTail' ∷ st) ts → Has AfterName' (sign_at symbols.Dot p ∷ ts) (Forest st)
of_steps p ts st f q name =
    let steps : Spelled steps_text (sign_at symbols.Dot p ∷ ts) (Forest (OpTail' ∷ st)) = stepped p ts f in
    plain (name_at name q ∷ sign_at symbols.Dot p ∷ ts) (respelled (ap (λ x. name_at name q ∷ x) steps.parts) (steps.more (AtomForm.Place (record { at = q; root = name; steps = steps.form }))))

bounded_call : (p : Pos) (ts : List Lexed) (st : List Expected) → Forest (Bound' ∷ TheMark symbols.CloseBracket refl ∷ CallArgs' ∷ st) ts → Has AfterName' (sign_at symbols.OpenBracket p ∷ ts) (Forest st)
bounded_call p ts st f q name =
    spelled (λ x. name_at name q ∷ sign_at symbols.OpenBracket p ∷ x) (λ c. RhsForm.Call q name (CallBoundForm.Bound p c.0.0 c.0.1) c.1.0 c.1.1.0 c.1.1.1) (λ c k. refl) (joined (joined f))

call : (p : Pos) (ts : List Lexed) (st : List Expected) → Forest (Args' ∷ st) ts → Has AfterName' (sign_at symbols.OpenParen p ∷ ts) (Forest st)
call p ts st f q name = spelled (λ x. name_at name q ∷ sign_at symbols.OpenParen p ∷ x) (λ c. RhsForm.Call q name CallBoundForm.NoBound p c.0 c.1) (λ c k. refl) f

pub builds_after_name : (w : Lexeme) → Built AfterName' w
builds_after_name (Sign symbols.Dot) p ts st = λ f. of_steps p ts st f
builds_after_name (Sign symbols.OpenBracket) p ts st = λ f. bounded_call p ts st f
builds_after_name (Sign symbols.OpenParen) p ts st = λ f. call p ts st f
builds_after_name w p ts st = builds_as true ts (next_op_tail w st) (of_name {K = Forest st} (tok w p ∷ ts)) (builds_op_tail w p ts st)

fixed : (ts : List Lexed) (st : List Expected) → Has Small' ts (Forest st) → Has Bound' ts (Forest st)
fixed ts st f = spelled (λ x. x) (λ c. BoundForm.Fixed c.at c.value c.small) (λ c k. refl) f

pub builds_bound : (w : Lexeme) → Built Bound' w
builds_bound (Number value) p ts st = builds_as false ts _ (fixed (number_at value p ∷ ts) st) (builds_small (Number value) p ts st)
builds_bound (Name text) p ts st = λ f. f p text
builds_bound w p ts st = tt

less : (p : Pos) (ts : List Lexed) (st : List Expected) → Has Small' ts (Forest st) → Has BoundTail' (sign_at symbols.Minus p ∷ ts) (Forest st)
less p ts st f q name = spelled (λ x. name_at name q ∷ sign_at symbols.Minus p ∷ x) (λ c. BoundForm.Less q name p c.at c.value c.small) (λ c k. refl) f

pub builds_bound_tail : (w : Lexeme) → Built BoundTail' w
builds_bound_tail (Sign symbols.Minus) p ts st = λ f. less p ts st f
builds_bound_tail w p ts st = tt

pub builds_call_args : (w : Lexeme) → Built CallArgs' w
builds_call_args (Sign symbols.OpenParen) p ts st = λ f. spelled (λ x. sign_at symbols.OpenParen p ∷ x) (λ c. (p, c)) (λ c k. refl) f
builds_call_args w p ts st = tt

pub builds_args : (w : Lexeme) → Built Args' w
builds_args (Sign symbols.CloseParen) p ts st = λ f. record { form = (NamesForm.NoNames, p); rest = ts; parts = refl; more = f }
builds_args (Name text) p ts st = λ f. spelled (λ x. name_at text p ∷ x) (λ c. (NamesForm.Names p text c.0, c.1)) (λ c k. refl) f
builds_args w p ts st = tt

pub builds_more_args : (w : Lexeme) → Built MoreArgs' w
builds_more_args (Sign symbols.Comma) p ts st = λ f. spelled (λ x. sign_at symbols.Comma p ∷ x) (λ c. (MoreNamesForm.More p c.0.at c.0.name c.1.0, c.1.1)) (λ c k. refl) (joined f)
builds_more_args (Sign symbols.CloseParen) p ts st = λ f. record { form = (MoreNamesForm.NoMore, p); rest = ts; parts = refl; more = f }
builds_more_args w p ts st = tt
