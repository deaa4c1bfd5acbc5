-- The printed form of a type, a path, an expression or a right side spells its tokens.
use Rattle.std.proofs.Common.{List, ◌∷◌, codes, refl}
use Rattle.tw_text.specs.declared.place.Pos.{Pos}
use Rattle.tw_lex.specs.declared.symbol.Symbol.TheVariants as symbols
use Rattle.tw_parse.specs.Grammar as form
use Rattle.tw_parse.specs.Grammar.{TypeForm, type_text, StepsForm, steps_text, PathForm, path_text, AtomForm, atom_text, OpForm, op_symbol, ExprForm, expr_text, BoundForm, bound_text, CallBoundForm, call_bound_text, MoreNamesForm, more_names_text, NamesForm, names_text, RhsForm, rhs_text}
use Rattle.tw_parse.specs.Trees.{type_tree, steps_tree, path_tree, atom_tree, op_kind, expr_tree, bound_tree, call_bound_tree, more_names_tree, names_tree, rhs_tree}
use Rattle.tw_lex.specs.Tokens.{Lexed, sign_at}
use Rattle.tw_print.specs.Terms.{type_print, steps_print, path_print, atom_print, op_print, expr_print, bound_print, call_bound_print, more_names_print, names_print, rhs_print}
use Rattle.tw_print.proofs.Spelling.{Clear, Wordy, Short, Spelt, ◌▹◌, spelt_none, loose, tight}
use Rattle.tw_print.proofs.SpeltMarks.{edge_of, sign, name, number, space}

-- a comma between two items
pub comma : {p : Pos} {us : List Lexed} → Spelt Wordy Clear (codes ", ") (sign_at symbols.Comma p ∷ us) us
comma = sign symbols.Comma refl ▹ space

pub type_spelt : {us : List Lexed} (f : TypeForm) → Spelt Short Wordy (type_print (type_tree f)) (type_text f us) us
type_spelt (form.Uint p) = sign symbols.Uint refl
type_spelt (form.Bool p) = sign symbols.Bool refl
type_spelt (form.Named p text) = name text refl
type_spelt (form.Ptr p q to r) = (sign symbols.Ptr refl ▹ sign symbols.Less refl) ▹ type_spelt to ▹ tight (sign symbols.Greater refl)
type_spelt (form.Unit p q) = tight (sign symbols.OpenParen refl ▹ sign symbols.CloseParen refl)
type_spelt (form.Pair p first q second r) = sign symbols.OpenParen refl ▹ loose (type_spelt first) ▹ comma ▹ loose (type_spelt second) ▹ tight (sign symbols.CloseParen refl)

steps_spelt : {us : List Lexed} (f : StepsForm) → Spelt Wordy Wordy (steps_print (steps_tree f)) (steps_text f us) us
steps_spelt form.NoSteps = spelt_none
steps_spelt (form.First p q rest) = sign symbols.Dot refl ▹ number 1 ▹ steps_spelt rest
steps_spelt (form.Second p q rest) = sign symbols.Dot refl ▹ number 2 ▹ steps_spelt rest

pub path_spelt : {us : List Lexed} (f : PathForm) → Spelt Clear Wordy (path_print (path_tree f)) (path_text f us) us
path_spelt f = name f.root refl ▹ steps_spelt f.steps

atom_spelt : {us : List Lexed} (f : AtomForm) → Spelt Clear Wordy (atom_print (atom_tree f)) (atom_text f us) us
atom_spelt (form.Place path) = path_spelt path
atom_spelt (form.Number p value) = number value
atom_spelt (form.True p) = sign symbols.True refl
atom_spelt (form.False p) = sign symbols.False refl
atom_spelt (form.Nothing p q) = tight (sign symbols.OpenParen refl ▹ sign symbols.CloseParen refl)
atom_spelt (form.Null p q to r) = (sign symbols.Null refl ▹ sign symbols.Less refl) ▹ type_spelt to ▹ tight (sign symbols.Greater refl)
atom_spelt (form.Default p q of r) = (sign symbols.Default refl ▹ sign symbols.Less refl) ▹ type_spelt of ▹ tight (sign symbols.Greater refl)

op_spelt : {p : Pos} {us : List Lexed} (f : OpForm) → Spelt Clear (edge_of (op_symbol f)) (op_print (op_kind f)) (sign_at (op_symbol f) p ∷ us) us
op_spelt form.Add = sign symbols.Plus refl
op_spelt form.Sub = sign symbols.Minus refl
op_spelt form.Mul = sign symbols.Star refl
op_spelt form.Lt = sign symbols.Less refl
op_spelt form.Eq = sign symbols.Equal refl
op_spelt form.Ne = sign symbols.NotEqual refl
op_spelt form.And = sign symbols.And refl
op_spelt form.Or = sign symbols.Or refl

expr_spelt : {us : List Lexed} (f : ExprForm) → Spelt Clear Wordy (expr_print (expr_tree f)) (expr_text f us) us
expr_spelt (form.Not p atom) = (sign symbols.Not refl ▹ space) ▹ atom_spelt atom
expr_spelt (form.Two p first q second r) = sign symbols.OpenParen refl ▹ atom_spelt first ▹ comma ▹ atom_spelt second ▹ tight (sign symbols.CloseParen refl)
expr_spelt (form.One atom) = atom_spelt atom
expr_spelt (form.Op left op p right) = atom_spelt left ▹ space ▹ op_spelt op ▹ space ▹ atom_spelt right

bound_spelt : {us : List Lexed} (f : BoundForm) → Spelt Clear Wordy (bound_print (bound_tree f)) (bound_text f us) us
bound_spelt (form.Fixed p value small) = number value
bound_spelt (form.Named p text) = name text refl
bound_spelt (form.Less p text q r value small) = name text refl ▹ (space ▹ sign symbols.Minus refl ▹ space) ▹ number value

call_bound_spelt : {us : List Lexed} (f : CallBoundForm) → Spelt Wordy Wordy (call_bound_print (call_bound_tree f)) (call_bound_text f us) us
call_bound_spelt form.NoBound = spelt_none
call_bound_spelt (form.Bound p bound q) = sign symbols.OpenBracket refl ▹ bound_spelt bound ▹ tight (sign symbols.CloseBracket refl)

more_names_spelt : {us : List Lexed} (f : MoreNamesForm) → Spelt Wordy Wordy (more_names_print (more_names_tree f)) (more_names_text f us) us
more_names_spelt form.NoMore = spelt_none
more_names_spelt (form.More q p text rest) = comma ▹ name text refl ▹ more_names_spelt rest

names_spelt : {us : List Lexed} (f : NamesForm) → Spelt Clear Wordy (names_print (names_tree f)) (names_text f us) us
names_spelt form.NoNames = tight spelt_none
names_spelt (form.Names p text rest) = name text refl ▹ more_names_spelt rest

pub rhs_spelt : {us : List Lexed} (f : RhsForm) → Spelt Clear Wordy (rhs_print (rhs_tree f)) (rhs_text f us) us
rhs_spelt (form.Alloc p q of r) = (sign symbols.Alloc refl ▹ sign symbols.Less refl) ▹ type_spelt of ▹ tight (sign symbols.Greater refl)
rhs_spelt (form.Call p callee bound q args r) = name callee refl ▹ call_bound_spelt bound ▹ sign symbols.OpenParen refl ▹ names_spelt args ▹ tight (sign symbols.CloseParen refl)
rhs_spelt (form.Plain expr) = expr_spelt expr
