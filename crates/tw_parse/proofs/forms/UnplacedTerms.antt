-- Types, expressions and right sides with every place set to no place, and what becomes of their tokens and trees.
use Rattle.std.proofs.Common.{◌≡◌, refl, ap, List, ◌∷◌, map, Some}
use Rattle.std.specs.Option.{option_map}
use Rattle.tw_syntax.specs.Unplaced.{no_place, unplaced_name, unplaced_path, unplaced_written, unplaced_atom, unplaced_expr, unplaced_bound, unplaced_rhs}
use Rattle.tw_syntax.specs.Types as types
use Rattle.tw_syntax.specs.Terms as terms
use Rattle.tw_lex.specs.Tokens.{Lexed}
use Rattle.tw_parse.specs.Grammar.{TypeForm, type_text, StepsForm, steps_text, PathForm, path_text, AtomForm, atom_text, ExprForm, expr_text, BoundForm, bound_text, CallBoundForm, call_bound_text, MoreNamesForm, more_names_text, NamesForm, names_text, RhsForm, rhs_text}
use Rattle.tw_parse.specs.Trees.{named, op_kind, type_tree, steps_tree, path_tree, atom_place, atom_tree, expr_tree, bound_tree, call_bound_tree, more_names_tree, names_tree, rhs_tree}

-- a token without its place
abbrev pub unplaced_tok : Lexed → Lexed
unplaced_tok t = record { lexeme = t.lexeme; at = no_place }

-- before tokens without places the first text is the second one without places
abbrev pub Unplaces : (List Lexed → List Lexed) → (List Lexed → List Lexed) → Type 0
Unplaces text placed = (k l : List Lexed) → k ≡ map unplaced_tok l → text k ≡ map unplaced_tok (placed l)

-- The forms without their places.

abbrev pub unplaced_type_form : TypeForm → TypeForm
unplaced_type_form (TypeForm.Uint p) = TypeForm.Uint no_place
unplaced_type_form (TypeForm.Bool p) = TypeForm.Bool no_place
unplaced_type_form (TypeForm.Named p name) = TypeForm.Named no_place name
unplaced_type_form (TypeForm.Ptr p q to r) = TypeForm.Ptr no_place no_place (unplaced_type_form to) no_place
unplaced_type_form (TypeForm.Unit p q) = TypeForm.Unit no_place no_place
unplaced_type_form (TypeForm.Pair p first q second r) = TypeForm.Pair no_place (unplaced_type_form first) no_place (unplaced_type_form second) no_place

abbrev pub unplaced_steps_form : StepsForm → StepsForm
unplaced_steps_form StepsForm.NoSteps = StepsForm.NoSteps
unplaced_steps_form (StepsForm.First p q rest) = StepsForm.First no_place no_place (unplaced_steps_form rest)
unplaced_steps_form (StepsForm.Second p q rest) = StepsForm.Second no_place no_place (unplaced_steps_form rest)

abbrev pub unplaced_path_form : PathForm → PathForm
unplaced_path_form path = record { at = no_place; root = path.root; steps = unplaced_steps_form path.steps }

abbrev pub unplaced_atom_form : AtomForm → AtomForm
unplaced_atom_form (AtomForm.Place path) = AtomForm.Place (unplaced_path_form path)
unplaced_atom_form (AtomForm.Number p value) = AtomForm.Number no_place value
unplaced_atom_form (AtomForm.True p) = AtomForm.True no_place
unplaced_atom_form (AtomForm.False p) = AtomForm.False no_place
unplaced_atom_form (AtomForm.Nothing p q) = AtomForm.Nothing no_place no_place
unplaced_atom_form (AtomForm.Null p q to r) = AtomForm.Null no_place no_place (unplaced_type_form to) no_place
unplaced_atom_form (AtomForm.Default p q of r) = AtomForm.Default no_place no_place (unplaced_type_form of) no_place

abbrev pub unplaced_expr_form : ExprForm → ExprForm
unplaced_expr_form (ExprForm.Not p atom) = ExprForm.Not no_place (unplaced_atom_form atom)
unplaced_expr_form (ExprForm.Two p first q second r) = ExprForm.Two no_place (unplaced_atom_form first) no_place (unplaced_atom_form second) no_place
unplaced_expr_form (ExprForm.One atom) = ExprForm.One (unplaced_atom_form atom)
unplaced_expr_form (ExprForm.Op left op p right) = ExprForm.Op (unplaced_atom_form left) op no_place (unplaced_atom_form right)

abbrev pub unplaced_bound_form : BoundForm → BoundForm
unplaced_bound_form (BoundForm.Fixed p value small) = BoundForm.Fixed no_place value small
unplaced_bound_form (BoundForm.Named p name) = BoundForm.Named no_place name
unplaced_bound_form (BoundForm.Less p name q r value small) = BoundForm.Less no_place name no_place no_place value small

abbrev pub unplaced_call_bound_form : CallBoundForm → CallBoundForm
unplaced_call_bound_form CallBoundForm.NoBound = CallBoundForm.NoBound
unplaced_call_bound_form (CallBoundForm.Bound p bound q) = CallBoundForm.Bound no_place (unplaced_bound_form bound) no_place

abbrev pub unplaced_more_names_form : MoreNamesForm → MoreNamesForm
unplaced_more_names_form MoreNamesForm.NoMore = MoreNamesForm.NoMore
unplaced_more_names_form (MoreNamesForm.More q p name rest) = MoreNamesForm.More no_place no_place name (unplaced_more_names_form rest)

abbrev pub unplaced_names_form : NamesForm → NamesForm
unplaced_names_form NamesForm.NoNames = NamesForm.NoNames
unplaced_names_form (NamesForm.Names p name rest) = NamesForm.Names no_place name (unplaced_more_names_form rest)

abbrev pub unplaced_rhs_form : RhsForm → RhsForm
unplaced_rhs_form (RhsForm.Alloc p q of r) = RhsForm.Alloc no_place no_place (unplaced_type_form of) no_place
unplaced_rhs_form (RhsForm.Call p callee bound q args r) = RhsForm.Call no_place callee (unplaced_call_bound_form bound) no_place (unplaced_names_form args) no_place
unplaced_rhs_form (RhsForm.Plain expr) = RhsForm.Plain (unplaced_expr_form expr)

-- the same tokens after a token
pub after : {t : Lexed} {k l : List Lexed} → k ≡ l → t ∷ k ≡ t ∷ l
after {t = t} e = ap (λ k. t ∷ k) e

-- The text of a form without its places is the form's text without places.

pub type_text-unplaced : (c : TypeForm) → Unplaces (type_text (unplaced_type_form c)) (type_text c)
type_text-unplaced (TypeForm.Ptr p q to r) k l e = after (after (type_text-unplaced to _ _ (after e)))
type_text-unplaced (TypeForm.Unit p q) k l e = after (after e)
type_text-unplaced (TypeForm.Pair p first q second r) k l e = after (type_text-unplaced first _ _ (after (type_text-unplaced second _ _ (after e))))
type_text-unplaced c k l e = after e

pub steps_text-unplaced : (c : StepsForm) → Unplaces (steps_text (unplaced_steps_form c)) (steps_text c)
steps_text-unplaced StepsForm.NoSteps k l e = e
steps_text-unplaced (StepsForm.First p q rest) k l e = after (after (steps_text-unplaced rest k l e))
steps_text-unplaced (StepsForm.Second p q rest) k l e = after (after (steps_text-unplaced rest k l e))

pub path_text-unplaced : (c : PathForm) → Unplaces (path_text (unplaced_path_form c)) (path_text c)
path_text-unplaced c k l e = after (steps_text-unplaced c.steps k l e)

pub atom_text-unplaced : (c : AtomForm) → Unplaces (atom_text (unplaced_atom_form c)) (atom_text c)
atom_text-unplaced (AtomForm.Place path) k l e = path_text-unplaced path k l e
atom_text-unplaced (AtomForm.Nothing p q) k l e = after (after e)
atom_text-unplaced (AtomForm.Null p q to r) k l e = after (after (type_text-unplaced to _ _ (after e)))
atom_text-unplaced (AtomForm.Default p q of r) k l e = after (after (type_text-unplaced of _ _ (after e)))
atom_text-unplaced c k l e = after e

pub expr_text-unplaced : (c : ExprForm) → Unplaces (expr_text (unplaced_expr_form c)) (expr_text c)
expr_text-unplaced (ExprForm.Not p atom) k l e = after (atom_text-unplaced atom k l e)
expr_text-unplaced (ExprForm.Two p first q second r) k l e = after (atom_text-unplaced first _ _ (after (atom_text-unplaced second _ _ (after e))))
expr_text-unplaced (ExprForm.One atom) k l e = atom_text-unplaced atom k l e
expr_text-unplaced (ExprForm.Op left op p right) k l e = atom_text-unplaced left _ _ (after (atom_text-unplaced right k l e))

pub bound_text-unplaced : (c : BoundForm) → Unplaces (bound_text (unplaced_bound_form c)) (bound_text c)
bound_text-unplaced (BoundForm.Less p name q r value small) k l e = after (after (after e))
bound_text-unplaced c k l e = after e

pub call_bound_text-unplaced : (c : CallBoundForm) → Unplaces (call_bound_text (unplaced_call_bound_form c)) (call_bound_text c)
call_bound_text-unplaced CallBoundForm.NoBound k l e = e
call_bound_text-unplaced (CallBoundForm.Bound p bound q) k l e = after (bound_text-unplaced bound _ _ (after e))

pub more_names_text-unplaced : (c : MoreNamesForm) → Unplaces (more_names_text (unplaced_more_names_form c)) (more_names_text c)
more_names_text-unplaced MoreNamesForm.NoMore k l e = e
more_names_text-unplaced (MoreNamesForm.More q p name rest) k l e = after (after (more_names_text-unplaced rest k l e))

pub names_text-unplaced : (c : NamesForm) → Unplaces (names_text (unplaced_names_form c)) (names_text c)
names_text-unplaced NamesForm.NoNames k l e = e
names_text-unplaced (NamesForm.Names p name rest) k l e = after (more_names_text-unplaced rest k l e)

pub rhs_text-unplaced : (c : RhsForm) → Unplaces (rhs_text (unplaced_rhs_form c)) (rhs_text c)
rhs_text-unplaced (RhsForm.Alloc p q of r) k l e = after (after (type_text-unplaced of _ _ (after e)))
rhs_text-unplaced (RhsForm.Call p callee bound q args r) k l e =
    after (call_bound_text-unplaced bound _ _ (after (names_text-unplaced args _ _ (after e))))
rhs_text-unplaced (RhsForm.Plain expr) k l e = expr_text-unplaced expr k l e

-- The tree of a form without its places is the form's tree without places.

pub type_tree-unplaced : (c : TypeForm) → type_tree (unplaced_type_form c) ≡ unplaced_written (type_tree c)
type_tree-unplaced (TypeForm.Ptr p q to r) = ap (types.PtrType no_place) (type_tree-unplaced to)
type_tree-unplaced (TypeForm.Pair p first q second r) = λ i. types.PairType no_place (type_tree-unplaced first i) (type_tree-unplaced second i)
type_tree-unplaced c = refl

pub steps_tree-unplaced : (c : StepsForm) → steps_tree (unplaced_steps_form c) ≡ steps_tree c
steps_tree-unplaced StepsForm.NoSteps = refl
steps_tree-unplaced (StepsForm.First p q rest) = λ i. 1 ∷ steps_tree-unplaced rest i
steps_tree-unplaced (StepsForm.Second p q rest) = λ i. 2 ∷ steps_tree-unplaced rest i

pub path_tree-unplaced : (c : PathForm) → path_tree (unplaced_path_form c) ≡ unplaced_path (path_tree c)
path_tree-unplaced c = λ i. record { root = record { text = c.root; at = no_place }; steps = steps_tree-unplaced c.steps i }

pub atom_tree-unplaced : (c : AtomForm) → atom_tree (unplaced_atom_form c) ≡ unplaced_atom (atom_tree c)
atom_tree-unplaced (AtomForm.Place path) = ap (terms.PlaceAtom no_place) (path_tree-unplaced path)
atom_tree-unplaced (AtomForm.Null p q to r) = ap (terms.NullAtom no_place) (type_tree-unplaced to)
atom_tree-unplaced (AtomForm.Default p q of r) = ap (terms.ZeroAtom no_place) (type_tree-unplaced of)
atom_tree-unplaced c = refl

pub atom_place-unplaced : (c : AtomForm) → atom_place (unplaced_atom_form c) ≡ no_place
atom_place-unplaced (AtomForm.Place path) = refl
atom_place-unplaced c = refl

pub expr_tree-unplaced : (c : ExprForm) → expr_tree (unplaced_expr_form c) ≡ unplaced_expr (expr_tree c)
expr_tree-unplaced (ExprForm.Not p atom) = ap (terms.NotExpr no_place) (atom_tree-unplaced atom)
expr_tree-unplaced (ExprForm.Two p first q second r) = λ i. terms.TwoExpr no_place (atom_tree-unplaced first i) (atom_tree-unplaced second i)
expr_tree-unplaced (ExprForm.One atom) = λ i. terms.OneExpr (atom_place-unplaced atom i) (atom_tree-unplaced atom i)
expr_tree-unplaced (ExprForm.Op left op p right) =
    λ i. terms.OpExpr (atom_place-unplaced left i) (op_kind op) (atom_tree-unplaced left i) (atom_tree-unplaced right i)

pub bound_tree-unplaced : (c : BoundForm) → bound_tree (unplaced_bound_form c) ≡ unplaced_bound (bound_tree c)
bound_tree-unplaced (BoundForm.Fixed p value small) = refl
bound_tree-unplaced c = refl

pub call_bound_tree-unplaced : (c : CallBoundForm) → call_bound_tree (unplaced_call_bound_form c) ≡ option_map unplaced_bound (call_bound_tree c)
call_bound_tree-unplaced CallBoundForm.NoBound = refl
call_bound_tree-unplaced (CallBoundForm.Bound p bound q) = ap Some (bound_tree-unplaced bound)

pub more_names_tree-unplaced : (c : MoreNamesForm) → more_names_tree (unplaced_more_names_form c) ≡ map unplaced_name (more_names_tree c)
more_names_tree-unplaced MoreNamesForm.NoMore = refl
more_names_tree-unplaced (MoreNamesForm.More q p name rest) = λ i. named name no_place ∷ more_names_tree-unplaced rest i

pub names_tree-unplaced : (c : NamesForm) → names_tree (unplaced_names_form c) ≡ map unplaced_name (names_tree c)
names_tree-unplaced NamesForm.NoNames = refl
names_tree-unplaced (NamesForm.Names p name rest) = λ i. named name no_place ∷ more_names_tree-unplaced rest i

pub rhs_tree-unplaced : (c : RhsForm) → rhs_tree (unplaced_rhs_form c) ≡ unplaced_rhs (rhs_tree c)
rhs_tree-unplaced (RhsForm.Alloc p q of r) = ap terms.AllocRhs (type_tree-unplaced of)
rhs_tree-unplaced (RhsForm.Call p callee bound q args r) =
    λ i. terms.CallRhs (named callee no_place) (call_bound_tree-unplaced bound i) (names_tree-unplaced args i)
rhs_tree-unplaced (RhsForm.Plain expr) = ap terms.ExprRhs (expr_tree-unplaced expr)
