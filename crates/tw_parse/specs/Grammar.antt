-- The grammar: each rule as a data type of its forms, with the place of every token, and its tokens before what follows.
use Rattle.std.specs.Prelude.{ℕ, ◌≤◌, List, ◌∷◌}
use Rattle.tw_text.specs.declared.place.Pos.{Pos}
use Rattle.tw_lex.specs.declared.symbol.Symbol.{Symbol}
use Rattle.tw_lex.specs.declared.symbol.Symbol.TheVariants as symbols
use Rattle.tw_lex.specs.Tokens.{Lexed, name_at, number_at, sign_at}

-- type = "uint" | "bool" | name | "ptr" "<" type ">" | "(" ")" | "(" type "," type ")"
pub data TypeForm : Type 0 where
  Uint : (p : Pos) → TypeForm
  Bool : (p : Pos) → TypeForm
  Named : (p : Pos) (name : List ℕ) → TypeForm
  Ptr : (p q : Pos) (to : TypeForm) (r : Pos) → TypeForm
  Unit : (p q : Pos) → TypeForm
  Pair : (p : Pos) (first : TypeForm) (q : Pos) (second : TypeForm) (r : Pos) → TypeForm

abbrev pub type_text : TypeForm → List Lexed → List Lexed
type_text (Uint p) k = sign_at symbols.Uint p ∷ k
type_text (Bool p) k = sign_at symbols.Bool p ∷ k
type_text (Named p name) k = name_at name p ∷ k
type_text (Ptr p q to r) k = sign_at symbols.Ptr p ∷ sign_at symbols.Less q ∷ type_text to (sign_at symbols.Greater r ∷ k)
type_text (Unit p q) k = sign_at symbols.OpenParen p ∷ sign_at symbols.CloseParen q ∷ k
type_text (Pair p first q second r) k =
    sign_at symbols.OpenParen p ∷ type_text first (sign_at symbols.Comma q ∷ type_text second (sign_at symbols.CloseParen r ∷ k))

-- path = name { "." ( "1" | "2" ) }
pub data StepsForm : Type 0 where
  NoSteps : StepsForm
  First : (p q : Pos) (rest : StepsForm) → StepsForm
  Second : (p q : Pos) (rest : StepsForm) → StepsForm

pub record PathForm : Type 0 where
  pub at : Pos
  pub root : List ℕ
  pub steps : StepsForm

abbrev pub steps_text : StepsForm → List Lexed → List Lexed
steps_text NoSteps k = k
steps_text (First p q rest) k = sign_at symbols.Dot p ∷ number_at 1 q ∷ steps_text rest k
steps_text (Second p q rest) k = sign_at symbols.Dot p ∷ number_at 2 q ∷ steps_text rest k

abbrev pub path_text : PathForm → List Lexed → List Lexed
path_text path k = name_at path.root path.at ∷ steps_text path.steps k

-- atom = path | number | "true" | "false" | "(" ")" | "null" "<" type ">" | "default" "<" type ">"
pub data AtomForm : Type 0 where
  Place : (path : PathForm) → AtomForm
  Number : (p : Pos) (value : ℕ) → AtomForm
  True : (p : Pos) → AtomForm
  False : (p : Pos) → AtomForm
  Nothing : (p q : Pos) → AtomForm
  Null : (p q : Pos) (to : TypeForm) (r : Pos) → AtomForm
  Default : (p q : Pos) (of : TypeForm) (r : Pos) → AtomForm

abbrev pub atom_text : AtomForm → List Lexed → List Lexed
atom_text (Place path) k = path_text path k
atom_text (Number p value) k = number_at value p ∷ k
atom_text (True p) k = sign_at symbols.True p ∷ k
atom_text (False p) k = sign_at symbols.False p ∷ k
atom_text (Nothing p q) k = sign_at symbols.OpenParen p ∷ sign_at symbols.CloseParen q ∷ k
atom_text (Null p q to r) k = sign_at symbols.Null p ∷ sign_at symbols.Less q ∷ type_text to (sign_at symbols.Greater r ∷ k)
atom_text (Default p q of r) k = sign_at symbols.Default p ∷ sign_at symbols.Less q ∷ type_text of (sign_at symbols.Greater r ∷ k)

-- op = "+" | "-" | "*" | "<" | "==" | "!=" | "&&" | "||"
pub data OpForm : Type 0 where
  Add : OpForm
  Sub : OpForm
  Mul : OpForm
  Lt : OpForm
  Eq : OpForm
  Ne : OpForm
  And : OpForm
  Or : OpForm

abbrev pub op_symbol : OpForm → Symbol
op_symbol Add = symbols.Plus
op_symbol Sub = symbols.Minus
op_symbol Mul = symbols.Star
op_symbol Lt = symbols.Less
op_symbol Eq = symbols.Equal
op_symbol Ne = symbols.NotEqual
op_symbol And = symbols.And
op_symbol Or = symbols.Or

-- expr = "not" atom | "(" atom "," atom ")" | atom [ op atom ]
pub data ExprForm : Type 0 where
  Not : (p : Pos) (atom : AtomForm) → ExprForm
  Two : (p : Pos) (first : AtomForm) (q : Pos) (second : AtomForm) (r : Pos) → ExprForm
  One : (atom : AtomForm) → ExprForm
  Op : (left : AtomForm) (op : OpForm) (p : Pos) (right : AtomForm) → ExprForm

abbrev pub expr_text : ExprForm → List Lexed → List Lexed
expr_text (Not p atom) k = sign_at symbols.Not p ∷ atom_text atom k
expr_text (Two p first q second r) k = sign_at symbols.OpenParen p ∷ atom_text first (sign_at symbols.Comma q ∷ atom_text second (sign_at symbols.CloseParen r ∷ k))
expr_text (One atom) k = atom_text atom k
expr_text (Op left op p right) k = atom_text left (sign_at (op_symbol op) p ∷ atom_text right k)

-- bound = number | name [ "-" number ], with numbers of at most 255
pub data BoundForm : Type 0 where
  Fixed : (p : Pos) (value : ℕ) (small : value ≤ 255) → BoundForm
  Named : (p : Pos) (name : List ℕ) → BoundForm
  Less : (p : Pos) (name : List ℕ) (q r : Pos) (value : ℕ) (small : value ≤ 255) → BoundForm

-- [ "[" bound "]" ]
pub data CallBoundForm : Type 0 where
  NoBound : CallBoundForm
  Bound : (p : Pos) (bound : BoundForm) (q : Pos) → CallBoundForm

-- { "," name }
pub data MoreNamesForm : Type 0 where
  NoMore : MoreNamesForm
  More : (q p : Pos) (name : List ℕ) (rest : MoreNamesForm) → MoreNamesForm

-- [ name { "," name } ]
pub data NamesForm : Type 0 where
  NoNames : NamesForm
  Names : (p : Pos) (name : List ℕ) (rest : MoreNamesForm) → NamesForm

-- rhs = "alloc" "<" type ">" | call | expr, with call = name [ "[" bound "]" ] "(" [ name { "," name } ] ")"
pub data RhsForm : Type 0 where
  Alloc : (p q : Pos) (of : TypeForm) (r : Pos) → RhsForm
  Call : (p : Pos) (callee : List ℕ) (bound : CallBoundForm) (q : Pos) (args : NamesForm) (r : Pos) → RhsForm
  Plain : (expr : ExprForm) → RhsForm

abbrev pub bound_text : BoundForm → List Lexed → List Lexed
bound_text (Fixed p value small) k = number_at value p ∷ k
bound_text (Named p name) k = name_at name p ∷ k
bound_text (Less p name q r value small) k = name_at name p ∷ sign_at symbols.Minus q ∷ number_at value r ∷ k

abbrev pub call_bound_text : CallBoundForm → List Lexed → List Lexed
call_bound_text NoBound k = k
call_bound_text (Bound p bound q) k = sign_at symbols.OpenBracket p ∷ bound_text bound (sign_at symbols.CloseBracket q ∷ k)

abbrev pub more_names_text : MoreNamesForm → List Lexed → List Lexed
more_names_text NoMore k = k
more_names_text (More q p name rest) k = sign_at symbols.Comma q ∷ name_at name p ∷ more_names_text rest k

abbrev pub names_text : NamesForm → List Lexed → List Lexed
names_text NoNames k = k
names_text (Names p name rest) k = name_at name p ∷ more_names_text rest k

abbrev pub rhs_text : RhsForm → List Lexed → List Lexed
rhs_text (Alloc p q of r) k = sign_at symbols.Alloc p ∷ sign_at symbols.Less q ∷ type_text of (sign_at symbols.Greater r ∷ k)
rhs_text (Call p callee bound q args r) k =
    name_at callee p ∷ call_bound_text bound (sign_at symbols.OpenParen q ∷ names_text args (sign_at symbols.CloseParen r ∷ k))
rhs_text (Plain expr) k = expr_text expr k
