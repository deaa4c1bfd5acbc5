-- What types, paths, atoms, expressions and right sides take from the tokens. `room` says how many more brackets may open.
use Rattle.tw_parse.specs.Trees.{named}
use Rattle.std.specs.Prelude.{ℕ, zero, suc, Bool, ◌&&◌, ◌||◌, if◌then◌else◌, List, [], ◌∷◌, Option, Some, None, Ok, Err, ◌≡◌, codes, refl}
use Rattle.tw_text.specs.declared.place.Pos.{Pos}
use Rattle.tw_lex.specs.declared.symbol.Symbol.TheVariants as symbols
use Rattle.tw_parse.specs.declared.error.Rejection.TheVariants.{Syntax, Nesting}
use Rattle.tw_syntax.specs.declared.term.OpKind.{OpKind}
use Rattle.tw_syntax.specs.declared.term.OpKind.TheVariants as kind
use Rattle.tw_syntax.specs.Names.{NameTree, PathTree}
use Rattle.tw_syntax.specs.Types.{WrittenTree, UnitType, UintType, BoolType, PairType, PtrType, NamedType}
use Rattle.tw_syntax.specs.Terms.{AtomTree, PlaceAtom, NumberAtom, TrueAtom, FalseAtom, UnitAtom, NullAtom, ZeroAtom, ExprTree, OneExpr, TwoExpr, NotExpr, OpExpr, BoundTree, FixedBound, SameBound, LessBound, RhsTree, ExprRhs, CallRhs, AllocRhs}
use Rattle.tw_lex.specs.Tokens.{Lexed, name_at, sign_at}
use Rattle.tw_lex.specs.Cursors.{after_first}
use Rattle.tw_parse.specs.reading.Steps.{Reader, ◌>>=◌, leads, leads_name, leads_number, place_at, take_symbol, take_open, bracketed_with, take_name, take_number, take_bound_number, take_component, all_at}

-- "<" type ">"
unfoldable pub type_argument_with : Reader WrittenTree → ℕ → Reader WrittenTree
type_argument_with inner room ts = bracketed_with symbols.Less symbols.Greater inner room ts

-- "ptr" "<" type ">"
unfoldable pub ptr_with : Reader WrittenTree → ℕ → Reader WrittenTree
ptr_with inner room ts = do
  at ← take_symbol symbols.Ptr ts
  to ← type_argument_with inner room at.1
  Ok (PtrType at.0 to.0, to.1)

-- type "," type ")", after a "(" at a place
unfoldable pub pair_with : Reader WrittenTree → Pos → Reader WrittenTree
pair_with inner at ts = do
  first ← inner ts
  comma ← take_symbol symbols.Comma first.1
  second ← inner comma.1
  close ← take_symbol symbols.CloseParen second.1
  Ok (PairType at first.0 second.0, close.1)

-- "(" ")" | "(" type "," type ")"
unfoldable pub paren_with : Reader WrittenTree → ℕ → Reader WrittenTree
paren_with inner room ts = do
  begin ← take_open symbols.OpenParen room ts
  if leads symbols.CloseParen begin.1 then (do
    close ← take_symbol symbols.CloseParen begin.1
    Ok (UnitType begin.0, close.1)) else pair_with inner begin.0 begin.1

-- "uint" | "bool" | name
unfoldable pub plain_type_at : Reader WrittenTree
plain_type_at ts = if leads symbols.Uint ts then (do
  at ← take_symbol symbols.Uint ts
  Ok (UintType at.0, at.1))
    else if leads symbols.Bool ts then (do
      at ← take_symbol symbols.Bool ts
      Ok (BoolType at.0, at.1))
    else (do
      name ← take_name ts
      Ok (NamedType name.0.at name.0.text, name.1))

unfoldable pub type_with : Reader WrittenTree → ℕ → Reader WrittenTree
type_with inner room ts = if leads symbols.Ptr ts then ptr_with inner room ts
    else if leads symbols.OpenParen ts then paren_with inner room ts
    else plain_type_at ts

-- a type; one more than the room is given, so that types in brackets have it
unfoldable pub type_at : ℕ → Reader WrittenTree
type_at zero ts = Err (Nesting 0)
type_at (suc room) ts = type_with (type_at room) room ts

-- "." ( "1" | "2" )
unfoldable pub step_at : Reader ℕ
step_at ts = do
  dot ← take_symbol symbols.Dot ts
  take_component dot.1

-- name { "." ( "1" | "2" ) }
unfoldable pub path_at : Reader PathTree
path_at ts = do
  root ← take_name ts
  steps ← all_at (leads symbols.Dot) step_at root.1
  Ok (record { root = root.0; steps = steps.0 }, steps.1)

-- "(" ")"
unfoldable pub unit_at : ℕ → Reader AtomTree
unit_at room ts = do
  begin ← take_open symbols.OpenParen room ts
  close ← take_symbol symbols.CloseParen begin.1
  Ok (UnitAtom begin.0, close.1)

-- "null" "<" type ">"
unfoldable pub null_at : ℕ → Reader AtomTree
null_at room ts = do
  at ← take_symbol symbols.Null ts
  to ← type_argument_with (type_at room) room at.1
  Ok (NullAtom at.0 to.0, to.1)

-- "default" "<" type ">"
unfoldable pub zero_at : ℕ → Reader AtomTree
zero_at room ts = do
  at ← take_symbol symbols.Default ts
  of ← type_argument_with (type_at room) room at.1
  Ok (ZeroAtom at.0 of.0, of.1)

-- path | number | "true" | "false"
unfoldable pub plain_atom_at : Reader AtomTree
plain_atom_at ts = if leads symbols.True ts then (do
  at ← take_symbol symbols.True ts
  Ok (TrueAtom at.0, at.1))
    else if leads symbols.False ts then (do
      at ← take_symbol symbols.False ts
      Ok (FalseAtom at.0, at.1))
    else if leads_number ts then (do
      at ← place_at ts
      number ← take_number ts
      Ok (NumberAtom at number.0, number.1))
    else (do
      path ← path_at ts
      Ok (PlaceAtom path.0.root.at path.0, path.1))

unfoldable pub atom_with : ℕ → Reader AtomTree
atom_with room ts = if leads symbols.OpenParen ts then unit_at room ts
    else if leads symbols.Null ts then null_at room ts
    else if leads symbols.Default ts then zero_at room ts
    else plain_atom_at ts

-- an atom; one more than the room is given
unfoldable pub atom_at : ℕ → Reader AtomTree
atom_at zero ts = Err (Nesting 0)
atom_at (suc room) ts = atom_with room ts

-- the operator that the first token is
abbrev pub op_of : List Lexed → Option OpKind
op_of ts =
    if leads symbols.Plus ts then Some kind.Add
    else if leads symbols.Minus ts then Some kind.Sub
    else if leads symbols.Star ts then Some kind.Mul
    else if leads symbols.Less ts then Some kind.Lt
    else if leads symbols.Equal ts then Some kind.Eq
    else if leads symbols.NotEqual ts then Some kind.Ne
    else if leads symbols.And ts then Some kind.And
    else if leads symbols.Or ts then Some kind.Or
    else None

-- [ op atom ], after an atom whose first token has this place
abbrev pub operand_at : Option OpKind → Pos → AtomTree → ℕ → Reader ExprTree
operand_at None at left room ts = Ok (OneExpr at left, ts)
operand_at (Some op) at left room ts = do
  right ← atom_at (suc room) (after_first ts)
  Ok (OpExpr at op left right.0, right.1)

unfoldable pub op_at : Pos → AtomTree → ℕ → Reader ExprTree
op_at at left room ts = operand_at (op_of ts) at left room ts

-- "not" atom
unfoldable pub not_at : ℕ → Reader ExprTree
not_at room ts = do
  at ← take_symbol symbols.Not ts
  atom ← atom_at (suc room) at.1
  Ok (NotExpr at.0 atom.0, atom.1)

-- atom "," atom ")", after a "(" at a place
unfoldable pub two_at : Pos → ℕ → Reader ExprTree
two_at at room ts = do
  first ← atom_at room ts
  comma ← take_symbol symbols.Comma first.1
  second ← atom_at room comma.1
  close ← take_symbol symbols.CloseParen second.1
  Ok (TwoExpr at first.0 second.0, close.1)

-- "(" ")" [ op atom ] | "(" atom "," atom ")"
unfoldable pub paren_expr_at : ℕ → Reader ExprTree
paren_expr_at room ts = do
  begin ← take_open symbols.OpenParen room ts
  if leads symbols.CloseParen begin.1 then (do
    close ← take_symbol symbols.CloseParen begin.1
    op_at begin.0 (UnitAtom begin.0) room close.1) else two_at begin.0 room begin.1

-- atom [ op atom ]
unfoldable pub op_expr_at : ℕ → Reader ExprTree
op_expr_at room ts = do
  at ← place_at ts
  left ← atom_at (suc room) ts
  op_at at left.0 room left.1

unfoldable pub expr_at : ℕ → Reader ExprTree
expr_at room ts = if leads symbols.Not ts then not_at room ts
    else if leads symbols.OpenParen ts then paren_expr_at room ts
    else op_expr_at room ts

-- name [ "-" number ]
unfoldable pub named_bound_at : Reader BoundTree
named_bound_at ts = do
  name ← take_name ts
  if leads symbols.Minus name.1 then (do
    minus ← take_symbol symbols.Minus name.1
    number ← take_bound_number minus.1
    Ok (LessBound name.0 number.0, number.1)) else Ok (SameBound name.0, name.1)

-- number | name [ "-" number ]
unfoldable pub bound_at : Reader BoundTree
bound_at ts = if leads_number ts then (do
  number ← take_bound_number ts
  Ok (FixedBound number.0, number.1)) else named_bound_at ts

-- [ "[" bound "]" ]
unfoldable pub call_bound_at : Reader (Option BoundTree)
call_bound_at ts = if leads symbols.OpenBracket ts then (do
  begin ← take_symbol symbols.OpenBracket ts
  bound ← bound_at begin.1
  close ← take_symbol symbols.CloseBracket bound.1
  Ok (Some bound.0, close.1)) else Ok (None, ts)

-- "," name
unfoldable pub comma_name_at : Reader NameTree
comma_name_at ts = do
  comma ← take_symbol symbols.Comma ts
  take_name comma.1

-- [ name { "," name } ]
unfoldable pub names_at : Reader (List NameTree)
names_at ts = if leads_name ts then (do
  first ← take_name ts
  more ← all_at (leads symbols.Comma) comma_name_at first.1
  Ok (first.0 ∷ more.0, more.1)) else Ok ([], ts)

-- "(" [ name { "," name } ] ")"
unfoldable pub args_at : ℕ → Reader (List NameTree)
args_at room ts = bracketed_with symbols.OpenParen symbols.CloseParen names_at room ts

-- name [ "[" bound "]" ] "(" [ name { "," name } ] ")"
unfoldable pub call_at : ℕ → Reader RhsTree
call_at room ts = do
  callee ← take_name ts
  bound ← call_bound_at callee.1
  args ← args_at room bound.1
  Ok (CallRhs callee.0 bound.0 args.0, args.1)

-- whether the tokens begin with a call: a name, and then "[" or "("
abbrev pub leads_call : List Lexed → Bool
leads_call ts = leads_name ts && (leads symbols.OpenBracket (after_first ts) || leads symbols.OpenParen (after_first ts))

-- "alloc" "<" type ">"
unfoldable pub alloc_at : ℕ → Reader RhsTree
alloc_at room ts = do
  at ← take_symbol symbols.Alloc ts
  of ← type_argument_with (type_at room) room at.1
  Ok (AllocRhs of.0, of.1)

unfoldable pub rhs_at : ℕ → Reader RhsTree
rhs_at room ts = if leads symbols.Alloc ts then alloc_at room ts
    else if leads_call ts then call_at room ts
    else (do
      expr ← expr_at room ts
      Ok (ExprRhs expr.0, expr.1))

pub type_at-ptr : (p q r s : Pos) → type_at 2 (sign_at symbols.Ptr p ∷ sign_at symbols.Less q ∷ sign_at symbols.Uint r ∷ sign_at symbols.Greater s ∷ []) ≡ Ok (PtrType p (UintType r), [])
unfolding type_at type_with ptr_with type_argument_with plain_type_at
type_at-ptr p q r s = refl

pub type_at-full : (p q r : Pos) → type_at 1 (sign_at symbols.Ptr p ∷ sign_at symbols.Less q ∷ sign_at symbols.Uint r ∷ []) ≡ Err (Nesting 2)
unfolding type_at type_with ptr_with type_argument_with plain_type_at
type_at-full p q r = refl

pub type_at-unit : (p q : Pos) → type_at 2 (sign_at symbols.OpenParen p ∷ sign_at symbols.CloseParen q ∷ []) ≡ Ok (UnitType p, [])
unfolding type_at type_with paren_with
type_at-unit p q = refl

pub expr_at-true : (p q r : Pos) → expr_at 0 (sign_at symbols.True p ∷ sign_at symbols.And q ∷ sign_at symbols.False r ∷ [])
    ≡ Ok (OpExpr p kind.And (TrueAtom p) (FalseAtom r), [])
unfolding expr_at op_expr_at op_at atom_at atom_with plain_atom_at
expr_at-true p q r = refl

pub expr_at-missing : (p q : Pos) → expr_at 0 (sign_at symbols.True p ∷ sign_at symbols.And q ∷ []) ≡ Err (Syntax 0)
unfolding expr_at op_expr_at op_at atom_at atom_with plain_atom_at path_at
expr_at-missing p q = refl

pub rhs_at-call : (p q r : Pos) → rhs_at 1 (name_at (codes "f") p ∷ sign_at symbols.OpenParen q ∷ sign_at symbols.CloseParen r ∷ []) ≡ Ok (CallRhs (named (codes "f") p) None [], [])
unfolding rhs_at call_at call_bound_at args_at names_at
rhs_at-call p q r = refl
