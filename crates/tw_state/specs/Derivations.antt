-- Worked examples of the semantics, as derivations. Each program stands on one line, as in its comment.
use Rattle.std.specs.Prelude.{◌≡◌, ℕ, Bool, true, false, List, [], ◌∷◌, Some, None, codes, refl}
use Rattle.tw_syntax.specs.declared.term.OpKind.TheVariants as op
use Rattle.tw_syntax.specs.Examples.{place}
use Rattle.tw_syntax.specs.Names.{NameTree, PathTree}
use Rattle.tw_syntax.specs.Programs.{FunTree}
use Rattle.tw_syntax.specs.Statements.{StmtTree, Nothing, Then, LetStmt, MemSwapStmt, IfStmt}
use Rattle.tw_syntax.specs.Terms.{AtomTree, PlaceAtom, NumberAtom, TrueAtom, FalseAtom, RhsTree, ExprRhs, AllocRhs, OneExpr, OpExpr}
use Rattle.tw_syntax.specs.Types.{BoolType}
use Rattle.tw_types.specs.Types.{Boolean, Pointer}
use Rattle.tw_types.specs.Values.{Value, Number, Truth, Address}
use Rattle.tw_resolve.specs.Setting.{Setting}
use Rattle.tw_state.specs.States.{Name, Free, Live, Store, State, empty, with_value}
use Rattle.tw_state.specs.Steps.{Activation, Adds}
use Rattle.tw_state.specs.Semantics.{Runs, RunsNothing, RunsThen, RunsLet, RunsUnlet, RunsMemSwapNull, RunsIf, RunsAlloc, RunsAllocNone}
use Rattle.tw_state.specs.Stuck.{Unmet, Wild, Dirty, Pad, Sticks, StuckFirst, StuckRest, StuckUnlet, StuckMemSwap, StuckPad, StuckFreeDirty}

-- a name, a path without steps, and a path with one step, each at a column
abbrev pub named : List ℕ → ℕ → NameTree
named text col = record { text = text; at = place 1 col }

abbrev pub path : List ℕ → ℕ → PathTree
path text col = record { root = named text col; steps = [] }

abbrev pub half : List ℕ → ℕ → ℕ → PathTree
half text col step = record { root = named text col; steps = step ∷ [] }

-- right sides: a number, a truth value, a variable, and `not` of a variable
abbrev pub number : ℕ → ℕ → RhsTree
number n col = ExprRhs (OneExpr (place 1 col) (NumberAtom (place 1 col) n))

abbrev pub truth : Bool → ℕ → RhsTree
truth true col = ExprRhs (OneExpr (place 1 col) (TrueAtom (place 1 col)))
truth false col = ExprRhs (OneExpr (place 1 col) (FalseAtom (place 1 col)))

abbrev pub variable : List ℕ → ℕ → AtomTree
variable text col = PlaceAtom (place 1 col) (path text col)

abbrev pub copied : List ℕ → ℕ → RhsTree
copied text col = ExprRhs (OneExpr (place 1 col) (variable text col))

-- `let` at a column; the name comes four columns later
abbrev pub assign : ℕ → List ℕ → RhsTree → StmtTree
assign col target rhs = LetStmt (place 1 col) true (record { text = target; at = place 1 col }) rhs

abbrev pub unassign : ℕ → List ℕ → RhsTree → StmtTree
unassign col target rhs = LetStmt (place 1 col) false (record { text = target; at = place 1 col }) rhs

-- a program with the target `bool` and these functions, in words of 8 bits and addresses of 2
abbrev pub program : List FunTree → Setting
program funs = record {
  widths = record { word = 8; addr = 2 };
  scope = record { declared = λ name. None; targets = BoolType (place 1 1) ∷ [] };
  types = λ name. None;
  funs = funs;
}

-- a function without calls, in which each variable is a pointer to `bool`, or each a truth value
abbrev pub of_pointers : Activation
of_pointers = record { types = λ name. Some (Pointer 0); bound = 0 }

abbrev pub of_truths : Activation
of_truths = record { types = λ name. Some Boolean; bound = 0 }

-- `free 1; 1 free 2; 2 free 3; 3 free 0`, and these names
abbrev pub fresh : Store → State
fresh store = record { head = 1; cells = Free 2 ∷ Free 3 ∷ Free 0 ∷ []; store = store }

abbrev pub only : List ℕ → Value → Store
only name value = with_value empty name value

-- a step that adds a name
abbrev pub adds : (name : Name) (value : Value) (state : State) → state.store name ≡ None → Adds name value state (record state { store = with_value state.store name value })
adds name value state unused = record { unused = unused; after = refl }

-- `fun main(x: uint) -> uint { let x -> 5; let x <- 5; let y <- x; return y; }`
abbrev set_again : StmtTree
set_again = Then (unassign 29 (codes "x") (number 5 38)) (Then (assign 41 (codes "x") (number 5 50)) (Then (assign 53 (codes "y") (copied (codes "x") 62)) Nothing))

-- `x 5` ends with `y 5` as well
pub x_is_set_again : (act : Activation) → Runs (program []) act set_again (fresh (only (codes "x") (Number 5))) (fresh (with_value (only (codes "x") (Number 5)) (codes "y") (Number 5)))
x_is_set_again act =
    RunsThen {between = fresh empty} (RunsUnlet (Number 5) refl (adds (codes "x") (Number 5) (fresh empty) refl))
    (RunsThen (RunsLet (Number 5) refl (adds (codes "x") (Number 5) (fresh empty) refl))
    (RunsThen (RunsLet (Number 5) refl (adds (codes "y") (Number 5) (fresh (only (codes "x") (Number 5))) refl)) RunsNothing))

-- `x 4` is stuck at the first `let`
pub x_is_not_5 : (act : Activation) → Sticks (program []) act set_again (fresh (only (codes "x") (Number 4))) Unmet (place 1 29)
x_is_not_5 act = StuckFirst (StuckUnlet {bare = fresh empty} (Number 4) (Number 5) (adds (codes "x") (Number 4) (fresh empty) refl) refl (λ same. cc))

-- `let x <- 255 + 1;` gives x the value 0
pub sum_overflows : (act : Activation) → Runs (program []) act
    (LetStmt (place 1 26) true (named (codes "x") 30) (ExprRhs (OpExpr (place 1 35) op.Add (NumberAtom (place 1 35) 255) (NumberAtom (place 1 41) 1))))
    (fresh empty) (fresh (only (codes "x") (Number 0)))
sum_overflows act = RunsLet (Number 0) refl (adds (codes "x") (Number 0) (fresh empty) refl)

-- `let p <- alloc<bool>;`
abbrev allocate : StmtTree
allocate = assign 30 (codes "p") (AllocRhs (BoolType (place 1 45)))

-- from `free 2; 1 free 0; 2 free 1; 3 live bool true` to `free 1; 1 free 0; 2 live bool false; 3 live bool true; p @2`
pub block_2_is_taken : (act : Activation) → Runs (program []) act allocate
    (record { head = 2; cells = Free 0 ∷ Free 1 ∷ Live 0 (Truth true) ∷ []; store = empty })
    (record { head = 1; cells = Free 0 ∷ Live 0 (Truth false) ∷ Live 0 (Truth true) ∷ []; store = only (codes "p") (Address 2) })
block_2_is_taken act =
    RunsAlloc {taken = record { head = 1; cells = Free 0 ∷ Live 0 (Truth false) ∷ Live 0 (Truth true) ∷ []; store = empty }} 2
    (record { target = 0; cleared = Truth false; next = 1; numbered = refl; is_zero = refl; first = refl; is_free = refl; after = refl })
    (record { unused = refl; after = refl })

-- a state in which no block is free
abbrev full : Store → State
full store = record { head = 0; cells = Live 0 (Truth true) ∷ Live 0 (Truth true) ∷ Live 0 (Truth true) ∷ []; store = store }

-- from there p is null
pub no_block_is_free : (act : Activation) → Runs (program []) act allocate (full empty) (full (only (codes "p") (Address 0)))
no_block_is_free act = RunsAllocNone refl (adds (codes "p") (Address 0) (full empty) refl)

-- `fun main(p: ptr<bool>) -> bool { let p -> alloc<bool>; .. }` is stuck if the block of p is not zero
pub block_is_dirty : (act : Activation) → Sticks (program []) act (unassign 34 (codes "p") (AllocRhs (BoolType (place 1 49)))) (full (only (codes "p") (Address 1))) Dirty (place 1 34)
block_is_dirty act =
    StuckFreeDirty {bare = full empty} 1 0 (Truth true) (Truth false) (adds (codes "p") (Address 1) (full empty) refl) refl refl refl (λ same. cc)

-- `fun main(p: ptr<bool>) -> bool { let v <- false; *p <-> v; return v; }`
abbrev exchange : StmtTree
exchange = Then (assign 34 (codes "v") (truth false 43)) (Then (MemSwapStmt (place 1 50) (path (codes "p") 51) (path (codes "v") 57)) Nothing)

-- the names `p` and `v`
abbrev pub p_and_v : ℕ → Bool → Store
p_and_v block v = with_value (only (codes "p") (Address block)) (codes "v") (Truth v)

-- `p @0` is null, and nothing is exchanged
pub null_is_no_block : Runs (program []) of_pointers exchange (fresh (only (codes "p") (Address 0))) (fresh (p_and_v 0 false))
null_is_no_block =
    RunsThen (RunsLet (Truth false) refl (adds (codes "v") (Truth false) (fresh (only (codes "p") (Address 0))) refl))
    (RunsThen (RunsMemSwapNull refl) RunsNothing)

-- `p @1` is stuck if block 1 is free
pub block_is_free : Sticks (program []) of_pointers exchange (fresh (only (codes "p") (Address 1))) Wild (place 1 50)
block_is_free =
    StuckRest (RunsLet (Truth false) refl (adds (codes "v") (Truth false) (fresh (only (codes "p") (Address 1))) refl))
    (StuckFirst (StuckMemSwap 1 0 refl (λ same. cc) refl (λ value same. cc)))

-- `if c { let x -> true; }` at column 38 of a line
abbrev pub remove_x : StmtTree
remove_x = IfStmt (place 1 38) (path (codes "c") 41) (Then (unassign 45 (codes "x") (truth true 54)) Nothing) Nothing

abbrev pub c_and_x : Bool → Bool → Store
c_and_x c x = with_value (only (codes "c") (Truth c)) (codes "x") (Truth x)

-- `c true; x true` runs the branch
pub branch_is_taken : Runs (program []) of_truths remove_x (fresh (c_and_x true true)) (fresh (only (codes "c") (Truth true)))
branch_is_taken =
    RunsIf refl (RunsThen {between = fresh (only (codes "c") (Truth true))} (RunsUnlet (Truth true) refl (adds (codes "x") (Truth true) (fresh (only (codes "c") (Truth true))) refl)) RunsNothing) refl

-- `c false; x true` is stuck, since x is not zero
pub x_is_no_zero : Sticks (program []) of_truths remove_x (fresh (c_and_x false true)) Pad (place 1 38)
x_is_no_zero =
    StuckPad refl (record { name = codes "x"; value = Truth true; ty = Boolean; is = refl; removed = refl; typed = refl; not_zero = λ same. cc })
