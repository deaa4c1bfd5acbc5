-- The inventory of a statement: how many X gates its circuit has, by their numbers of controls. It is by recursion on the source, and
-- speaks of no wire.
use Rattle.std.specs.Prelude.{◌≡◌, ℕ, zero, suc, ◌+◌, ◌-◌, ◌*◌, nat_le, true, false, if◌then◌else◌, List, [], ◌∷◌, ◌++◌, slice_get, Option, Some, None, refl}
use Rattle.tw_syntax.specs.declared.term.OpKind.{OpKind}
use Rattle.tw_syntax.specs.declared.term.OpKind.TheVariants as op
use Rattle.tw_syntax.specs.Names.{NameTree}
use Rattle.tw_syntax.specs.Programs.{FunTree}
use Rattle.tw_syntax.specs.Statements.{StmtTree, Nothing, Then, Else, LetStmt, SwapStmt, MemSwapStmt, IfStmt, WithStmt, BlockStmt, SkipStmt}
use Rattle.tw_syntax.specs.Terms.{AtomTree, PlaceAtom, NumberAtom, TrueAtom, FalseAtom, UnitAtom, NullAtom, ZeroAtom, ExprTree, OneExpr, TwoExpr, NotExpr, OpExpr, ExprRhs, CallRhs, AllocRhs}
use Rattle.tw_bits.specs.Numbers.{number_bits}
use Rattle.tw_gate.specs.declared.gate.Level.{Level}
use Rattle.tw_gate.specs.declared.gate.Level.TheVariants as levels
use Rattle.tw_gate.specs.Weight.{weight}
use Rattle.tw_code.specs.declared.code.Options.{Options}
use Rattle.tw_code.specs.Rows.{Row, row, twice, total, Load, Copied, Flipped, ones, load_rows, pair_rows, not_rows, and_rows, or_rows, eq_rows, ne_rows, add_rows, sub_rows, lt_rows, mul_rows, swap_rows, mem_swap_rows, alloc_rows}
use Rattle.tw_resolve.specs.Expressions.{Types, type_at_path, fun_named}
use Rattle.tw_resolve.specs.Setting.{Setting}
use Rattle.tw_check.specs.declared.entry.Entry.{Entry}
use Rattle.tw_state.specs.Steps.{Activation, activation_of, running_bound, callee_bound}
use Rattle.tw_frames.specs.Sizes.{type_size, atom_size}

-- an atom as an operand, by the types of names
abbrev pub load_of : Setting → Types → AtomTree → Load
load_of setting types (PlaceAtom at path) = Copied (type_size setting.widths (type_at_path types path))
load_of setting types (NumberAtom at number) = Flipped (ones (number_bits setting.widths.word number))
load_of setting types (TrueAtom at) = Flipped 1
load_of setting types (FalseAtom at) = Flipped 0
load_of setting types (UnitAtom at) = Flipped 0
load_of setting types (NullAtom at to) = Flipped 0
load_of setting types (ZeroAtom at ty) = Flipped 0

-- the gates of an operator in words of this width, on operands of this number of bits
abbrev pub op_rows : (word bits : ℕ) → OpKind → Load → Load → ℕ → List Row
op_rows word bits op.And x y under = and_rows x y under
op_rows word bits op.Or x y under = or_rows x y under
op_rows word bits op.Eq x y under = eq_rows bits x y under
op_rows word bits op.Ne x y under = ne_rows bits x y under
op_rows word bits op.Add x y under = add_rows word x y under
op_rows word bits op.Sub x y under = sub_rows word x y under
op_rows word bits op.Lt x y under = lt_rows word x y under
op_rows word bits op.Mul x y under = mul_rows word x y under

-- the gates of an expression under this number of controls
abbrev pub expr_rows : Setting → Types → ExprTree → ℕ → List Row
expr_rows setting types (OneExpr at x) under = load_rows (load_of setting types x) under
expr_rows setting types (TwoExpr at x y) under = pair_rows (load_of setting types x) (load_of setting types y) under
expr_rows setting types (NotExpr at x) under = not_rows (load_of setting types x) under
expr_rows setting types (OpExpr at operator x y) under =
    op_rows setting.widths.word (atom_size setting types x) operator (load_of setting types x) (load_of setting types y) under

-- the controls of the branches of an `if` under this number of controls: with flattening, the wire of the `if` alone
abbrev pub branch_controls : Options → ℕ → ℕ
branch_controls options under = if options.flatten then 1 else 1 + under

-- the gates that collect the controls of a branch: with flattening, the conjunction of the wire of the `if` and the control around it,
-- computed and uncomputed
abbrev pub collect_rows : Options → ℕ → List Row
collect_rows options under = if options.flatten then (if nat_le 1 under then row 2 2 ∷ [] else []) else []

-- the controls of a setup under this number of controls: with narrowing, none
abbrev pub setup_controls : Options → ℕ → ℕ
setup_controls options under = if options.narrow then 0 else under

-- the gates of a statement, in a function with these types of names and this bound, under this number of controls
pub data Inventory (setting : Setting) (options : Options) : Activation → ℕ → StmtTree → List Row → Type 0 where
  -- no statements, and a statement and then the rest
  InventoryNothing : {act under : _} → Inventory setting options act under Nothing []
  InventoryThen : {act under first rest : _} {a b : List Row}
      → Inventory setting options act under first a → Inventory setting options act under rest b
      → Inventory setting options act under (Then first rest) (a ++ b)
  -- single statements
  InventoryExpr : {act : Activation} {under at forward target expr : _}
      → Inventory setting options act under (LetStmt at forward target (ExprRhs expr)) (expr_rows setting act.types expr under)
  InventoryAlloc : {act under at forward target to : _}
      → Inventory setting options act under (LetStmt at forward target (AllocRhs to)) (alloc_rows setting.widths.addr under)
  InventorySwap : {act : Activation} {under at left right : _}
      → Inventory setting options act under (SwapStmt at left right) (swap_rows (type_size setting.widths (type_at_path act.types left)) under)
  InventoryMemSwap : {act : Activation} {under at pointer place : _}
      → Inventory setting options act under (MemSwapStmt at pointer place) (mem_swap_rows setting.widths.addr (type_size setting.widths (type_at_path act.types place)) under)
  InventorySkip : {act under at : _} → Inventory setting options act under (SkipStmt at) []
  -- a block
  InventoryBlock : {act under at body a : _} → Inventory setting options act under body a → Inventory setting options act under (BlockStmt at body) a
  -- an `if`: the condition is copied to the wire of the `if` and back; for an `else` that wire is flipped and flipped back
  InventoryIf : {act under at cond first : _} {a : List Row}
      → Inventory setting options act (branch_controls options under) first a
      → Inventory setting options act under (IfStmt at cond first Nothing) (row 2 1 ∷ (collect_rows options under ++ a))
  InventoryIfElse : {act under at else_at cond first other : _} {a b : List Row}
      → Inventory setting options act (branch_controls options under) first a → Inventory setting options act (branch_controls options under) other b
      → Inventory setting options act under (IfStmt at cond first (Else else_at other)) (row 2 1 ∷ row 2 0 ∷ ((collect_rows options under ++ a) ++ (collect_rows options under ++ b)))
  -- `with S do R`: S is computed and uncomputed
  InventoryWith : {act under at setup work : _} {a b : List Row}
      → Inventory setting options act (setup_controls options under) setup a → Inventory setting options act under work b
      → Inventory setting options act under (WithStmt at setup work) (twice a ++ b)
  -- a call and an un-call: the body of the callee; none with the bound 0
  InventoryCall : {callee : NameTree} {act : Activation} {under at forward target bound args : _} {a : List Row} (fun : FunTree) (n : ℕ)
      → fun_named setting callee.text ≡ Some fun → callee_bound act.bound bound ≡ Some n
      → Inventory setting options (activation_of setting fun n) under fun.body a
      → Inventory setting options act under (LetStmt at forward target (CallRhs callee bound args)) a
  InventoryCallZero : {act : Activation} {under at forward target callee bound args : _}
      → callee_bound act.bound bound ≡ None → Inventory setting options act under (LetStmt at forward target (CallRhs callee bound args)) []

-- the gates of a function with this bound; none with the bound 0
pub data InventoryOf (setting : Setting) (options : Options) (fun : FunTree) (bound : Option ℕ) : List Row → Type 0 where
  InventoryBody : {rows : List Row} (n : ℕ)
      → running_bound bound ≡ Some n → Inventory setting options (activation_of setting fun n) 0 fun.body rows → InventoryOf setting options fun bound rows
  InventoryNoBody : running_bound bound ≡ None → InventoryOf setting options fun bound []

-- the Toffoli gates of an X gate with this number of controls
abbrev pub toffolis : ℕ → ℕ
toffolis zero = 0
toffolis (suc zero) = 0
toffolis controls = 2 * controls - 3

-- the gates that an X gate with this number of controls becomes at a level; a Toffoli gate is 15 gates at level `t`
abbrev pub gate_lines : Level → ℕ → ℕ
gate_lines levels.Mcx controls = 1
gate_lines levels.Tof controls = if nat_le controls 2 then 1 else toffolis controls
gate_lines levels.T controls = if nat_le controls 1 then 1 else 15 * toffolis controls

-- the T-count, the lines at a level and the Toffoli gates of rows
abbrev pub t_total : List Row → ℕ
t_total rows = total weight rows

abbrev pub line_total : Level → List Row → ℕ
line_total level rows = total (gate_lines level) rows

abbrev pub toffoli_total : List Row → ℕ
toffoli_total rows = total toffolis rows
