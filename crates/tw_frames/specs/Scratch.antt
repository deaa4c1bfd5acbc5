-- The scratch wires of expressions and statements. They hold ancillas, which are zero before and after each statement.
use Rattle.std.specs.Prelude.{◌≡◌, ℕ, zero, suc, ◌+◌, ◌-◌, ◌*◌, ◌^◌, max, [], ◌∷◌, Some, None, codes, refl}
use Rattle.tw_syntax.specs.declared.term.OpKind.{OpKind}
use Rattle.tw_syntax.specs.declared.term.OpKind.TheVariants as op
use Rattle.tw_syntax.specs.Examples.{place}
use Rattle.tw_syntax.specs.Programs.{FunTree}
use Rattle.tw_syntax.specs.Statements.{StmtTree, Nothing, Then, Else, LetStmt, SwapStmt, MemSwapStmt, IfStmt, WithStmt, BlockStmt, SkipStmt}
use Rattle.tw_syntax.specs.Terms.{NumberAtom, UnitAtom, ExprTree, OneExpr, TwoExpr, NotExpr, OpExpr, RhsTree, ExprRhs, CallRhs, AllocRhs}
use Rattle.tw_syntax.specs.Types.{BoolType}
use Rattle.tw_types.specs.Types.{Ty, UnitTy, Word, Boolean, Pointer, PairTy}
use Rattle.tw_resolve.specs.Expressions.{Types, type_at_path}
use Rattle.tw_resolve.specs.Setting.{Setting}
use Rattle.tw_state.specs.Derivations.{program, named, path, variable, assign}
use Rattle.tw_state.specs.Steps.{fun_types}
use Rattle.tw_frames.specs.declared.scratch.TheConstants.{NOT_SCRATCH, SELECT_SCRATCH}
use Rattle.tw_frames.specs.Sizes.{type_size, atom_size}

-- the scratch of `not`: a copy of the operand
abbrev pub not_scratch : ℕ
not_scratch = NOT_SCRATCH

-- the scratch of an operator in words of this width, on operands of this number of bits: copies of both operands, and what is computed
-- from them: carries, and for a product the sum, and then for each further bit of the right operand a row and its carries
abbrev pub op_scratch : (word bits : ℕ) → OpKind → ℕ
op_scratch word bits op.And = 2
op_scratch word bits op.Or = 2
op_scratch word bits op.Eq = 2 * bits
op_scratch word bits op.Ne = 2 * bits
op_scratch word bits op.Add = 3 * word - 1
op_scratch word bits op.Sub = 3 * word
op_scratch word bits op.Lt = 3 * word + 1
op_scratch word bits op.Mul = 3 * word + (word - 1) ^ 2

-- the scratch of an exchange of this number of bits with a block: the wire that selects the block
abbrev pub mem_swap_scratch : ℕ → ℕ
mem_swap_scratch zero = 0
mem_swap_scratch (suc bits) = SELECT_SCRATCH

-- the scratch of an allocation: the wire that selects the block
abbrev pub alloc_scratch : ℕ
alloc_scratch = SELECT_SCRATCH

-- the scratch of an expression, by the types of names
abbrev pub expr_scratch : Setting → Types → ExprTree → ℕ
expr_scratch setting types (OneExpr at x) = 0
expr_scratch setting types (TwoExpr at x y) = 0
expr_scratch setting types (NotExpr at x) = not_scratch
expr_scratch setting types (OpExpr at operator x y) = op_scratch setting.widths.word (atom_size setting types x) operator

-- the scratch of a right side. A call has none here: its body is counted where it is entered
abbrev pub rhs_scratch : Setting → Types → RhsTree → ℕ
rhs_scratch setting types (ExprRhs expr) = expr_scratch setting types expr
rhs_scratch setting types (CallRhs callee bound args) = 0
rhs_scratch setting types (AllocRhs to) = alloc_scratch

-- the scratch of a statement is that of the part that needs most: all parts use the same wires
abbrev pub stmt_scratch : Setting → Types → StmtTree → ℕ
stmt_scratch setting types Nothing = 0
stmt_scratch setting types (Then first rest) = max (stmt_scratch setting types first) (stmt_scratch setting types rest)
stmt_scratch setting types (Else at stmts) = stmt_scratch setting types stmts
stmt_scratch setting types (LetStmt at forward target rhs) = rhs_scratch setting types rhs
stmt_scratch setting types (SwapStmt at left right) = 0
stmt_scratch setting types (MemSwapStmt at pointer value) = mem_swap_scratch (type_size setting.widths (type_at_path types value))
stmt_scratch setting types (IfStmt at cond first other) = max (stmt_scratch setting types first) (stmt_scratch setting types other)
stmt_scratch setting types (WithStmt at setup work) = max (stmt_scratch setting types setup) (stmt_scratch setting types work)
stmt_scratch setting types (BlockStmt at body) = stmt_scratch setting types body
stmt_scratch setting types (SkipStmt at) = 0

-- the scratch of the body of a function
abbrev pub fun_scratch : Setting → FunTree → ℕ
fun_scratch setting fun = stmt_scratch setting (fun_types setting fun) fun.body

-- words of 8 bits, addresses of 2, and variables of this type
abbrev all_of : Ty → Types
all_of ty name = Some ty

abbrev applied : OpKind → Ty → ℕ
applied operator ty = expr_scratch (program []) (all_of ty) (OpExpr (place 1 9) operator (variable (codes "x") 9) (variable (codes "y") 14))

pub scratch_of_conjunction : applied op.And Boolean ≡ 2
scratch_of_conjunction = refl

-- `x == y` on words, on `((uint, ptr<bool>), bool)`, and on `()`
pub scratch_of_equal_words : applied op.Eq Word ≡ 16
scratch_of_equal_words = refl

pub scratch_of_equal_pairs : applied op.Ne (PairTy (PairTy Word (Pointer 0)) Boolean) ≡ 22
scratch_of_equal_pairs = refl

pub scratch_of_equal_units : applied op.Eq UnitTy ≡ 0
scratch_of_equal_units = refl

-- sums, differences, comparisons and products of words
pub scratch_of_words : (applied op.Add Word ≡ 23) × (applied op.Sub Word ≡ 24) × (applied op.Lt Word ≡ 25) × (applied op.Mul Word ≡ 73)
scratch_of_words = (refl, refl, refl, refl)

-- in words of one bit
pub scratch_of_bits : (op_scratch 1 1 op.Add ≡ 2) × (op_scratch 1 1 op.Sub ≡ 3) × (op_scratch 1 1 op.Lt ≡ 4) × (op_scratch 1 1 op.Mul ≡ 3)
scratch_of_bits = (refl, refl, refl, refl)

-- `let p <- alloc<bool>;`
abbrev allocate : StmtTree
allocate = assign 1 (codes "p") (AllocRhs (BoolType (place 1 16)))

-- `*p <-> x;`
abbrev exchange : StmtTree
exchange = MemSwapStmt (place 1 1) (path (codes "p") 2) (path (codes "x") 8)

pub scratch_of_allocation : stmt_scratch (program []) (all_of Word) allocate ≡ 1
scratch_of_allocation = refl

-- an exchange of words, and of `()`, which has no code
pub scratch_of_exchange : stmt_scratch (program []) (all_of Word) exchange ≡ 1
scratch_of_exchange = refl

pub scratch_of_nothing : stmt_scratch (program []) (all_of UnitTy) exchange ≡ 0
scratch_of_nothing = refl

-- a call, a copy and a pair
pub scratch_of_call : stmt_scratch (program []) (all_of Word) (assign 1 (codes "y") (CallRhs (named (codes "f") 10) None (named (codes "x") 12 ∷ []))) ≡ 0
scratch_of_call = refl

pub scratch_of_pair : expr_scratch (program []) (all_of Word) (TwoExpr (place 1 9) (variable (codes "x") 10) (UnitAtom (place 1 13))) ≡ 0
scratch_of_pair = refl

-- `if c { let p <- alloc<bool>; } else { with { *p <-> x; } do { let y <- x + 1; } }`: the sum needs most
pub scratch_of_parts : stmt_scratch (program []) (all_of Word) (IfStmt (place 1 1) (path (codes "c") 4) (Then allocate Nothing) (Else (place 1 30)
    (Then (WithStmt (place 1 37) (Then exchange Nothing) (Then (assign 60 (codes "y") (ExprRhs (OpExpr (place 1 69) op.Add (variable (codes "x") 69) (NumberAtom (place 1 73) 1)))) Nothing)) Nothing))) ≡ 23
scratch_of_parts = refl
