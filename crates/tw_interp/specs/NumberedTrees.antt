-- The syntax trees of numbered statements: those of the statements whose names have the numbers.
use Rattle.std.specs.Prelude.{List, [], ◌∷◌, Option, Some, None, map}
use Rattle.std.specs.Option.{option_map}
use Rattle.tw_text.specs.declared.place.Pos.{Pos}
use Rattle.tw_syntax.specs.Names.{NameTree, PathTree, name_tree}
use Rattle.tw_syntax.specs.Statements.{StmtTree, Nothing, Then, Else, LetStmt, SwapStmt, MemSwapStmt, IfStmt, WithStmt, BlockStmt, SkipStmt}
use Rattle.tw_syntax.specs.Terms.{AtomTree, PlaceAtom, NumberAtom, TrueAtom, FalseAtom, UnitAtom, NullAtom, ZeroAtom, ExprTree, OneExpr, TwoExpr, NotExpr, OpExpr, RhsTree, ExprRhs, CallRhs, AllocRhs, bound_tree}
use Rattle.tw_syntax.specs.Types.{written_tree}
use Rattle.tw_interp.specs.declared.formula.Formula.{Formula}
use Rattle.tw_interp.specs.declared.formula.FormulaKind.{FormulaKind}
use Rattle.tw_interp.specs.declared.formula.FormulaKind.TheVariants as formula
use Rattle.tw_interp.specs.declared.formula.Operand.{Operand}
use Rattle.tw_interp.specs.declared.formula.OperandKind.{OperandKind}
use Rattle.tw_interp.specs.declared.formula.OperandKind.TheVariants as operand
use Rattle.tw_interp.specs.declared.numbered.Action.{Action, Row_of-Step, end_of-Step, more_of-Step}
use Rattle.tw_interp.specs.declared.numbered.Action as action
use Rattle.tw_interp.specs.declared.numbered.Other.{Other, Other'}
use Rattle.tw_interp.specs.declared.numbered.Source.{Source}
use Rattle.tw_interp.specs.declared.numbered.Source.TheVariants as source
use Rattle.tw_interp.specs.declared.numbered.Step.{Step}
use Rattle.tw_interp.specs.declared.variable.Var.{Var}
use Rattle.tw_interp.specs.declared.variable.VarPath.{VarPath}

-- the tree of a variable, and of a path from one
abbrev pub var_tree : Var → NameTree
var_tree x = name_tree x.name

abbrev pub var_path_tree : VarPath → PathTree
var_path_tree x = record { root = var_tree x.root; steps = x.steps.now }

-- the tree of an atom
abbrev pub operand_kind_tree : Pos → OperandKind → AtomTree
operand_kind_tree at (operand.Place path) = PlaceAtom at (var_path_tree path)
operand_kind_tree at (operand.Number number) = NumberAtom at number
operand_kind_tree at operand.True = TrueAtom at
operand_kind_tree at operand.False = FalseAtom at
operand_kind_tree at operand.Unit = UnitAtom at
operand_kind_tree at (operand.Null ty) = NullAtom at (written_tree ty.now)
operand_kind_tree at (operand.Zero ty) = ZeroAtom at (written_tree ty.now)

abbrev pub operand_tree : Operand → AtomTree
operand_tree x = operand_kind_tree x.at x.kind

-- the tree of an expression
abbrev pub formula_kind_tree : Pos → FormulaKind → ExprTree
formula_kind_tree at (formula.One x) = OneExpr at (operand_tree x)
formula_kind_tree at (formula.Two x y) = TwoExpr at (operand_tree x) (operand_tree y)
formula_kind_tree at (formula.Not x) = NotExpr at (operand_tree x)
formula_kind_tree at (formula.Op operator x y) = OpExpr at operator (operand_tree x) (operand_tree y)

abbrev pub formula_tree : Formula → ExprTree
formula_tree x = formula_kind_tree x.at x.kind

-- the tree of a right side
abbrev pub source_tree : Source → RhsTree
source_tree (source.Formula x) = ExprRhs (formula_tree x)
source_tree (source.Call callee number bound args) = CallRhs (name_tree callee) (option_map bound_tree bound) (map var_tree args.now)
source_tree (source.Alloc written target) = AllocRhs (written_tree written.now)

abbrev mutual
  -- the tree of a statement at a place
  pub action_tree : Pos → Action → StmtTree
  action_tree at (action.Let forward target source) = LetStmt at forward (var_tree target) (source_tree source)
  action_tree at (action.Swap left right) = SwapStmt at (var_path_tree left) (var_path_tree right)
  action_tree at (action.MemSwap pointer place target) = MemSwapStmt at (var_path_tree pointer) (var_path_tree place)
  action_tree at (action.If' cond p shape row other) = IfStmt at (var_path_tree cond) (row_tree row) (held_tree other)
  action_tree at (action.With' p shape row q shape2 row2) = WithStmt at (row_tree row) (row_tree row2)
  action_tree at (action.Block' p shape row) = BlockStmt at (row_tree row)
  action_tree at action.Skip = SkipStmt at

  -- the tree of the statements of a slice in a statement
  pub row_tree : {n : _} → Row_of-Step n → StmtTree
  row_tree end_of-Step = Nothing
  row_tree (more_of-Step at kind rest) = Then (action_tree at kind) (row_tree rest)

  -- the tree of an `else` in a statement
  pub held_tree : action.Held-Action-If-2 → StmtTree
  held_tree action.None' = Nothing
  held_tree (action.Some' other) = held_other_tree other

  -- the tree of an `else`
  pub held_other_tree : Other → StmtTree
  held_other_tree (Other' at p shape row) = Else at (row_tree row)

-- the tree of a statement
abbrev pub step_tree : Step → StmtTree
step_tree x = action_tree x.at x.action

-- the tree of statements
abbrev pub steps_tree : List Step → StmtTree
steps_tree [] = Nothing
steps_tree (x ∷ xs) = Then (step_tree x) (steps_tree xs)

-- the tree of an `else`; empty if there is none
abbrev pub other_tree : Option Other → StmtTree
other_tree None = Nothing
other_tree (Some other) = held_other_tree other
