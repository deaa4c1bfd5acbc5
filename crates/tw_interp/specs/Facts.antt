-- What is said of the numbers in statements is a proposition, as a ghost field has to be: each fact has one proof.
use Rattle.std.proofs.Common.{◌≡◌, ap, ℕ, false, List, [], ◌∷◌, Option, bytes_eq}
use Rattle.std.specs.List.{AllByRecursion}
use Rattle.std.proofs.Math.Bool.{Bool-set}
use Rattle.std.proofs.Math.Nat.{ℕ_set}
use mathlib.Core.List as list
use mathlib.Core.Sum.{⊎_set}
use Rattle.tw_syntax.specs.Names.{NameTree, NameTree-set}
use Rattle.tw_syntax.specs.Programs.{FunTree}
use Rattle.tw_syntax.specs.Statements.{StmtTree}
use Rattle.tw_syntax.proofs.Sets.{functions}
use Rattle.tw_resolve.specs.Declarations.{AreDifferent}
use Rattle.tw_resolve.specs.Setting.{Setting}
use Rattle.tw_state.specs.States.{Name}
use Rattle.tw_interp.specs.declared.formula.FormulaKind.{FormulaKind}
use Rattle.tw_interp.specs.declared.formula.FormulaKind.TheVariants as formula
use Rattle.tw_interp.specs.declared.formula.OperandKind.{OperandKind}
use Rattle.tw_interp.specs.declared.formula.OperandKind.TheVariants as operand
use Rattle.tw_interp.specs.declared.numbered.Action.{Action, Row_of-Step, end_of-Step, more_of-Step}
use Rattle.tw_interp.specs.declared.numbered.Action as action
use Rattle.tw_interp.specs.declared.numbered.Other.{Other, Other'}
use Rattle.tw_interp.specs.declared.numbered.Source.{Source}
use Rattle.tw_interp.specs.declared.numbered.Source.TheVariants as source
use Rattle.tw_interp.specs.declared.numbered.Step.{Step}
use Rattle.tw_interp.specs.declared.runner.Body.{Body}
use Rattle.tw_interp.specs.declared.variable.Var.{Var}
use Rattle.tw_interp.specs.Numbered.{AreBodies, AreInRow, AreNumbered, IsAction, IsBodyOf, IsFormulaKind, IsHeld, IsNumbered, IsOperandKind, IsOther, IsSource, IsTarget, IsVar, numbered_names}

name_set : IsSet NameTree
name_set = hlevel (NameTree-set, list.is_set ℕ_set, ℕ_set)

-- a statement is a part of a function, and functions are a set
abbrev with_body : FunTree → StmtTree → FunTree
with_body fun body = record fun { body = body }

tree_set : FunTree → IsSet StmtTree
tree_set fun x y p q = ap (λ r. ap (λ (f : FunTree). f.body) r) (functions (with_body fun x) (with_body fun y) (ap (with_body fun) p) (ap (with_body fun) q))

number_set : IsSet (Option ℕ)
number_set = hlevel (ℕ_set, ⊎_set)

pub all_prop : {A : Type 0} (P : A → Type 0) → ((x : A) → IsProp (P x)) → (xs : List A) → IsProp (AllByRecursion P xs)
all_prop P each [] = hlevel
all_prop P each (x ∷ xs) = hlevel (each x, all_prop P each xs)

module _ (names : List Name) where
  var_prop : (var : Var) → IsProp (IsVar names var)
  var_prop var = hlevel number_set

  pub target_prop : (var : Var) → IsProp (IsTarget names var)
  target_prop var = hlevel (number_set, Bool-set)

  operand_prop : (kind : OperandKind) → IsProp (IsOperandKind names kind)
  operand_prop (operand.Place path) = var_prop path.root
  operand_prop (operand.Number number) = hlevel
  operand_prop operand.True = hlevel
  operand_prop operand.False = hlevel
  operand_prop operand.Unit = hlevel
  operand_prop (operand.Null ty) = hlevel
  operand_prop (operand.Zero ty) = hlevel

  formula_prop : (kind : FormulaKind) → IsProp (IsFormulaKind names kind)
  formula_prop (formula.One x) = operand_prop x.kind
  formula_prop (formula.Two x y) = hlevel (operand_prop x.kind, operand_prop y.kind)
  formula_prop (formula.Not x) = operand_prop x.kind
  formula_prop (formula.Op operator x y) = hlevel (operand_prop x.kind, operand_prop y.kind)

  source_prop : (setting : Setting) (source : Source) → IsProp (IsSource setting names source)
  source_prop setting (source.Formula x) = formula_prop x.kind
  source_prop setting (source.Call callee number bound args) = hlevel (number_set, all_prop (IsTarget names) target_prop args.now)
  source_prop setting (source.Alloc written target) = hlevel number_set

module _ (setting : Setting) (fun : ℕ) where
  mutual
    action_prop : (kind : Action) → IsProp (IsAction setting fun kind)
    action_prop (action.Let forward target source) = hlevel (target_prop (numbered_names setting fun) target, source_prop (numbered_names setting fun) setting source)
    action_prop (action.Swap left right) = hlevel (var_prop (numbered_names setting fun) left.root, var_prop (numbered_names setting fun) right.root)
    action_prop (action.MemSwap pointer place target) = hlevel number_set
    action_prop (action.If' cond p shape row other) = hlevel (var_prop (numbered_names setting fun) cond.root, row_prop row, held_prop other)
    action_prop (action.With' p shape row q shape2 row2) = hlevel (row_prop row, row_prop row2)
    action_prop (action.Block' p shape row) = row_prop row
    action_prop action.Skip = hlevel

    row_prop : {n : _} (row : Row_of-Step n) → IsProp (AreInRow setting fun row)
    row_prop end_of-Step = hlevel
    row_prop (more_of-Step at kind rest) = hlevel (action_prop kind, row_prop rest)

    held_prop : (other : action.Held-Action-If-2) → IsProp (IsHeld setting fun other)
    held_prop action.None' = hlevel
    held_prop (action.Some' other) = other_prop other

    other_prop : (other : Other) → IsProp (IsOther setting fun other)
    other_prop (Other' at p shape row) = row_prop row

  pub steps_prop : (steps : List Step) → IsProp (AreNumbered setting fun steps)
  steps_prop steps = all_prop (IsNumbered setting fun) (λ step. action_prop step.action) steps

  different_prop : (names : List Name) → IsProp (AreDifferent names)
  different_prop [] = hlevel
  different_prop (name ∷ names) = hlevel (all_prop (λ other. bytes_eq name other ≡ false) (λ other. Bool-set (bytes_eq name other) false) names, different_prop names)

  pub body_prop : (tree : FunTree) (body : Body) → IsProp (IsBodyOf setting fun tree body)
  body_prop tree body =
      hlevel (
        list.is_set name_set,
        name_set,
        tree_set tree,
        all_prop (IsTarget (numbered_names setting fun)) (target_prop (numbered_names setting fun)) body.params.now,
        target_prop (numbered_names setting fun) body.returned,
        steps_prop body.steps.now,
        different_prop (numbered_names setting fun),
      )

pub bodies_prop : (setting : Setting) (bodies : List Body) → IsProp (AreBodies setting bodies)
bodies_prop setting bodies = hlevel (ℕ_set, body_prop setting)
