-- The trees and the numbers of statements that code builds from slices.
use denote.Bor.{Bor}
use mathlib.Core.Former.{Count}
use Rattle.std.proofs.Common.{◌≡◌, refl, sym, ap, ◌∙◌, Bool, List, Option, Some, None}
use Rattle.std.proofs.Math.Path.{transport}
use Rattle.tw_text.specs.declared.place.Pos.{Pos}
use Rattle.tw_syntax.specs.Statements.{Then, Else, IfStmt, WithStmt, BlockStmt}
use Rattle.tw_types.specs.declared.types.TargetId.{TargetId}
use Rattle.tw_resolve.specs.Setting.{Setting}
use Rattle.tw_interp.specs.declared.numbered.Action.{Action, Block', Row_of-Step, end_of-Step, more_of-Step, items-the_row-Step, items_hidden-the_row-Step-0}
use Rattle.tw_interp.specs.declared.numbered.Action as action
use Rattle.tw_interp.specs.declared.numbered.Other.{Other, Other-F, out-Other, roll-Other, roll-out-Other}
use Rattle.tw_interp.specs.declared.numbered.Source.{Source}
use Rattle.tw_interp.specs.declared.numbered.Step.{Step}
use Rattle.tw_interp.specs.declared.variable.Var.{Var}
use Rattle.tw_interp.specs.declared.variable.VarPath.{VarPath}
use Rattle.tw_interp.specs.Numbered.{AreInRow, AreNumbered, IsAction, IsElse, IsNumbered, IsOther, IsSource, IsTarget, IsVar, numbered_names}
use Rattle.tw_interp.specs.NumberedTrees.{action_tree, row_tree, held_other_tree, other_tree, step_tree, steps_tree, var_path_tree}

abbrev row_of : Action → (n : Count) × Row_of-Step n
row_of (Block' p shape row) = (_, row)
row_of _ = (_, end_of-Step)

row_is : (n : _) (row : Row_of-Step n) → row_tree row ≡ steps_tree (items-the_row-Step n row)
row_is n end_of-Step = refl
row_is n (more_of-Step at kind rest) = ap (Then (action_tree at kind)) (row_is _ rest)

-- the rows of a statement are its slices
slice_is : (body : Bor (List Step)) → row_tree (row_of (action.Block body)).1 ≡ steps_tree body.now
slice_is body = let row = row_of (action.Block body) in row_is row.0 row.1 ∙ ap steps_tree (items_hidden-the_row-Step-0 body.now)

pub tree_of_block : (at : Pos) (body : Bor (List Step)) → action_tree at (action.Block body) ≡ BlockStmt at (steps_tree body.now)
tree_of_block at body = ap (BlockStmt at) (slice_is body)

pub tree_of_with : (at : Pos) (setup work : Bor (List Step)) → action_tree at (action.With setup work) ≡ WithStmt at (steps_tree setup.now) (steps_tree work.now)
tree_of_with at setup work =
    ap (λ x. WithStmt at x (row_tree (row_of (action.Block work)).1)) (slice_is setup) ∙ ap (WithStmt at (steps_tree setup.now)) (slice_is work)

pub tree_of_made : (r : Other-F Action Other Step) → held_other_tree (roll-Other r) ≡ Else r.at (steps_tree r.steps.now)
unfolding roll-Other denote.Hole.Carrier.roll
tree_of_made r = ap (Else r.at) (slice_is r.steps)

pub tree_of_other : (other : Other) → held_other_tree other ≡ Else (out-Other other).at (steps_tree (out-Other other).steps.now)
tree_of_other other = sym (ap held_other_tree (roll-out-Other other)) ∙ tree_of_made (out-Other other)

pub tree_of_if : (at : Pos) (cond : VarPath) (first : Bor (List Step)) (other : Option Other) → action_tree at (action.If cond first other) ≡ IfStmt at (var_path_tree cond) (steps_tree first.now) (other_tree other)
tree_of_if at cond first None = ap (λ x. IfStmt at (var_path_tree cond) x (other_tree None)) (slice_is first)
tree_of_if at cond first (Some other) = ap (λ x. IfStmt at (var_path_tree cond) x (held_other_tree other)) (slice_is first)

-- the same of a statement or an `else` that code has matched

pub block_is : (x : Step) (body : Bor (List Step)) → x.action ≡ action.Block body → step_tree x ≡ BlockStmt x.at (steps_tree body.now)
block_is x body h = ap (action_tree x.at) h ∙ tree_of_block x.at body

pub with_is : (x : Step) (setup work : Bor (List Step)) → x.action ≡ action.With setup work → step_tree x ≡ WithStmt x.at (steps_tree setup.now) (steps_tree work.now)
with_is x setup work h = ap (action_tree x.at) h ∙ tree_of_with x.at setup work

pub if_is : (x : Step) (cond : VarPath) (first : Bor (List Step)) (other : Option Other) → x.action ≡ action.If cond first other → step_tree x ≡ IfStmt x.at (var_path_tree cond) (steps_tree first.now) (other_tree other)
if_is x cond first other h = ap (action_tree x.at) h ∙ tree_of_if x.at cond first other

pub else_is : (x : Option Other) (other : Other) → x ≡ Some other → other_tree x ≡ Else (out-Other other).at (steps_tree (out-Other other).steps.now)
else_is x other h = ap other_tree h ∙ tree_of_other other

-- the numbers

module _ (setting : Setting) (fun : _) where
  numbered_row : (n : _) (row : Row_of-Step n) → AreInRow setting fun row ≡ AreNumbered setting fun (items-the_row-Step n row)
  numbered_row n end_of-Step = refl
  numbered_row n (more_of-Step at kind rest) = ap (λ (X : Type 0). IsAction setting fun kind × X) (numbered_row _ rest)

  numbered_slice : (body : Bor (List Step)) → AreInRow setting fun (row_of (action.Block body)).1 ≡ AreNumbered setting fun body.now
  numbered_slice body = let row = row_of (action.Block body) in numbered_row row.0 row.1 ∙ ap (AreNumbered setting fun) (items_hidden-the_row-Step-0 body.now)

  pub numbered_block : (body : Bor (List Step)) → IsAction setting fun (action.Block body) ≡ AreNumbered setting fun body.now
  numbered_block body = numbered_slice body

  pub numbered_with : (setup work : Bor (List Step)) → IsAction setting fun (action.With setup work) ≡ (AreNumbered setting fun setup.now × AreNumbered setting fun work.now)
  numbered_with setup work =
      ap (λ (X : Type 0). X × AreInRow setting fun (row_of (action.Block work)).1) (numbered_slice setup) ∙ ap (λ (X : Type 0). AreNumbered setting fun setup.now × X) (numbered_slice work)

  pub numbered_made : (r : Other-F Action Other Step) → IsOther setting fun (roll-Other r) ≡ AreNumbered setting fun r.steps.now
  unfolding roll-Other denote.Hole.Carrier.roll
  numbered_made r = numbered_slice r.steps

  pub numbered_other : (other : Other) → IsOther setting fun other ≡ AreNumbered setting fun (out-Other other).steps.now
  numbered_other other = sym (ap (IsOther setting fun) (roll-out-Other other)) ∙ numbered_made (out-Other other)

  pub numbered_if : (cond : VarPath) (first : Bor (List Step)) (other : Option Other)
      → IsAction setting fun (action.If cond first other) ≡ (IsVar (numbered_names setting fun) cond.root × AreNumbered setting fun first.now × IsElse setting fun other)
  numbered_if cond first None = ap (λ (X : Type 0). IsVar (numbered_names setting fun) cond.root × X × Unit {0}) (numbered_slice first)
  numbered_if cond first (Some other) = ap (λ (X : Type 0). IsVar (numbered_names setting fun) cond.root × X × IsOther setting fun other) (numbered_slice first)

  -- the same of a statement or an `else` that code has matched

  pub in_let : (x : Step) (forward : Bool) (target : Var) (right : Source) → x.action ≡ action.Let forward target right → IsNumbered setting fun x
      → IsTarget (numbered_names setting fun) target × IsSource setting (numbered_names setting fun) right
  in_let x forward target right h is = transport (ap (IsAction setting fun) h) is

  pub in_swap : (x : Step) (left right : VarPath) → x.action ≡ action.Swap left right → IsNumbered setting fun x
      → IsVar (numbered_names setting fun) left.root × IsVar (numbered_names setting fun) right.root
  in_swap x left right h is = transport (ap (IsAction setting fun) h) is

  pub in_mem_swap : (x : Step) (pointer place : VarPath) (target : Option TargetId) → x.action ≡ action.MemSwap pointer place target → IsNumbered setting fun x → IsAction setting fun (action.MemSwap pointer place target)
  in_mem_swap x pointer place target h is = transport (ap (IsAction setting fun) h) is

  pub in_if : (x : Step) (cond : VarPath) (first : Bor (List Step)) (other : Option Other) → x.action ≡ action.If cond first other → IsNumbered setting fun x
      → IsVar (numbered_names setting fun) cond.root × AreNumbered setting fun first.now × IsElse setting fun other
  in_if x cond first other h is = transport (ap (IsAction setting fun) h ∙ numbered_if cond first other) is

  pub in_with : (x : Step) (setup work : Bor (List Step)) → x.action ≡ action.With setup work → IsNumbered setting fun x → AreNumbered setting fun setup.now × AreNumbered setting fun work.now
  in_with x setup work h is = transport (ap (IsAction setting fun) h ∙ numbered_with setup work) is

  pub in_block : (x : Step) (body : Bor (List Step)) → x.action ≡ action.Block body → IsNumbered setting fun x → AreNumbered setting fun body.now
  in_block x body h is = transport (ap (IsAction setting fun) h ∙ numbered_block body) is

  pub in_else : (x : Option Other) (other : Other) → x ≡ Some other → IsElse setting fun x → AreNumbered setting fun (out-Other other).steps.now
  in_else x other h is = transport (ap (IsElse setting fun) h ∙ numbered_other other) is
