use Rattle.std.proofs.Common.{◌∙◌, ap, ap₂, sym, subst, arith, List, [], ◌∷◌, map}
use Rattle.std.proofs.Math.Path.{transport⁻¹}
use Rattle.std.proofs.lemmas.List.{take_all}
use Rattle.std.proofs.lemmas.Option.{slice_get-get_or}
use Rattle.tw_syntax.specs.declared.statement.No.{out-No}
use Rattle.tw_syntax.specs.declared.statement.Stmt.{Stmt}
use Rattle.tw_syntax.specs.Names.{path_tree}
use Rattle.tw_syntax.specs.Statements.{StmtTree, Else, IfStmt, WithStmt, BlockStmt, else_tree, stmt_tree, stmts_tree}
use Rattle.tw_syntax.proofs.Shapes as shapes
use Rattle.tw_resolve.specs.Resolved.{resolved_setting}
use Rattle.tw_resolve.proofs.Each.{each_first, each_rest, each-append}
use Rattle.tw_check.specs.Liveness.{names_of}
use Rattle.tw_interp.specs.declared.numbered.Step.{Step}
use Rattle.tw_interp.specs.Numbered.{AreKnown, AreNumbered, IsKnown, IsNumbered, numbered_names}
use Rattle.tw_interp.specs.NumberedTrees.{other_tree, steps_tree}
use Rattle.tw_interp.proofs.StepShapes.{tree_of_block, tree_of_with, tree_of_if, tree_of_made, numbered_block, numbered_with, numbered_if, numbered_made}
use Rattle.tw_interp.proofs.Preparing.{one_more, trees_are, known_at}
use Rattle.tw_interp.proofs.prepare.+prepare.Goals as goal

pub prepare-loop-stmt-preserved : goal.prepare-loop-stmt-preserved
prepare-loop-stmt-preserved t c = (
  one_more c.loop-stmt.steps.items c.push.new.self.items c.in_ok-prepare_stmt.field-0 c.args.stmts.now c.loop-stmt.stmt-index _ c.in_ok-push.ensures.items c.loop-stmt.invariant.0 c.loop-stmt-test.true c.in_ok-prepare_stmt.ensures.tree,
  λ known.
      let setting = resolved_setting c.args.numbering.now.program.now in
      let fun = c.args.numbering.now.fun in
      let stmts = c.args.stmts.now in
      let i = c.loop-stmt.stmt-index in
      subst (λ (steps : List Step). AreNumbered setting fun steps) (sym c.in_ok-push.ensures.items)
      (each-append (IsNumbered setting fun) c.loop-stmt.steps.items (c.in_ok-prepare_stmt.field-0 ∷ []) (c.loop-stmt.invariant.1 known)
      (c.in_ok-prepare_stmt.ensures.number (known_at (numbered_names setting fun) stmts i _ (slice_get-get_or stmts i _ c.loop-stmt-test.true) known), tt)),
)

pub prepare-returns-clause-tree : goal.prepare-returns-clause-tree
prepare-returns-clause-tree t c =
    ap steps_tree c.into_bump_slice.ensures
    ∙ trees_are c.loop-stmt.steps.items c.args.stmts.now
    (c.loop-stmt.invariant.0 ∙ ap (λ (stmts : List Stmt). map stmt_tree stmts) (take_all c.loop-stmt.stmt-index c.args.stmts.now (omega (arith, c.loop-stmt-test.false))))

pub prepare_else-returns-in_ok-steps-in-Some-clause-tree : goal.prepare_else-returns-in_ok-steps-in-Some-clause-tree
prepare_else-returns-in_ok-steps-in-Some-clause-tree t c =
    let other = out-No c.in-Some.other in
    tree_of_made (record { at = other.at; steps = c.in_ok-steps-in-Some.steps })
    ∙ ap (Else other.at) c.in_ok-steps-in-Some.ensures.tree
    ∙ sym (shapes.else_is c.args.no.now c.in-Some.other c.in-Some.is)

pub prepare_else-returns-in_ok-steps-in-Some-clause-number : goal.prepare_else-returns-in_ok-steps-in-Some-clause-number
prepare_else-returns-in_ok-steps-in-Some-clause-number t c = λ known.
    let setting = resolved_setting c.args.numbering.now.program.now in
    let fun = c.args.numbering.now.fun in
    let names = numbered_names setting fun in
    transport⁻¹ (numbered_made setting fun (record { at = (out-No c.in-Some.other).at; steps = c.in_ok-steps-in-Some.steps }))
    (c.in_ok-steps-in-Some.ensures.number (subst (λ (s : StmtTree). AreKnown names s) (shapes.else_is c.args.no.now c.in-Some.other c.in-Some.is) known))

pub prepare_stmt-returns-in_ok-no-in-If-clause-tree : goal.prepare_stmt-returns-in_ok-no-in-If-clause-tree
prepare_stmt-returns-in_ok-no-in-If-clause-tree t c =
    tree_of_if c.args.stmt.now.at c.path-cond.result c.in_ok-yes-in-If.yes c.in_ok-no-in-If.no
    ∙ ap (λ cond. IfStmt c.args.stmt.now.at cond (steps_tree c.in_ok-yes-in-If.yes.now) (other_tree c.in_ok-no-in-If.no)) c.path-cond.ensures.tree
    ∙ ap₂ (IfStmt c.args.stmt.now.at (path_tree c.in-If.cond)) c.in_ok-yes-in-If.ensures.tree c.in_ok-no-in-If.ensures.tree
    ∙ sym (shapes.if_is c.args.stmt.now c.in-If.cond c.in-If.yes c.in-If.no c.in-If.is)

pub prepare_stmt-returns-in_ok-no-in-If-clause-number : goal.prepare_stmt-returns-in_ok-no-in-If-clause-number
prepare_stmt-returns-in_ok-no-in-If-clause-number t c = λ all.
    let setting = resolved_setting c.args.numbering.now.program.now in
    let fun = c.args.numbering.now.fun in
    let names = numbered_names setting fun in
    let first = names_of (stmts_tree c.in-If.yes.now) in
    let other = names_of (else_tree c.in-If.no) in
    let known = subst (λ (s : StmtTree). AreKnown names s) (shapes.if_is c.args.stmt.now c.in-If.cond c.in-If.yes c.in-If.no c.in-If.is) all in
    transport⁻¹ (numbered_if setting fun c.path-cond.result c.in_ok-yes-in-If.yes c.in_ok-no-in-If.no) (
      c.path-cond.ensures.number,
      c.in_ok-yes-in-If.ensures.number (each_first (IsKnown names) first other known.1),
      c.in_ok-no-in-If.ensures.number (each_rest (IsKnown names) first other known.1),
    )

pub prepare_stmt-returns-in_ok-work-in-With-clause-tree : goal.prepare_stmt-returns-in_ok-work-in-With-clause-tree
prepare_stmt-returns-in_ok-work-in-With-clause-tree t c =
    tree_of_with c.args.stmt.now.at c.in_ok-setup-in-With.setup c.in_ok-work-in-With.work
    ∙ ap₂ (WithStmt c.args.stmt.now.at) c.in_ok-setup-in-With.ensures.tree c.in_ok-work-in-With.ensures.tree
    ∙ sym (shapes.with_is c.args.stmt.now c.in-With.setup c.in-With.work c.in-With.is)

pub prepare_stmt-returns-in_ok-work-in-With-clause-number : goal.prepare_stmt-returns-in_ok-work-in-With-clause-number
prepare_stmt-returns-in_ok-work-in-With-clause-number t c = λ all.
    let setting = resolved_setting c.args.numbering.now.program.now in
    let fun = c.args.numbering.now.fun in
    let names = numbered_names setting fun in
    let first = names_of (stmts_tree c.in-With.setup.now) in
    let rest = names_of (stmts_tree c.in-With.work.now) in
    let known = subst (λ (s : StmtTree). AreKnown names s) (shapes.with_is c.args.stmt.now c.in-With.setup c.in-With.work c.in-With.is) all in
    transport⁻¹ (numbered_with setting fun c.in_ok-setup-in-With.setup c.in_ok-work-in-With.work)
    (c.in_ok-setup-in-With.ensures.number (each_first (IsKnown names) first rest known), c.in_ok-work-in-With.ensures.number (each_rest (IsKnown names) first rest known))

pub prepare_stmt-returns-in_ok-prepare-in-Block-clause-tree : goal.prepare_stmt-returns-in_ok-prepare-in-Block-clause-tree
prepare_stmt-returns-in_ok-prepare-in-Block-clause-tree t c =
    tree_of_block c.args.stmt.now.at c.in_ok-prepare-in-Block.field-0
    ∙ ap (BlockStmt c.args.stmt.now.at) c.in_ok-prepare-in-Block.ensures.tree
    ∙ sym (shapes.block_is c.args.stmt.now c.in-Block.body c.in-Block.is)

pub prepare_stmt-returns-in_ok-prepare-in-Block-clause-number : goal.prepare_stmt-returns-in_ok-prepare-in-Block-clause-number
prepare_stmt-returns-in_ok-prepare-in-Block-clause-number t c = λ all.
    let setting = resolved_setting c.args.numbering.now.program.now in
    let fun = c.args.numbering.now.fun in
    transport⁻¹ (numbered_block setting fun c.in_ok-prepare-in-Block.field-0)
    (c.in_ok-prepare-in-Block.ensures.number (subst (λ (s : StmtTree). AreKnown (numbered_names setting fun) s) (shapes.block_is c.args.stmt.now c.in-Block.body c.in-Block.is) all))
