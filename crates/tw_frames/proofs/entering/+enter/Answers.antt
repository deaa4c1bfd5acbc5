use Rattle.std.proofs.Common.{◌≡◌, ◌∙◌, sym, ap, subst}
use Rattle.tw_syntax.proofs.Shapes.{block_is, with_is, if_is, else_is}
use Rattle.tw_syntax.specs.Programs.{FunTree, fun_tree}
use Rattle.tw_syntax.specs.Statements.{stmts_tree}
use Rattle.tw_resolve.specs.Expressions.{Types}
use Rattle.tw_resolve.specs.Resolved.{resolved_setting}
use Rattle.tw_resolve.specs.Setting.{reported}
use Rattle.tw_state.specs.Depth.{IsWithin}
use Rattle.tw_state.proofs.Basics.{same_some}
use Rattle.tw_frames.specs.Found.{setting_of}
use Rattle.tw_frames.specs.Frames.{frame_size}
use Rattle.tw_frames.specs.Scratch.{stmt_scratch, fun_scratch}
use Rattle.tw_frames.specs.Workspaces.{Needs}
use Rattle.tw_frames.proofs.PathTypes.{types_are}
use Rattle.tw_frames.proofs.Entered.{finds_if, finds_with, finds_block, finds_else, left_next, left_done, enters}
use Rattle.tw_frames.proofs.entering.+enter.Goals as goal

pub enter_else-returns-in-Some : goal.enter_else-returns-in-Some
enter_else-returns-in-Some t c = rw (else_is _ c.in-Some.other c.in-Some.is) (finds_else (resolved_setting c.args.program.now) c.args.left c.args.own c.enter_block.ensures)

pub enter_fun-returns : goal.enter_fun-returns
enter_fun-returns t c =
    λ fun inner is deep within a needs.
    let setting = setting_of c.args.body.now in
    let f = fun_tree c.fun_at.result.now in
    let same : fun ≡ f = same_some is c.fun_at.ensures in
    let callees = c.enter_block-callees.ensures inner deep (subst (λ (g : FunTree). IsWithin setting inner c.args.own g.body) same within) a (subst (λ (g : FunTree). Needs setting c.args.own g.body a) same needs) in
    let scratch = c.scratch_of_stmts.ensures
    ∙ ap (λ (types : Types). reported (stmt_scratch setting types f.body)) (types_are setting c.args.body.now.fun f c.fun_at.ensures)
    ∙ ap (λ g. reported (fun_scratch setting g)) (sym same) in
    enters a (frame_size setting fun) (fun_scratch setting fun) c.frame_size.result c.scratch_of_stmts.result (c.frame_size.ensures fun is) scratch callees c.saturating_add.ensures c.max.ensures

pub enter_stmt-returns-in-If : goal.enter_stmt-returns-in-If
enter_stmt-returns-in-If t c =
    rw (if_is c.args.stmt.now c.in-If.cond c.in-If.yes c.in-If.no c.in-If.is, c.shared.ensures) (finds_if (resolved_setting c.args.program.now) c.args.left c.args.own c.enter_block-first.ensures c.enter_else.ensures)

pub enter_stmt-returns-in-With : goal.enter_stmt-returns-in-With
enter_stmt-returns-in-With t c =
    rw (with_is c.args.stmt.now c.in-With.setup c.in-With.work c.in-With.is, c.shared-in-With.ensures) (finds_with (resolved_setting c.args.program.now) c.args.left c.args.own c.enter_block-before.ensures c.enter_block.ensures)

pub enter_stmt-returns-in-Block : goal.enter_stmt-returns-in-Block
enter_stmt-returns-in-Block t c = rw (block_is c.args.stmt.now c.in-Block.inner c.in-Block.is) (finds_block (resolved_setting c.args.program.now) c.args.left c.args.own c.enter_block-in-Block.ensures)

pub enter_stmts-loop-stmt-preserved : goal.enter_stmts-loop-stmt-preserved
enter_stmts-loop-stmt-preserved t c =
    left_next (resolved_setting c.args.program.now) c.args.left c.args.own (stmts_tree c.args.stmts.now) c.args.stmts.now c.loop-stmt.stmt-index _ c.loop-stmt-test.true c.loop-stmt.most c.loop-stmt.invariant
    c.enter_stmt.ensures c.shared-most.ensures

pub enter_stmts-returns : goal.enter_stmts-returns
enter_stmts-returns t c =
    left_done (resolved_setting c.args.program.now) c.args.left c.args.own (stmts_tree c.args.stmts.now) c.args.stmts.now c.loop-stmt.stmt-index c.loop-stmt.most c.loop-stmt-test.false c.loop-stmt.invariant
