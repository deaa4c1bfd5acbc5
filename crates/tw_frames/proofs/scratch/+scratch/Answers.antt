use Rattle.std.proofs.Common.{◌∙◌, arith, ap, sym}
use Rattle.std.proofs.lemmas.List.{at_drop_more, at_drop_all}
use Rattle.tw_syntax.proofs.Shapes.{block_is, with_is, if_is, else_is}
use Rattle.tw_syntax.specs.Names.{path_tree}
use Rattle.tw_syntax.specs.Statements.{stmts_tree, stmt_kind_tree}
use Rattle.tw_resolve.specs.Setting.{reported}
use Rattle.tw_frames.specs.Found.{setting_of, types_of}
use Rattle.tw_frames.specs.Scratch.{stmt_scratch}
use Rattle.tw_frames.specs.Sizes.{type_size}
use Rattle.tw_frames.proofs.Counting.{max_first, max_next, max_last}
use Rattle.tw_frames.proofs.PathTypes.{path_types}
use Rattle.tw_frames.proofs.scratch.+scratch.Goals as goal

pub scratch_of_stmts-loop-stmt-init : goal.scratch_of_stmts-loop-stmt-init
scratch_of_stmts-loop-stmt-init t c = max_first (stmt_scratch (setting_of c.args.body.now) (types_of c.args.body.now) (stmts_tree c.args.stmts.now))

pub scratch_of_stmts-loop-stmt-preserved : goal.scratch_of_stmts-loop-stmt-preserved
scratch_of_stmts-loop-stmt-preserved t c =
    max_next _ _ c.loop-stmt.invariant
    (at_drop_more (λ xs. stmt_scratch (setting_of c.args.body.now) (types_of c.args.body.now) (stmts_tree xs)) c.args.stmts.now c.loop-stmt.stmt-index _ c.loop-stmt-test.true)
    c.scratch_of_stmt.ensures c.max-most.ensures

pub scratch_of_stmts-returns : goal.scratch_of_stmts-returns
scratch_of_stmts-returns t c =
    max_last c.loop-stmt.invariant (at_drop_all (λ xs. stmt_scratch (setting_of c.args.body.now) (types_of c.args.body.now) (stmts_tree xs)) c.args.stmts.now c.loop-stmt.stmt-index c.loop-stmt-test.false)

pub scratch_of_else-returns-in-Some : goal.scratch_of_else-returns-in-Some
scratch_of_else-returns-in-Some t c = rw (else_is _ c.in-Some.other c.in-Some.is) c.scratch_of_stmts.ensures

pub scratch_of_stmt-returns-in-If : goal.scratch_of_stmt-returns-in-If
scratch_of_stmt-returns-in-If t c =
    let first = c.scratch_of_stmts-first.ensures in
    let other = c.scratch_of_else.ensures in
    let most = c.max.ensures in
    rw (if_is c.args.stmt.now c.in-If.cond c.in-If.yes c.in-If.no c.in-If.is) (omega (arith, first, other, most))

pub scratch_of_stmt-returns-in-With : goal.scratch_of_stmt-returns-in-With
scratch_of_stmt-returns-in-With t c =
    let before = c.scratch_of_stmts-before.ensures in
    let inner = c.scratch_of_stmts.ensures in
    let most = c.max-in-With.ensures in
    rw (with_is c.args.stmt.now c.in-With.setup c.in-With.work c.in-With.is) (omega (arith, before, inner, most))

pub scratch_of_stmt-returns-in-Block : goal.scratch_of_stmt-returns-in-Block
scratch_of_stmt-returns-in-Block t c = rw (block_is c.args.stmt.now c.in-Block.inner c.in-Block.is) c.scratch_of_stmts-in-Block.ensures

pub scratch_of_stmt-returns-in-MemSwap : goal.scratch_of_stmt-returns-in-MemSwap
scratch_of_stmt-returns-in-MemSwap t c =
    let setting = setting_of c.args.body.now in
    c.scratch_of_mem_swap.ensures (type_size setting.widths _) (c.bits_of_path.ensures ∙ ap (λ ty. reported (type_size setting.widths ty)) (path_types setting c.args.body.now.fun (path_tree c.in-MemSwap.value)))
    ∙ ap (λ kind. reported (stmt_scratch setting (types_of c.args.body.now) (stmt_kind_tree c.args.stmt.now.at kind))) (sym c.in-MemSwap.is)
