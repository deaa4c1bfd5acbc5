use Rattle.std.proofs.Common.{arith}
use Rattle.std.proofs.lemmas.List.{at_drop_more, at_drop_all}
use Rattle.tw_syntax.proofs.Shapes.{block_is, with_is, if_is, else_is}
use Rattle.tw_syntax.specs.Statements.{stmts_tree}
use Rattle.tw_frames.specs.Frames.{if_count}
use Rattle.tw_frames.proofs.Counting.{sum_first, sum_next, sum_last}
use Rattle.tw_frames.proofs.frames.+count.Goals as goal

pub count_ifs-loop-stmt-init : goal.count_ifs-loop-stmt-init
count_ifs-loop-stmt-init t c = sum_first (if_count (stmts_tree c.args.stmts.now))

pub count_ifs-loop-stmt-preserved : goal.count_ifs-loop-stmt-preserved
count_ifs-loop-stmt-preserved t c =
    sum_next _ _ c.loop-stmt.invariant (at_drop_more (λ xs. if_count (stmts_tree xs)) c.args.stmts.now c.loop-stmt.stmt-index _ c.loop-stmt-test.true)
    c.count_ifs_of.ensures c.saturating_add-total.ensures

pub count_ifs-returns : goal.count_ifs-returns
count_ifs-returns t c = sum_last c.loop-stmt.invariant (at_drop_all (λ xs. if_count (stmts_tree xs)) c.args.stmts.now c.loop-stmt.stmt-index c.loop-stmt-test.false)

pub count_ifs_of-returns-in-If : goal.count_ifs_of-returns-in-If
count_ifs_of-returns-in-If t c =
    let first = c.count_ifs-first.ensures in
    let other = c.count_ifs_of_else.ensures in
    let both = c.saturating_add.ensures in
    let all = c.saturating_add-in-If.ensures in
    rw (if_is c.args.stmt.now c.in-If.cond c.in-If.yes c.in-If.no c.in-If.is) (omega (arith, first, other, both, all))

pub count_ifs_of-returns-in-With : goal.count_ifs_of-returns-in-With
count_ifs_of-returns-in-With t c =
    let before = c.count_ifs-before.ensures in
    let inner = c.count_ifs.ensures in
    let both = c.saturating_add-in-With.ensures in
    rw (with_is c.args.stmt.now c.in-With.setup c.in-With.work c.in-With.is) (omega (arith, before, inner, both))

pub count_ifs_of-returns-in-Block : goal.count_ifs_of-returns-in-Block
count_ifs_of-returns-in-Block t c = rw (block_is c.args.stmt.now c.in-Block.inner c.in-Block.is) c.count_ifs-in-Block.ensures

pub count_ifs_of_else-returns-in-Some : goal.count_ifs_of_else-returns-in-Some
count_ifs_of_else-returns-in-Some t c = rw (else_is _ c.in-Some.other c.in-Some.is) c.count_ifs.ensures
