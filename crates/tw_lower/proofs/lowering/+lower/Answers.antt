use Rattle.std.proofs.Common.{◌≡◌, ◌∙◌, ap, subst, sym, refl, arith, ◌+◌, List, drop, map}
use Rattle.std.proofs.lemmas.List.{at_drop_more, at_drop_all}
use Rattle.tw_syntax.specs.declared.statement.No.{out-No}
use Rattle.tw_syntax.specs.Names.{path_tree}
use Rattle.tw_syntax.specs.Statements.{SkipStmt, else_tree, stmt_kind_tree, stmt_tree, stmts_tree}
use Rattle.tw_syntax.proofs.Shapes.{block_is, with_is, if_is, else_is}
use Rattle.tw_code.specs.declared.code.Code.{Code}
use Rattle.tw_code.specs.Trees.{WithCode, code_tree, sequence}
use Rattle.tw_check.proofs.Sizes.{size_of, smaller_below}
use Rattle.tw_frames.specs.Found.{setting_of}
use Rattle.tw_frames.specs.Frames.{if_count}
use Rattle.tw_frames.proofs.OneLayout.{if_ok}
use Rattle.tw_lower.specs.FrameWires.{plain_frame}
use Rattle.tw_lower.specs.Lowering.{CanLower, Lowers, LowersWith, LowersBlock, LowersSkip}
use Rattle.tw_lower.proofs.LoweredParts.{AreLowered, all_lowered, first_can, first_ends, if_answered, lowered_if, lowered_if_else, one_more}
use Rattle.tw_lower.proofs.lowering.+lower.Goals as goal

-- statements

pub lower_stmts-lower_stmt-requires : goal.lower_stmts-lower_stmt-requires
lower_stmts-lower_stmt-requires t c =
    let at = at_drop_more stmts_tree c.args.stmts.now c.loop-stmt.stmt-index _ c.loop-stmt-test.true in (
      smaller_below t c.args.stmts.now c.loop-stmt.stmt-index _ c.loop-stmt-test.true (omega (arith, c.decreases)),
      (first_can _ _ _ _ c.loop-stmt.invariant at, first_ends _ _ _ _ c.args.frame.now.ifs c.requires.ifs c.loop-stmt.invariant at),
    )

pub lower_stmts-loop-stmt-preserved : goal.lower_stmts-loop-stmt-preserved
lower_stmts-loop-stmt-preserved t c =
    let at = at_drop_more stmts_tree c.args.stmts.now c.loop-stmt.stmt-index _ c.loop-stmt-test.true in
    subst (λ (parts : List Code). AreLowered (setting_of c.args.frame.now.body) c.args.frame.now.layout (plain_frame c.args.frame.now) c.args.frame.now.own c.args.number.now c.lower_stmt.new.number (stmts_tree c.args.stmts.now) (stmts_tree (drop (c.loop-stmt.stmt-index + 1) c.args.stmts.now)) parts)
    (sym c.in_ok-push.ensures.items)
    (one_more _ _ _ _ c.in_ok-lower_stmt.field-0 c.loop-stmt.invariant at c.in_ok-lower_stmt.ensures.next c.in_ok-lower_stmt.ensures.lowered)

pub lower_stmts-returns-clause-lowered : goal.lower_stmts-returns-clause-lowered
lower_stmts-returns-clause-lowered t c =
    subst (Lowers (setting_of c.args.frame.now.body) c.args.frame.now.layout (plain_frame c.args.frame.now) c.args.frame.now.own c.args.number.now (stmts_tree c.args.stmts.now))
    (sym (c.sequence.ensures ∙ ap (λ (parts : List Code). sequence (map code_tree parts)) c.into_bump_slice.ensures))
    (all_lowered _ _ _ _ c.loop-stmt.invariant (at_drop_all stmts_tree c.args.stmts.now c.loop-stmt.stmt-index c.loop-stmt-test.false))

-- an `if`

pub lower_if-lower_stmts-requires : goal.lower_if-lower_stmts-requires
lower_if-lower_stmts-requires t c = (omega (arith, c.decreases), (c.requires.first, omega (arith, c.requires.ifs)))

pub lower_if-lower_stmts-requires-in-Some : goal.lower_if-lower_stmts-requires-in-Some
lower_if-lower_stmts-requires-in-Some t c =
    let other = else_is c.args.no.now c.in-Some.other c.in-Some.is in (
      omega (arith, ap size_of other, c.decreases),
      (
        subst (CanLower (setting_of c.args.frame.now.body) c.args.frame.now.layout (plain_frame c.args.frame.now)) other c.requires.other,
        omega (arith, ap if_count other, c.in_ok-taken.ensures.next, c.requires.ifs),
      ),
    )

pub lower_if-returns-in-None-clause-lowered : goal.lower_if-returns-in-None-clause-lowered
lower_if-returns-in-None-clause-lowered t c =
    if_ok c.if_code.result
    (λ code is at. rw c.in-None.is (lowered_if _ _ _ _ at c.path_wire-cond.ensures refl c.in_ok-taken.ensures.lowered is))
    c.if_code.ensures

pub lower_if-returns-in_ok-skipped-in-Some-clause-next : goal.lower_if-returns-in_ok-skipped-in-Some-clause-next
lower_if-returns-in_ok-skipped-in-Some-clause-next t c =
    let other = else_is c.args.no.now c.in-Some.other c.in-Some.is in
    if_answered c.if_else_code.result (omega (arith, ap if_count other, c.in_ok-taken.ensures.next, c.in_ok-skipped-in-Some.ensures.next))

pub lower_if-returns-in_ok-skipped-in-Some-clause-lowered : goal.lower_if-returns-in_ok-skipped-in-Some-clause-lowered
lower_if-returns-in_ok-skipped-in-Some-clause-lowered t c =
    if_ok c.if_else_code.result
    (λ code is at.
    rw (else_is c.args.no.now c.in-Some.other c.in-Some.is)
    (lowered_if_else _ _ _ _ at (out-No c.in-Some.other).at c.path_wire-cond.ensures refl c.in_ok-taken.ensures.lowered c.in_ok-taken.ensures.next c.in_ok-skipped-in-Some.ensures.lowered is))
    c.if_else_code.ensures

-- a statement

pub lower_stmt-lower_if-requires : goal.lower_stmt-lower_if-requires
lower_stmt-lower_if-requires t c =
    let is = if_is c.args.stmt.now c.in-If.cond c.in-If.yes c.in-If.no c.in-If.is in
    let can = subst (CanLower (setting_of c.args.frame.now.body) c.args.frame.now.layout (plain_frame c.args.frame.now)) is c.requires.can in
    (omega (arith, ap size_of is, c.decreases), (can.0, (can.1, omega (arith, ap if_count is, c.requires.ifs))))

pub lower_stmt-lower_stmts-requires : goal.lower_stmt-lower_stmts-requires
lower_stmt-lower_stmts-requires t c =
    let is = with_is c.args.stmt.now c.in-With.setup c.in-With.work c.in-With.is in
    let can = subst (CanLower (setting_of c.args.frame.now.body) c.args.frame.now.layout (plain_frame c.args.frame.now)) is c.requires.can in
    (omega (arith, ap size_of is, c.decreases), (can.0, omega (arith, ap if_count is, c.requires.ifs)))

pub lower_stmt-lower_stmts-requires-in-With : goal.lower_stmt-lower_stmts-requires-in-With
lower_stmt-lower_stmts-requires-in-With t c =
    let is = with_is c.args.stmt.now c.in-With.setup c.in-With.work c.in-With.is in
    let can = subst (CanLower (setting_of c.args.frame.now.body) c.args.frame.now.layout (plain_frame c.args.frame.now)) is c.requires.can in
    (omega (arith, ap size_of is, c.decreases), (can.1, omega (arith, ap if_count is, c.in_ok-setup-in-With.ensures.next, c.requires.ifs)))

pub lower_stmt-lower_stmts-requires-in-Block : goal.lower_stmt-lower_stmts-requires-in-Block
lower_stmt-lower_stmts-requires-in-Block t c =
    let is = block_is c.args.stmt.now c.in-Block.body c.in-Block.is in
    let can = subst (CanLower (setting_of c.args.frame.now.body) c.args.frame.now.layout (plain_frame c.args.frame.now)) is c.requires.can in
    (omega (arith, ap size_of is, c.decreases), (can, omega (arith, ap if_count is, c.requires.ifs)))

pub lower_stmt-returns-in-If-clause-next : goal.lower_stmt-returns-in-If-clause-next
lower_stmt-returns-in-If-clause-next t c = rw (if_is c.args.stmt.now c.in-If.cond c.in-If.yes c.in-If.no c.in-If.is) c.lower_if.ensures.next

pub lower_stmt-returns-in-If-clause-lowered : goal.lower_stmt-returns-in-If-clause-lowered
lower_stmt-returns-in-If-clause-lowered t c =
    if_ok c.lower_if.result
    (λ code lowers. rw (if_is c.args.stmt.now c.in-If.cond c.in-If.yes c.in-If.no c.in-If.is) (lowers c.args.stmt.now.at))
    c.lower_if.ensures.lowered

pub lower_stmt-returns-in_ok-work-in-With-clause-next : goal.lower_stmt-returns-in_ok-work-in-With-clause-next
lower_stmt-returns-in_ok-work-in-With-clause-next t c =
    let is = with_is c.args.stmt.now c.in-With.setup c.in-With.work c.in-With.is in
    if_answered c.with_setup.result (omega (arith, ap if_count is, c.in_ok-setup-in-With.ensures.next, c.in_ok-work-in-With.ensures.next))

pub lower_stmt-returns-in_ok-work-in-With-clause-lowered : goal.lower_stmt-returns-in_ok-work-in-With-clause-lowered
lower_stmt-returns-in_ok-work-in-With-clause-lowered t c =
    if_ok c.with_setup.result
    (λ code same.
    rw (with_is c.args.stmt.now c.in-With.setup c.in-With.work c.in-With.is)
    (subst (Lowers (setting_of c.args.frame.now.body) c.args.frame.now.layout (plain_frame c.args.frame.now) c.args.frame.now.own c.args.number.now _) (sym same)
    (LowersWith c.in_ok-setup-in-With.ensures.lowered
    (subst (λ n. Lowers (setting_of c.args.frame.now.body) c.args.frame.now.layout (plain_frame c.args.frame.now) c.args.frame.now.own n (stmts_tree c.in-With.work.now) (code_tree c.in_ok-work-in-With.work)) c.in_ok-setup-in-With.ensures.next c.in_ok-work-in-With.ensures.lowered))))
    c.with_setup.ensures

pub lower_stmt-returns-in-Block-clause-next : goal.lower_stmt-returns-in-Block-clause-next
lower_stmt-returns-in-Block-clause-next t c = rw (block_is c.args.stmt.now c.in-Block.body c.in-Block.is) c.lower_stmts-in-Block.ensures.next

pub lower_stmt-returns-in-Block-clause-lowered : goal.lower_stmt-returns-in-Block-clause-lowered
lower_stmt-returns-in-Block-clause-lowered t c =
    if_ok c.lower_stmts-in-Block.result
    (λ code lowers. rw (block_is c.args.stmt.now c.in-Block.body c.in-Block.is) (LowersBlock lowers))
    c.lower_stmts-in-Block.ensures.lowered

pub lower_stmt-returns-in-Skip-clause-lowered : goal.lower_stmt-returns-in-Skip-clause-lowered
lower_stmt-returns-in-Skip-clause-lowered t c =
    let is : stmt_tree c.args.stmt.now ≡ SkipStmt c.args.stmt.now.at = ap (stmt_kind_tree c.args.stmt.now.at) c.in-Skip.is in
    rw (is, c.sequence.ensures) LowersSkip
