use Rattle.std.proofs.Common.{◌≡◌, ◌∙◌, ap, subst, sym, [], ◌∷◌, option_map}
use Rattle.tw_syntax.proofs.Shapes.{block_is, with_is, if_is, else_is}
use Rattle.tw_syntax.specs.Names.{name_tree, path_tree}
use Rattle.tw_syntax.specs.Programs.{fun_tree}
use Rattle.tw_syntax.specs.Statements.{StmtTree, stmts_tree}
use Rattle.tw_syntax.specs.Terms.{bound_tree, expr_tree}
use Rattle.tw_syntax.specs.Types.{written_tree}
use Rattle.tw_types.specs.Types.{Widths}
use Rattle.tw_code.specs.Rows.{alloc_rows, mem_swap_rows}
use Rattle.tw_resolve.specs.Expressions.{type_at_path}
use Rattle.tw_resolve.specs.Setting.{reported}
use Rattle.tw_state.specs.Steps.{Activation, activation_of}
use Rattle.tw_state.proofs.Basics.{same_some}
use Rattle.tw_frames.specs.Found.{setting_of, types_of}
use Rattle.tw_frames.specs.Sizes.{type_size}
use Rattle.tw_frames.proofs.PathTypes.{path_types, types_are}
use Rattle.tw_cost.specs.Costs.{capped_cost, cost_of, in_turn}
use Rattle.tw_cost.specs.Counting.{FindsInside, activation_at}
use Rattle.tw_cost.proofs.Counted.{LeftOf, finds_alloc, finds_block, finds_branch, finds_call, finds_expr, finds_if, finds_if_else, finds_mem_swap, finds_skip, finds_swap, finds_with, left_first, left_next, left_done}
use Rattle.tw_cost.proofs.counting.+count.Goals as goal

pub count_stmts-loop-stmt-init : goal.count_stmts-loop-stmt-init
count_stmts-loop-stmt-init t c =
    let whole = stmts_tree c.args.stmts.now in
    subst (LeftOf (setting_of c.args.body.now) c.args.circuit (activation_at c.args.body.now c.args.own) c.args.left c.args.under whole whole) (sym c.nothing-total.ensures)
    (left_first (setting_of c.args.body.now) c.args.circuit (activation_at c.args.body.now c.args.own) c.args.left c.args.under whole)

pub count_stmts-loop-stmt-preserved : goal.count_stmts-loop-stmt-preserved
count_stmts-loop-stmt-preserved t c =
    left_next (setting_of c.args.body.now) c.args.circuit (activation_at c.args.body.now c.args.own) c.args.left c.args.under (stmts_tree c.args.stmts.now) c.args.stmts.now c.loop-stmt.stmt-index _
    c.loop-stmt-test.true c.loop-stmt.total c.loop-stmt.invariant c.count_stmt.ensures c.then-total.ensures

pub count_stmts-returns : goal.count_stmts-returns
count_stmts-returns t c =
    left_done (setting_of c.args.body.now) c.args.circuit (activation_at c.args.body.now c.args.own) c.args.left c.args.under (stmts_tree c.args.stmts.now) c.args.stmts.now c.loop-stmt.stmt-index
    c.loop-stmt.total c.loop-stmt-test.false c.loop-stmt.invariant

pub count_branch-returns : goal.count_branch-returns
count_branch-returns t c =
    finds_branch (setting_of c.args.body.now) c.args.circuit (activation_at c.args.body.now c.args.own) c.args.left c.args.under
    c.branch_controls-controls.ensures c.cost_of_collecting.ensures c.count_block-inside.ensures c.then.ensures

pub count_if-returns-in-Some : goal.count_if-returns-in-Some
count_if-returns-in-Some t c =
    λ at cond.
    rw (else_is _ c.in-Some.other c.in-Some.is)
    (finds_if_else (setting_of c.args.body.now) c.args.circuit (activation_at c.args.body.now c.args.own) c.args.left c.args.under
    (c.cost_of.ensures ∙ (λ i. cost_of c.args.circuit.level (c.new.ensures i ∷ c.new-in-Some.ensures i ∷ [])))
    c.count_branch-first.ensures c.count_branch-second.ensures c.then.ensures c.then-in-Some.ensures)

pub count_if-returns-in-None : goal.count_if-returns-in-None
count_if-returns-in-None t c =
    λ at cond.
    rw c.in-None.is
    (finds_if (setting_of c.args.body.now) c.args.circuit (activation_at c.args.body.now c.args.own) c.args.left c.args.under
    (c.cost_of-in-None.ensures ∙ (λ i. cost_of c.args.circuit.level (c.new-in-None.ensures i ∷ []))) c.count_branch-first.ensures c.then-in-None.ensures)

pub count_fun-returns : goal.count_fun-returns
count_fun-returns t c = λ fun is.
    let setting = setting_of c.args.body.now in
    let f = fun_tree c.fun_at.result.now in
    let same : f ≡ fun = same_some c.fun_at.ensures is in
    let types = types_are setting c.args.body.now.fun fun is in
    let at : (activation_at c.args.body.now c.args.own, f.body) ≡ (activation_of setting fun c.args.own, fun.body) = λ i. (record { types = types i; bound = c.args.own }, (same i).body) in
    subst (λ (z : Activation × StmtTree). FindsInside setting c.args.circuit z.0 c.args.left c.args.under z.1 c.count_block.result) at c.count_block.ensures

pub count_callee-returns : goal.count_callee-returns
count_callee-returns t c =
    λ at forward target args.
    finds_call (setting_of c.args.body.now) c.args.circuit (activation_at c.args.body.now c.args.own) c.args.left c.args.under
    (name_tree c.args.callee.now) (option_map bound_tree c.args.bound.now) at forward target args c.in-Some.number c.in-Some-fun_named.fun
    (sym c.callee_bound.ensures ∙ c.in-Some.is) (sym c.fun_named.ensures ∙ c.in-Some-fun_named.is) c.count_fun.ensures

pub count_stmt-returns-in-Expr : goal.count_stmt-returns-in-Expr
count_stmt-returns-in-Expr t c =
    rw (c.in-Let.is, c.in-Expr.is)
    (finds_expr (setting_of c.args.body.now) c.args.circuit (activation_at c.args.body.now c.args.own) c.args.left c.args.under
    c.args.stmt.now.at c.in-Let.forward (name_tree c.in-Let.target) (expr_tree c.in-Expr.expr) c.cost_of_expr.ensures)

pub count_stmt-returns-in-Alloc : goal.count_stmt-returns-in-Alloc
count_stmt-returns-in-Alloc t c =
    rw (c.in-Let.is, c.in-Alloc.is)
    (finds_alloc (setting_of c.args.body.now) c.args.circuit (activation_at c.args.body.now c.args.own) c.args.left c.args.under
    c.args.stmt.now.at c.in-Let.forward (name_tree c.in-Let.target) (written_tree c.in-Alloc.field-0.now)
    (c.cost_of_alloc.ensures ∙ ap (λ (w : Widths). cost_of c.args.circuit.level (alloc_rows w.addr c.args.under)) c.widths.ensures))

pub count_stmt-returns-in-If : goal.count_stmt-returns-in-If
count_stmt-returns-in-If t c = rw (if_is c.args.stmt.now c.in-If.cond c.in-If.yes c.in-If.no c.in-If.is) (c.count_if.ensures c.args.stmt.now.at (path_tree c.in-If.cond))

pub count_stmt-returns-in-With : goal.count_stmt-returns-in-With
count_stmt-returns-in-With t c =
    rw (with_is c.args.stmt.now c.in-With.setup c.in-With.work c.in-With.is)
    (finds_with (setting_of c.args.body.now) c.args.circuit (activation_at c.args.body.now c.args.own) c.args.left c.args.under
    c.setup_controls-controls.ensures c.count_block-before.ensures c.count_block-inner.ensures
    (c.then-in-With.ensures ∙ ap (λ cost. capped_cost (in_turn cost c.count_block-inner.result)) c.then.ensures))

pub count_stmt-returns-in-Block : goal.count_stmt-returns-in-Block
count_stmt-returns-in-Block t c =
    rw (block_is c.args.stmt.now c.in-Block.inner c.in-Block.is)
    (finds_block (setting_of c.args.body.now) c.args.circuit (activation_at c.args.body.now c.args.own) c.args.left c.args.under c.count_block.ensures)

pub count_stmt-returns-in-Swap : goal.count_stmt-returns-in-Swap
count_stmt-returns-in-Swap t c =
    let setting = setting_of c.args.body.now in
    let first = path_tree c.in-Swap.first in
    let bits = c.bits_of_path.ensures ∙ ap (λ ty. reported (type_size setting.widths ty)) (path_types setting c.args.body.now.fun first) in
    rw c.in-Swap.is
    (finds_swap (setting_of c.args.body.now) c.args.circuit (activation_at c.args.body.now c.args.own) c.args.left c.args.under
    c.args.stmt.now.at first (path_tree c.in-Swap.field-1) (c.cost_of_swap.ensures (type_size setting.widths _) bits))

pub count_stmt-returns-in-MemSwap : goal.count_stmt-returns-in-MemSwap
count_stmt-returns-in-MemSwap t c =
    let setting = setting_of c.args.body.now in
    let value = path_tree c.in-MemSwap.value in
    let size = type_size setting.widths (type_at_path (types_of c.args.body.now) value) in
    let bits = c.bits_of_path-in-MemSwap.ensures ∙ ap (λ ty. reported (type_size setting.widths ty)) (path_types setting c.args.body.now.fun value) in
    rw c.in-MemSwap.is
    (finds_mem_swap (setting_of c.args.body.now) c.args.circuit (activation_at c.args.body.now c.args.own) c.args.left c.args.under
    c.args.stmt.now.at (path_tree c.in-MemSwap.field-0) value
    (c.cost_of_mem_swap.ensures size bits ∙ ap (λ (w : Widths). cost_of c.args.circuit.level (mem_swap_rows w.addr size c.args.under)) c.widths-in-MemSwap.ensures))

pub count_stmt-returns-in-Skip : goal.count_stmt-returns-in-Skip
count_stmt-returns-in-Skip t c =
    rw (c.in-Skip.is, c.nothing.ensures) (finds_skip (setting_of c.args.body.now) c.args.circuit (activation_at c.args.body.now c.args.own) c.args.left c.args.under c.args.stmt.now.at)
