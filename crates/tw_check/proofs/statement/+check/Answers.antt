use denote.Bor.{Bor}
use Rattle.std.proofs.Common.{◌≡◌, ◌∙◌, ap, subst, refl, ℕ, ◌+◌, Bool, List, [], ◌∷◌, ◌++◌, get_or, drop, None, arith}
use Rattle.std.proofs.lemmas.List.{at_drop_more}
use Rattle.tw_text.specs.declared.refusal.Rule.TheVariants as rule
use Rattle.tw_resolve.specs.Demands.{demand, first_broken, IsReported}
use Rattle.tw_syntax.specs.declared.statement.No.{out-No}
use Rattle.tw_syntax.specs.Names.{path_tree}
use Rattle.tw_syntax.specs.Statements.{stmt_tree, stmts_tree, else_tree, IfStmt, WithStmt, Else, Nothing}
use Rattle.tw_syntax.proofs.Shapes.{block_is, with_is, if_is, else_is}
use Rattle.tw_check.specs.Liveness.{names_of}
use Rattle.tw_check.specs.Walks.{set_of, put_back, Now, now_of, after}
use Rattle.tw_check.specs.Names.{with_name}
use Rattle.tw_check.proofs.Sizes.{size_of, smaller_below}
use Rattle.tw_check.proofs.Walking.{left_step, left_stopped, walk_stopped, walk_passed, walk_stayed}
use Rattle.tw_check.proofs.Lists.{mentioned_is, both_mentioned_are}
use Rattle.tw_check.proofs.Notes.{noted_agree}
use Rattle.tw_check.proofs.Withs.{with_stopped_setup, with_stopped_work, with_stopped_end, with_kept, with_passed}
use Rattle.tw_check.proofs.Branches.{within, if_stopped_cond, if_stopped_first, if_kept, else_stopped_first, else_back, else_stopped_other, else_stopped_end, else_kept, else_ends, held_as_before}
use Rattle.tw_check.proofs.statement.+check.Goals as goal

pub check_stmts-check_stmt-requires : goal.check_stmts-check_stmt-requires
check_stmts-check_stmt-requires t c =
    (smaller_below t c.args.stmts.now c.loop-stmt.stmt-index _ c.loop-stmt-test.true (omega (arith, c.decreases)), tt)

pub check_stmt-check_if-requires : goal.check_stmt-check_if-requires
check_stmt-check_if-requires t c =
    let e = ap size_of (if_is c.args.stmt.now c.in-If.cond c.in-If.yes c.in-If.no c.in-If.is) in
    (omega (arith, e, c.decreases), tt)

pub check_stmt-check_with-requires : goal.check_stmt-check_with-requires
check_stmt-check_with-requires t c =
    let e = ap size_of (with_is c.args.stmt.now c.in-With.setup c.in-With.work c.in-With.is) in
    (omega (arith, e, c.decreases), tt)

pub check_stmt-check_stmts-requires : goal.check_stmt-check_stmts-requires
check_stmt-check_stmts-requires t c =
    let e = ap size_of (block_is c.args.stmt.now c.in-Block.body c.in-Block.is) in
    (omega (arith, e, c.decreases), tt)

pub check_if-check_stmts-requires-in-Some-2 : goal.check_if-check_stmts-requires-in-Some-2
check_if-check_stmts-requires-in-Some-2 t c =
    let e = ap size_of (else_is c.args.no.now c.in-Some.other c.in-Some.is) in
    (omega (arith, e, c.decreases), tt)

pub check_stmts-returns-in_err-check_stmt : goal.check_stmts-returns-in_err-check_stmt
check_stmts-returns-in_err-check_stmt t c =
    let stmts = c.args.stmts.now in
    let e = c.in_err-check_stmt.field-0.0 in
    walk_stopped (stmts_tree stmts) (now_of c.args.walk.now) (now_of c.check_stmt.new.walk) c.from_residual.result e c.from_residual.ensures.1
    (left_stopped (stmts_tree stmts) (stmt_tree (get_or stmts c.loop-stmt.stmt-index _)) (stmts_tree (drop (c.loop-stmt.stmt-index + 1) stmts)) (stmts_tree (drop c.loop-stmt.stmt-index stmts)) (now_of c.args.walk.now) (now_of c.loop-stmt.walk) e
    (at_drop_more stmts_tree stmts c.loop-stmt.stmt-index _ c.loop-stmt-test.true) c.loop-stmt.invariant c.in_err-check_stmt.ensures.tried.reported)

pub check_stmts-loop-stmt-preserved : goal.check_stmts-loop-stmt-preserved
check_stmts-loop-stmt-preserved t c =
    let stmts = c.args.stmts.now in
    left_step (stmts_tree stmts) (stmt_tree (get_or stmts c.loop-stmt.stmt-index _)) (stmts_tree (drop (c.loop-stmt.stmt-index + 1) stmts)) (stmts_tree (drop c.loop-stmt.stmt-index stmts)) (now_of c.args.walk.now) (now_of c.loop-stmt.walk) (now_of c.check_stmt.new.walk)
    (at_drop_more stmts_tree stmts c.loop-stmt.stmt-index _ c.loop-stmt-test.true) c.loop-stmt.invariant c.in_ok-check_stmt.ensures.tried.kept c.in_ok-check_stmt.ensures.passed

pub check_stmt-returns-in-Let : goal.check_stmt-returns-in-Let
check_stmt-returns-in-Let t c = rw (c.in-Let.is) (c.check_let.ensures c.args.stmt.now.at)

pub check_stmt-returns-in-Swap : goal.check_stmt-returns-in-Swap
check_stmt-returns-in-Swap t c = rw (c.in-Swap.is) (walk_stayed _ _ _ (c.check_swap.ensures c.args.stmt.now.at) (λ live. refl))

pub check_stmt-returns-in-MemSwap : goal.check_stmt-returns-in-MemSwap
check_stmt-returns-in-MemSwap t c = rw (c.in-MemSwap.is) (walk_stayed _ _ _ (c.check_mem_swap.ensures c.args.stmt.now.at) (λ live. refl))

pub check_stmt-returns-in-If : goal.check_stmt-returns-in-If
check_stmt-returns-in-If t c = rw (if_is c.args.stmt.now c.in-If.cond c.in-If.yes c.in-If.no c.in-If.is) (c.check_if.ensures c.args.stmt.now.at)

pub check_stmt-returns-in-With : goal.check_stmt-returns-in-With
check_stmt-returns-in-With t c = rw (with_is c.args.stmt.now c.in-With.setup c.in-With.work c.in-With.is) c.check_with.ensures

pub check_stmt-returns-in-Block : goal.check_stmt-returns-in-Block
check_stmt-returns-in-Block t c = rw (block_is c.args.stmt.now c.in-Block.body c.in-Block.is) (record { tried = c.check_stmts.ensures.tried; passed = c.check_stmts.ensures.passed })

pub check_with-returns-in_err-check_stmts : goal.check_with-returns-in_err-check_stmts
check_with-returns-in_err-check_stmts t c =
    let setup = stmts_tree c.args.setup.now in
    let work = stmts_tree c.args.work.now in
    let old = now_of c.args.walk.now in
    let e = c.in_err-check_stmts.field-0.0 in
    walk_stopped (WithStmt c.args.at setup work) old (now_of c.check_stmts.new.walk) c.from_residual-in_err-check_stmts.result e c.from_residual-in_err-check_stmts.ensures.1
    (with_stopped_setup c.args.at setup work old e c.in_err-check_stmts.ensures.tried.reported)

pub check_with-returns-in_err-check_stmts-2 : goal.check_with-returns-in_err-check_stmts-2
check_with-returns-in_err-check_stmts-2 t c =
    let setup = stmts_tree c.args.setup.now in
    let work = stmts_tree c.args.work.now in
    let old = now_of c.args.walk.now in
    let ready = now_of c.check_stmts.new.walk in
    let e = c.in_err-check_stmts-2.field-0.0 in
    walk_stopped (WithStmt c.args.at setup work) old (now_of c.check_stmts-2.new.walk) c.from_residual-in_err-check_stmts-2.result e c.from_residual-in_err-check_stmts-2.ensures.1
    (with_stopped_work c.args.at setup work old ready (after work ready) c.in_ok-check_stmts.ensures.passed refl e c.in_ok-check_stmts.ensures.tried.kept c.in_err-check_stmts-2.ensures.tried.reported)

pub check_with-returns-in_err-need : goal.check_with-returns-in_err-need
check_with-returns-in_err-need t c =
    let setup = stmts_tree c.args.setup.now in
    let work = stmts_tree c.args.work.now in
    let old = now_of c.args.walk.now in
    let ready = now_of c.check_stmts.new.walk in
    let done = now_of c.check_stmts-2.new.walk in
    let e = c.in_err-need.field-0.0 in
    let all = mentioned_is c.new-names.result.items c.deref-2.result.now c.push_mentioned.new.names.items (names_of setup) c.deref-2.ensures.value c.in_ok-push_mentioned.ensures c.new-names.ensures.items in
    let test = c.is_as_noted.ensures ∙ noted_agree c.deref-3.result.now c.deref-2.result.now (names_of setup) ready.live done.live (c.deref-3.ensures.value ∙ c.in_ok-ready.ensures) all in
    walk_stopped (WithStmt c.args.at setup work) old done c.from_residual-in_err-need.result e c.from_residual-in_err-need.ensures.1
    (with_stopped_end c.args.at setup work old ready done c.in_ok-check_stmts.ensures.passed c.in_ok-check_stmts-2.ensures.passed e c.in_ok-check_stmts.ensures.tried.kept c.in_ok-check_stmts-2.ensures.tried.kept
    (subst (λ holds. IsReported (first_broken (demand rule.WithNotUndone c.args.at holds ∷ [])) e) test c.in_err-need.ensures.reported))

pub check_with-returns : goal.check_with-returns
check_with-returns t c =
    let setup = stmts_tree c.args.setup.now in
    let work = stmts_tree c.args.work.now in
    let old = now_of c.args.walk.now in
    let ready = now_of c.check_stmts.new.walk in
    let done = now_of c.check_stmts-2.new.walk in
    let all = mentioned_is c.new-names.result.items c.deref-2.result.now c.push_mentioned.new.names.items (names_of setup) c.deref-2.ensures.value c.in_ok-push_mentioned.ensures c.new-names.ensures.items in
    let all_before = mentioned_is c.new-names.result.items c.deref.result.now c.push_mentioned.new.names.items (names_of setup) c.deref.ensures.value c.in_ok-push_mentioned.ensures c.new-names.ensures.items in
    let test = c.is_as_noted.ensures ∙ noted_agree c.deref-3.result.now c.deref-2.result.now (names_of setup) ready.live done.live (c.deref-3.ensures.value ∙ c.in_ok-ready.ensures) all in
    let none_end = subst (λ holds. first_broken (demand rule.WithNotUndone c.args.at holds ∷ []) ≡ None) test c.in_ok-need.ensures.kept in
    let put = c.in_ok-put_back.ensures ∙ ap (λ (notes : List (Bor (List ℕ) × Bool)). put_back notes done.live) (c.deref-4.ensures.value ∙ c.in_ok-before.ensures) in
    walk_passed (WithStmt c.args.at setup work) old _ tt
    (with_kept c.args.at setup work old ready done c.in_ok-check_stmts.ensures.passed c.in_ok-check_stmts-2.ensures.passed c.in_ok-check_stmts.ensures.tried.kept c.in_ok-check_stmts-2.ensures.tried.kept none_end)
    (with_passed c.args.at setup work old ready done c.in_ok-check_stmts.ensures.passed c.in_ok-check_stmts-2.ensures.passed c.deref.result.now (set_of c.put_back.new.self) all_before c.in_ok-check_stmts.ensures.tried.kept none_end put)

pub check_if-returns-in_err-need_live : goal.check_if-returns-in_err-need_live
check_if-returns-in_err-need_live t c = λ at.
    let cond = path_tree c.args.cond.now in
    let first = stmts_tree c.args.yes.now in
    let old = now_of c.args.walk.now in
    let e = c.in_err-need_live.field-0.0 in
    walk_stopped (IfStmt at cond first (else_tree c.args.no.now)) old old c.from_residual.result e c.from_residual.ensures.1
    (if_stopped_cond at cond first c.args.no.now old e c.in_err-need_live.ensures.reported)

pub check_if-returns-in_err-check_stmts-in-None : goal.check_if-returns-in_err-check_stmts-in-None
check_if-returns-in_err-check_stmts-in-None t c = λ at.
    let cond = path_tree c.args.cond.now in
    let first = stmts_tree c.args.yes.now in
    let old = now_of c.args.walk.now in
    let inner : Now = record { held = set_of c.set.new.self; live = old.live } in
    let e = c.in_err-check_stmts-in-None.field-0.0 in
    let to_inner : inner ≡ within cond old = ap (λ held. record { held = held; live = old.live }) c.in_ok-set.ensures in
    rw (ap else_tree c.in-None.is)
    (walk_stopped (IfStmt at cond first Nothing) old (now_of c.check_stmts.new.walk) c.from_residual-in_err-check_stmts-in-None.result e c.from_residual-in_err-check_stmts-in-None.ensures.1
    (if_stopped_first at cond first old inner to_inner c.in_ok-need_live.ensures.kept e c.in_err-check_stmts-in-None.ensures.tried.reported))

pub check_if-returns-in_ok-set-in-None : goal.check_if-returns-in_ok-set-in-None
check_if-returns-in_ok-set-in-None t c = λ at.
    let cond = path_tree c.args.cond.now in
    let first = stmts_tree c.args.yes.now in
    let old = now_of c.args.walk.now in
    let inner : Now = record { held = set_of c.set.new.self; live = old.live } in
    let to_inner : inner ≡ within cond old = ap (λ held. record { held = held; live = old.live }) c.in_ok-set.ensures in
    let to_end = c.in_ok-check_stmts-in-None.ensures.passed ∙ ap (after first) to_inner in
    let back = c.in_ok-set-in-None.ensures ∙ ap (λ now. with_name now.held cond.root.text c.has-was_held.result) to_end in
    rw (ap else_tree c.in-None.is)
    (walk_passed (IfStmt at cond first Nothing) old _ tt
    (if_kept at cond first old inner to_inner c.in_ok-need_live.ensures.kept c.in_ok-check_stmts-in-None.ensures.tried.kept)
    (held_as_before cond old (set_of c.set-in-None.new.self) old.live (set_of c.check_stmts.new.walk.live) c.has-was_held.result first Nothing at c.has-was_held.ensures back (ap (λ now. now.live) to_end)))

pub check_if-returns-in_err-check_stmts-in-Some : goal.check_if-returns-in_err-check_stmts-in-Some
check_if-returns-in_err-check_stmts-in-Some t c = λ at.
    let cond = path_tree c.args.cond.now in
    let first = stmts_tree c.args.yes.now in
    let second = out-No c.in-Some.other in
    let old = now_of c.args.walk.now in
    let inner : Now = record { held = set_of c.set.new.self; live = old.live } in
    let e = c.in_err-check_stmts-in-Some.field-0.0 in
    let to_inner : inner ≡ within cond old = ap (λ held. record { held = held; live = old.live }) c.in_ok-set.ensures in
    rw (else_is c.args.no.now c.in-Some.other c.in-Some.is)
    (walk_stopped (IfStmt at cond first (Else second.at (stmts_tree second.stmts.now))) old (now_of c.check_stmts-in-Some.new.walk) c.from_residual-in_err-check_stmts-in-Some.result e c.from_residual-in_err-check_stmts-in-Some.ensures.1
    (else_stopped_first at cond first old inner to_inner c.in_ok-need_live.ensures.kept second.at (stmts_tree second.stmts.now) e c.in_err-check_stmts-in-Some.ensures.tried.reported))

pub check_if-returns-in_err-check_stmts-in-Some-2 : goal.check_if-returns-in_err-check_stmts-in-Some-2
check_if-returns-in_err-check_stmts-in-Some-2 t c = λ at.
    let cond = path_tree c.args.cond.now in
    let first = stmts_tree c.args.yes.now in
    let second = out-No c.in-Some.other in
    let other = stmts_tree second.stmts.now in
    let old = now_of c.args.walk.now in
    let inner : Now = record { held = set_of c.set.new.self; live = old.live } in
    let one = now_of c.check_stmts-in-Some.new.walk in
    let back : Now = record { held = one.held; live = set_of c.put_back.new.self } in
    let e = c.in_err-check_stmts-in-Some-2.field-0.0 in
    let to_inner : inner ≡ within cond old = ap (λ held. record { held = held; live = old.live }) c.in_ok-set.ensures in
    let to_one = c.in_ok-check_stmts-in-Some.ensures.passed in
    let none_cond = c.in_ok-need_live.ensures.kept in
    let all = both_mentioned_are c.new-names.result.items c.deref.result.now c.push_mentioned.new.names.items c.push_mentioned-in-Some.new.names.items (names_of first) (names_of other) c.deref.ensures.value c.in_ok-push_mentioned-in-Some-2.ensures c.in_ok-push_mentioned-in-Some.ensures c.new-names.ensures.items in
    let put = c.in_ok-put_back-in-Some.ensures ∙ ap (λ (notes : List (Bor (List ℕ) × Bool)). put_back notes one.live) (c.deref-in-Some-2.ensures.value ∙ c.in_ok-before-in-Some.ensures) in
    let to_back = else_back at cond first old inner to_inner none_cond other one c.deref.result.now (set_of c.put_back.new.self) to_one all put in
    rw (else_is c.args.no.now c.in-Some.other c.in-Some.is)
    (walk_stopped (IfStmt at cond first (Else second.at other)) old (now_of c.check_stmts-in-Some-2.new.walk) c.from_residual-in_err-check_stmts-in-Some-2.result e c.from_residual-in_err-check_stmts-in-Some-2.ensures.1
    (else_stopped_other at second.at cond first other old inner one back (after other back) to_inner to_one to_back refl e none_cond c.in_ok-check_stmts-in-Some.ensures.tried.kept c.in_err-check_stmts-in-Some-2.ensures.tried.reported))

pub check_if-returns-in_err-need-in-Some : goal.check_if-returns-in_err-need-in-Some
check_if-returns-in_err-need-in-Some t c = λ at.
    let cond = path_tree c.args.cond.now in
    let first = stmts_tree c.args.yes.now in
    let second = out-No c.in-Some.other in
    let other = stmts_tree second.stmts.now in
    let old = now_of c.args.walk.now in
    let inner : Now = record { held = set_of c.set.new.self; live = old.live } in
    let one = now_of c.check_stmts-in-Some.new.walk in
    let back : Now = record { held = one.held; live = set_of c.put_back.new.self } in
    let two = now_of c.check_stmts-in-Some-2.new.walk in
    let e = c.in_err-need-in-Some.field-0.0 in
    let to_inner : inner ≡ within cond old = ap (λ held. record { held = held; live = old.live }) c.in_ok-set.ensures in
    let to_one = c.in_ok-check_stmts-in-Some.ensures.passed in
    let to_two = c.in_ok-check_stmts-in-Some-2.ensures.passed in
    let none_cond = c.in_ok-need_live.ensures.kept in
    let all = both_mentioned_are c.new-names.result.items c.deref.result.now c.push_mentioned.new.names.items c.push_mentioned-in-Some.new.names.items (names_of first) (names_of other) c.deref.ensures.value c.in_ok-push_mentioned-in-Some-2.ensures c.in_ok-push_mentioned-in-Some.ensures c.new-names.ensures.items in
    let all_after = both_mentioned_are c.new-names.result.items c.deref-in-Some.result.now c.push_mentioned.new.names.items c.push_mentioned-in-Some.new.names.items (names_of first) (names_of other) c.deref-in-Some.ensures.value c.in_ok-push_mentioned-in-Some-2.ensures c.in_ok-push_mentioned-in-Some.ensures c.new-names.ensures.items in
    let put = c.in_ok-put_back-in-Some.ensures ∙ ap (λ (notes : List (Bor (List ℕ) × Bool)). put_back notes one.live) (c.deref-in-Some-2.ensures.value ∙ c.in_ok-before-in-Some.ensures) in
    let to_back = else_back at cond first old inner to_inner none_cond other one c.deref.result.now (set_of c.put_back.new.self) to_one all put in
    let test = c.is_as_noted.ensures ∙ noted_agree c.deref-in-Some-3.result.now c.deref-in-Some.result.now (names_of first ++ names_of other) one.live two.live (c.deref-in-Some-3.ensures.value ∙ c.in_ok-after-in-Some.ensures) all_after in
    rw (else_is c.args.no.now c.in-Some.other c.in-Some.is)
    (walk_stopped (IfStmt at cond first (Else second.at other)) old two c.from_residual-in_err-need-in-Some.result e c.from_residual-in_err-need-in-Some.ensures.1
    (else_stopped_end at second.at cond first other old inner one back two to_inner to_one to_back to_two e none_cond c.in_ok-check_stmts-in-Some.ensures.tried.kept c.in_ok-check_stmts-in-Some-2.ensures.tried.kept
    (subst (λ holds. IsReported (first_broken (demand rule.BranchesDiffer second.at holds ∷ [])) e) test c.in_err-need-in-Some.ensures.reported)))

pub check_if-returns-in_ok-set-in-Some : goal.check_if-returns-in_ok-set-in-Some
check_if-returns-in_ok-set-in-Some t c = λ at.
    let cond = path_tree c.args.cond.now in
    let first = stmts_tree c.args.yes.now in
    let second = out-No c.in-Some.other in
    let other = stmts_tree second.stmts.now in
    let old = now_of c.args.walk.now in
    let inner : Now = record { held = set_of c.set.new.self; live = old.live } in
    let one = now_of c.check_stmts-in-Some.new.walk in
    let back : Now = record { held = one.held; live = set_of c.put_back.new.self } in
    let two = now_of c.check_stmts-in-Some-2.new.walk in
    let to_inner : inner ≡ within cond old = ap (λ held. record { held = held; live = old.live }) c.in_ok-set.ensures in
    let to_one = c.in_ok-check_stmts-in-Some.ensures.passed in
    let to_two = c.in_ok-check_stmts-in-Some-2.ensures.passed in
    let none_cond = c.in_ok-need_live.ensures.kept in
    let all = both_mentioned_are c.new-names.result.items c.deref.result.now c.push_mentioned.new.names.items c.push_mentioned-in-Some.new.names.items (names_of first) (names_of other) c.deref.ensures.value c.in_ok-push_mentioned-in-Some-2.ensures c.in_ok-push_mentioned-in-Some.ensures c.new-names.ensures.items in
    let all_after = both_mentioned_are c.new-names.result.items c.deref-in-Some.result.now c.push_mentioned.new.names.items c.push_mentioned-in-Some.new.names.items (names_of first) (names_of other) c.deref-in-Some.ensures.value c.in_ok-push_mentioned-in-Some-2.ensures c.in_ok-push_mentioned-in-Some.ensures c.new-names.ensures.items in
    let put = c.in_ok-put_back-in-Some.ensures ∙ ap (λ (notes : List (Bor (List ℕ) × Bool)). put_back notes one.live) (c.deref-in-Some-2.ensures.value ∙ c.in_ok-before-in-Some.ensures) in
    let to_back = else_back at cond first old inner to_inner none_cond other one c.deref.result.now (set_of c.put_back.new.self) to_one all put in
    let test = c.is_as_noted.ensures ∙ noted_agree c.deref-in-Some-3.result.now c.deref-in-Some.result.now (names_of first ++ names_of other) one.live two.live (c.deref-in-Some-3.ensures.value ∙ c.in_ok-after-in-Some.ensures) all_after in
    let none_end = subst (λ holds. first_broken (demand rule.BranchesDiffer second.at holds ∷ []) ≡ None) test c.in_ok-need-in-Some.ensures.kept in
    let ends = else_ends at second.at cond first other old inner one back two to_inner to_one to_back to_two none_end in
    let held = c.in_ok-set-in-Some.ensures ∙ ap (λ now. with_name now.held cond.root.text c.has-was_held.result) ends in
    rw (else_is c.args.no.now c.in-Some.other c.in-Some.is)
    (walk_passed (IfStmt at cond first (Else second.at other)) old _ tt
    (else_kept at second.at cond first other old inner one back two to_inner to_one to_back to_two none_cond c.in_ok-check_stmts-in-Some.ensures.tried.kept c.in_ok-check_stmts-in-Some-2.ensures.tried.kept none_end)
    (held_as_before cond old (set_of c.set-in-Some.new.self) old.live two.live c.has-was_held.result first (Else second.at other) at c.has-was_held.ensures held (ap (λ now. now.live) ends)))
