use Rattle.std.proofs.Common.{◌≡◌, ◌∙◌, ◌-◌, ap, ap₂, sym, subst, subst₂, arith, suc, ℕ, Bool, true, false, List, take, Some, Ok, Err, map, option_map}
use Rattle.std.proofs.lemmas.List.{at_drop_more}
use Rattle.std.proofs.lemmas.Option.{slice_get-get_or}
use Rattle.tw_syntax.specs.Programs.{program_tree}
use Rattle.tw_syntax.specs.Statements.{StmtTree, IfStmt, LetStmt}
use Rattle.tw_syntax.specs.Terms.{CallRhs, bound_tree}
use Rattle.tw_types.specs.Values.{Truth}
use Rattle.tw_resolve.specs.Declarations.{funs_of}
use Rattle.tw_resolve.specs.Resolved.{type_at}
use Rattle.tw_resolve.proofs.Each.{each_at}
use Rattle.tw_check.specs.Reverse.{reverse_of}
use Rattle.tw_state.specs.States.{Name, State, Store}
use Rattle.tw_state.specs.Steps.{put_back, seen}
use Rattle.tw_interp.specs.declared.numbered.Other.{out-Other}
use Rattle.tw_interp.specs.Following.{Follows, FollowsInside, FollowsWithin}
use Rattle.tw_interp.specs.Frames.{store_of}
use Rattle.tw_interp.specs.Machines.{activation_of, names_of, setting_of, state_in, state_of}
use Rattle.tw_interp.specs.Numbered.{IsNumbered, numbered_names, shared_names}
use Rattle.tw_interp.specs.NumberedTrees.{action_tree, other_tree, source_tree, steps_tree, var_path_tree, var_tree}
use Rattle.tw_interp.proofs.Ahead.{ahead_none}
use Rattle.tw_interp.proofs.Calling.{call_zero, call_stopped, call_done, names_differ}
use Rattle.tw_interp.proofs.Leading.{Loops, nothing_left}
use Rattle.tw_interp.proofs.Links.{shared_are}
use Rattle.tw_interp.proofs.Looping.{err_is, forward_step, forward_stopped, backward_step, backward_stopped, follows_untrue, follows_true, follows_else, follows_not, follows_let, follows_block}
use Rattle.tw_interp.proofs.Ready.{item_at}
use Rattle.tw_interp.proofs.StepShapes.{block_is, with_is, if_is, else_is, in_block, in_else, in_if, in_let, in_with}
use Rattle.tw_interp.proofs.run.+run.Goals as goal

pub run_forward-loop-step-preserved : goal.run_forward-loop-step-preserved
run_forward-loop-step-preserved t c = λ are within.
    let setting = setting_of c.args.act.now in
    let steps = c.args.steps.now in
    let i = c.loop-step.step-index in
    forward_step setting (activation_of c.args.act.now) c.args.left (at_drop_more steps_tree steps i _ c.loop-step-test.true) (c.loop-step.invariant are within)
    (c.in_ok-run_step.ensures (each_at (IsNumbered setting c.args.act.now.fun) steps i _ are (slice_get-get_or steps i _ c.loop-step-test.true)))

pub run_forward-returns-in_err-run_step : goal.run_forward-returns-in_err-run_step
run_forward-returns-in_err-run_step t c = λ are within.
    let act = c.args.act.now in
    let setting = setting_of act in
    let steps = c.args.steps.now in
    let i = c.loop-step.step-index in
    subst (λ r. Follows setting (activation_of act) (steps_tree steps) (state_in act c.args.machine.now) (state_in act c.run_step.new.machine) r)
    (err_is c.from_residual.result c.in_err-run_step.field-0.0 c.from_residual.ensures.1)
    (forward_stopped setting (activation_of act) c.args.left c.in_err-run_step.field-0.0 (at_drop_more steps_tree steps i _ c.loop-step-test.true) (c.loop-step.invariant are within)
    (c.in_err-run_step.ensures (each_at (IsNumbered setting act.fun) steps i _ are (slice_get-get_or steps i _ c.loop-step-test.true))))

pub run_forward-returns : goal.run_forward-returns
run_forward-returns t c = λ are within.
    let act = c.args.act.now in
    let setting = setting_of act in
    let steps = c.args.steps.now in
    let done = ahead_none steps c.loop-step.step-index (omega (arith, c.loop-step-test.false)) in
    nothing_left setting (activation_of act)
    (subst (λ rest. Loops setting (activation_of act) c.args.left true (steps_tree steps) (steps_tree rest) (state_in act c.args.machine.now) (state_in act c.loop-step.machine)) done (c.loop-step.invariant are within)).left

pub run_backward-loop-i-preserved : goal.run_backward-loop-i-preserved
run_backward-loop-i-preserved t c = (
  omega (arith, c.loop-i.invariant.0),
  λ are within.
      let act = c.args.act.now in
      let setting = setting_of act in
      let steps = c.args.steps.now in
      let i = c.loop-i.i - 1 in
      let more : c.loop-i.i ≡ suc i = omega (arith, c.loop-i-test.true) in
      let at = slice_get-get_or steps i _ (omega (arith, c.loop-i.invariant.0, c.loop-i-test.true)) in
      backward_step setting (activation_of act) c.args.left steps i _ at
      (subst (λ (n : ℕ). Loops setting (activation_of act) c.args.left false (steps_tree steps) (steps_tree (take n steps)) (state_in act c.args.machine.now) (state_in act c.loop-i.machine)) more (c.loop-i.invariant.1 are within))
      (c.in_ok-run_step.ensures (each_at (IsNumbered setting act.fun) steps i _ are at)),
)

pub run_backward-returns-in_err-run_step : goal.run_backward-returns-in_err-run_step
run_backward-returns-in_err-run_step t c = λ are within.
    let act = c.args.act.now in
    let setting = setting_of act in
    let steps = c.args.steps.now in
    let i = c.loop-i.i - 1 in
    let more : c.loop-i.i ≡ suc i = omega (arith, c.loop-i-test.true) in
    let at = slice_get-get_or steps i _ (omega (arith, c.loop-i.invariant.0, c.loop-i-test.true)) in
    subst (λ r. Follows setting (activation_of act) (reverse_of (steps_tree steps)) (state_in act c.args.machine.now) (state_in act c.run_step.new.machine) r)
    (err_is c.from_residual.result c.in_err-run_step.field-0.0 c.from_residual.ensures.1)
    (backward_stopped setting (activation_of act) c.args.left steps i _ c.in_err-run_step.field-0.0 at
    (subst (λ (n : ℕ). Loops setting (activation_of act) c.args.left false (steps_tree steps) (steps_tree (take n steps)) (state_in act c.args.machine.now) (state_in act c.loop-i.machine)) more (c.loop-i.invariant.1 are within))
    (c.in_err-run_step.ensures (each_at (IsNumbered setting act.fun) steps i _ are at)))

pub run_backward-returns : goal.run_backward-returns
run_backward-returns t c = λ are within.
    let act = c.args.act.now in
    let setting = setting_of act in
    let steps = c.args.steps.now in
    let done : c.loop-i.i ≡ 0 = omega (arith, c.loop-i-test.false) in
    nothing_left setting (activation_of act)
    (subst (λ (n : ℕ). Loops setting (activation_of act) c.args.left false (steps_tree steps) (steps_tree (take n steps)) (state_in act c.args.machine.now) (state_in act c.loop-i.machine)) done (c.loop-i.invariant.1 are within)).left

pub run_if-returns-in_default : goal.run_if-returns-in_default
run_if-returns-in_default t c = λ is_cond are is_else.
    let act = c.args.act.now in
    follows_untrue (setting_of act) (activation_of act) c.args.left c.args.forward c.args.at (var_path_tree c.args.cond.now) (steps_tree c.args.yes.now) (state_in act c.args.machine.now) _ _
    (other_tree c.args.no.now) (c.in_default.ensures.none (names_of act) is_cond)

pub run_if-returns-then-is : goal.run_if-returns-then-is
run_if-returns-then-is t c = λ is_cond are is_else.
    let act = c.args.act.now in
    follows_true (setting_of act) (activation_of act) c.args.left c.args.forward c.args.at (var_path_tree c.args.cond.now) (steps_tree c.args.yes.now) (state_in act c.args.machine.now) _ _
    (other_tree c.args.no.now) (c.in-Some.ensures.truth (names_of act) is_cond ∙ ap (λ is. Some (Truth is)) c.if-is.true) (c.run_block.ensures are)

pub run_if-returns-in-Some-no : goal.run_if-returns-in-Some-no
run_if-returns-in-Some-no t c = λ is_cond are is_else.
    let act = c.args.act.now in
    let setting = setting_of act in
    let cond = var_path_tree c.args.cond.now in
    let first = steps_tree c.args.yes.now in
    let other = out-Other c.in-Some-no.other in
    subst (λ (no : StmtTree). FollowsWithin setting (activation_of act) c.args.left c.args.forward (IfStmt c.args.at cond first no) (state_in act c.args.machine.now) (state_in act c.run_block-in-Some-no.new.machine) c.run_block-in-Some-no.result)
    (sym (else_is c.args.no.now c.in-Some-no.other c.in-Some-no.is))
    (follows_else setting (activation_of act) c.args.left c.args.forward c.args.at cond first (state_in act c.args.machine.now) _ _ other.at (steps_tree other.steps.now)
    (c.in-Some.ensures.truth (names_of act) is_cond ∙ ap (λ is. Some (Truth is)) c.if-is.false)
    (c.run_block-in-Some-no.ensures (in_else setting act.fun c.args.no.now c.in-Some-no.other c.in-Some-no.is is_else)))

pub run_if-returns-in-None : goal.run_if-returns-in-None
run_if-returns-in-None t c = λ is_cond are is_else.
    let act = c.args.act.now in
    let setting = setting_of act in
    let cond = var_path_tree c.args.cond.now in
    let first = steps_tree c.args.yes.now in
    subst (λ (no : StmtTree). FollowsWithin setting (activation_of act) c.args.left c.args.forward (IfStmt c.args.at cond first no) (state_in act c.args.machine.now) (state_in act c.pad.new.machine) c.pad.result)
    (sym (ap other_tree c.in-None.is))
    (follows_not setting (activation_of act) c.args.left c.args.forward c.args.at cond first (state_in act c.args.machine.now) _ _
    (c.in-Some.ensures.truth (names_of act) is_cond ∙ ap (λ is. Some (Truth is)) c.if-is.false) (c.pad.ensures are))

pub run_step-returns-in-Let : goal.run_step-returns-in-Let
run_step-returns-in-Let t c = λ is.
    let act = c.args.act.now in
    let parts = in_let (setting_of act) act.fun c.args.step.now c.in-Let.assigns c.in-Let.target c.in-Let.source c.in-Let.is is in
    subst (λ (s : StmtTree). FollowsWithin (setting_of act) (activation_of act) c.args.left c.args.forward s (state_in act c.args.machine.now) (state_in act c.run_let.new.machine) c.run_let.result)
    (sym (ap (action_tree c.args.step.now.at) c.in-Let.is))
    (follows_let (setting_of act) (activation_of act) c.args.left c.args.forward c.in-Let.assigns c.args.step.now.at (var_tree c.in-Let.target) (source_tree c.in-Let.source) (state_in act c.args.machine.now) _ _
    (c.run_let.ensures parts.0 parts.1))

pub run_step-returns-in-If : goal.run_step-returns-in-If
run_step-returns-in-If t c = λ is.
    let act = c.args.act.now in
    let parts = in_if (setting_of act) act.fun c.args.step.now c.in-If.cond c.in-If.yes c.in-If.no c.in-If.is is in
    subst (λ (s : StmtTree). FollowsWithin (setting_of act) (activation_of act) c.args.left c.args.forward s (state_in act c.args.machine.now) (state_in act c.run_if.new.machine) c.run_if.result)
    (sym (if_is c.args.step.now c.in-If.cond c.in-If.yes c.in-If.no c.in-If.is)) (c.run_if.ensures parts.0 parts.1 parts.2)

pub run_step-returns-in-With : goal.run_step-returns-in-With
run_step-returns-in-With t c = λ is.
    let act = c.args.act.now in
    let parts = in_with (setting_of act) act.fun c.args.step.now c.in-With.setup c.in-With.work c.in-With.is is in
    subst (λ (s : StmtTree). FollowsWithin (setting_of act) (activation_of act) c.args.left c.args.forward s (state_in act c.args.machine.now) (state_in act c.run_with.new.machine) c.run_with.result)
    (sym (with_is c.args.step.now c.in-With.setup c.in-With.work c.in-With.is)) (c.run_with.ensures parts.0 parts.1)

pub run_step-returns-in-Block : goal.run_step-returns-in-Block
run_step-returns-in-Block t c = λ is.
    let act = c.args.act.now in
    subst (λ (s : StmtTree). FollowsWithin (setting_of act) (activation_of act) c.args.left c.args.forward s (state_in act c.args.machine.now) (state_in act c.run_block.new.machine) c.run_block.result)
    (sym (block_is c.args.step.now c.in-Block.body c.in-Block.is))
    (follows_block (setting_of act) (activation_of act) c.args.left c.args.forward c.args.step.now.at (steps_tree c.in-Block.body.now) (state_in act c.args.machine.now) _ _
    (c.run_block.ensures (in_block (setting_of act) act.fun c.args.step.now c.in-Block.body c.in-Block.is is)))

pub run_block-returns-then-forward : goal.run_block-returns-then-forward
run_block-returns-then-forward t c = λ are inner deep.
    let act = c.args.act.now in
    let less : c.args.left - 1 ≡ inner = omega (arith, deep) in
    subst₂ (λ (n : ℕ) (k : Bool). FollowsWithin (setting_of act) (activation_of act) n k (steps_tree c.args.steps.now) (state_in act c.args.machine.now) (state_in act c.run_forward.new.machine) c.run_forward.result)
    less (sym c.if-forward.true) (c.run_forward.ensures are)

pub run_block-returns-else-forward : goal.run_block-returns-else-forward
run_block-returns-else-forward t c = λ are inner deep.
    let act = c.args.act.now in
    let less : c.args.left - 1 ≡ inner = omega (arith, deep) in
    subst₂ (λ (n : ℕ) (k : Bool). FollowsWithin (setting_of act) (activation_of act) n k (steps_tree c.args.steps.now) (state_in act c.args.machine.now) (state_in act c.run_backward.new.machine) c.run_backward.result)
    less (sym c.if-forward.false) (c.run_backward.ensures are)

pub run_call-returns-in_default-callee_bound : goal.run_call-returns-in_default-callee_bound
run_call-returns-in_default-callee_bound t c = λ callee is_target is_number are_args.
    let act = c.args.act.now in
    call_zero (setting_of act) (activation_of act) c.args.at (var_tree c.args.target.now) callee (option_map bound_tree c.args.bound.now) (map var_tree c.args.args.now)
    (state_in act c.args.machine.now) c.in-Some.number (sym c.in-Some.is ∙ is_number) c.args.left c.args.assigns _ _ c.in_default-callee_bound.ensures (c.call_without_body.ensures is_target)

pub run_call-returns-in_err-run_block : goal.run_call-returns-in_err-run_block
run_call-returns-in_err-run_block t c = λ callee is_target is_number are_args within.
    let act = c.args.act.now in
    let setting = setting_of act in
    let names = names_of act in
    let number = c.in-Some.number in
    let inner = numbered_names setting number in
    let old = state_in act c.args.machine.now in
    let target = c.args.target.now in
    let args = c.args.args.now in
    let body = c.body-body.result in
    let fun = item_at (funs_of (program_tree act.runner.now.checked.now.resolved.program.now).decls) number (omega (arith, c.if-number-fun_count.false, c.fun_count.ensures)) in
    let is_body = c.body-body.ensures fun.0 fun.1 in
    let entered : State = record old { store = store_of inner c.replace-caller.new.dest } in
    let left = state_of inner c.run_block.new.machine in
    let e = c.in_err-run_block.field-0.0 in
    subst (λ r. Follows setting (activation_of act) (LetStmt c.args.at c.args.assigns (var_tree target) (CallRhs callee (option_map bound_tree c.args.bound.now) (map var_tree args))) old (state_in act c.run_block.new.machine) r)
    (err_is c.from_residual-in_err-run_block.result e c.from_residual-in_err-run_block.ensures.1)
    (call_stopped setting (activation_of act) c.args.at (var_tree target) callee (option_map bound_tree c.args.bound.now) (map var_tree args) old number (sym c.in-Some.is ∙ is_number) fun.0 c.in-Some-callee_bound.number_of_bound
    fun.1 c.in-Some-callee_bound.ensures c.args.left c.args.assigns within entered left
    (ap (λ (s : Store). record old { store = s })
    (ap (store_of inner) c.replace-caller.ensures.after
    ∙ c.in_ok-frame.ensures names inner is_body.are_params is_body.is_returned is_target are_args
    ∙ ap (λ (l : List (Name × Name)). seen l old.store) (shared_are setting number fun.0 body target args is_body)))
    (state_in act c.run_block.new.machine) e
    (subst (λ (s : StmtTree). FollowsInside {A = Unit {0}} setting (record { types = type_at setting number; bound = c.in-Some-callee_bound.number_of_bound }) c.args.left c.args.assigns s entered left (Err e)) is_body.steps
    (c.in_err-run_block.ensures is_body.are_numbered)))

pub run_call-returns : goal.run_call-returns
run_call-returns t c = λ callee is_target is_number are_args within.
    let act = c.args.act.now in
    let setting = setting_of act in
    let names = names_of act in
    let number = c.in-Some.number in
    let inner = numbered_names setting number in
    let old = state_in act c.args.machine.now in
    let target = c.args.target.now in
    let args = c.args.args.now in
    let body = c.body-body.result in
    let fun = item_at (funs_of (program_tree act.runner.now.checked.now.resolved.program.now).decls) number (omega (arith, c.if-number-fun_count.false, c.fun_count.ensures)) in
    let is_body = c.body-body.ensures fun.0 fun.1 in
    let shared = shared_are setting number fun.0 body target args is_body in
    let entered : State = record old { store = store_of inner c.replace-caller.new.dest } in
    let left = state_of inner c.run_block.new.machine in
    call_done setting (activation_of act) c.args.at (var_tree target) callee (option_map bound_tree c.args.bound.now) (map var_tree args) old number (sym c.in-Some.is ∙ is_number) fun.0 c.in-Some-callee_bound.number_of_bound
    fun.1 c.in-Some-callee_bound.ensures c.args.left c.args.assigns within entered left
    (ap (λ (s : Store). record old { store = s })
    (ap (store_of inner) c.replace-caller.ensures.after
    ∙ c.in_ok-frame.ensures names inner is_body.are_params is_body.is_returned is_target are_args
    ∙ ap (λ (l : List (Name × Name)). seen l old.store) shared))
    (record left { store = store_of names c.leave.new.caller }) (names_differ act.runner.now.checked.now.resolved)
    (subst (λ (s : StmtTree). FollowsInside {A = Unit {0}} setting (record { types = type_at setting number; bound = c.in-Some-callee_bound.number_of_bound }) c.args.left c.args.assigns s entered left (Ok tt)) is_body.steps
    (c.in_ok-run_block.ensures is_body.are_numbered))
    (ap (λ (s : Store). record left { store = s })
    (c.in_ok-leave.ensures names inner is_body.are_params is_body.is_returned is_target are_args
    ∙ ap₂ (λ (inside caller : _). put_back (shared_names body target args) (store_of inner inside) (store_of names caller)) c.replace-callee.ensures.value (c.replace-callee.ensures.after ∙ c.replace-caller.ensures.value)
    ∙ ap (λ (l : List (Name × Name)). put_back l left.store old.store) shared))
