use Rattle.std.proofs.Common.{◌≡◌, ◌∙◌, ◌-◌, ◌+◌, ap, sym, arith, suc, ℕ, true, false, drop, take}
use Rattle.std.proofs.lemmas.List.{at_drop_more}
use Rattle.std.proofs.lemmas.Option.{slice_get-get_or}
use Rattle.tw_syntax.specs.Statements.{StmtTree}
use Rattle.tw_resolve.proofs.Each.{each_at}
use Rattle.tw_check.specs.Liveness.{live_after}
use Rattle.tw_interp.specs.Frames.{changed}
use Rattle.tw_interp.specs.Numbered.{IsNumbered, numbered_names}
use Rattle.tw_interp.specs.NumberedTrees.{action_tree, steps_tree}
use Rattle.tw_interp.proofs.Changing.{on_ok, last_first}
use Rattle.tw_interp.proofs.StepShapes.{block_is, with_is, if_is, in_block, in_if, in_let, in_with}
use Rattle.tw_interp.proofs.changes.+changes.Goals as goal

pub note_backward-loop-i-preserved : goal.note_backward-loop-i-preserved
note_backward-loop-i-preserved t c = (
  omega (arith, c.loop-i.invariant.0),
  λ setting fun live are.
      let names = numbered_names setting fun in
      let steps = c.args.steps.now in
      let i = c.loop-i.i - 1 in
      let more : c.loop-i.i ≡ suc i = omega (arith, c.loop-i-test.true) in
      let at = slice_get-get_or steps i _ (omega (arith, c.loop-i.invariant.0, c.loop-i-test.true)) in
      ap (live_after false (steps_tree (take i steps))) (c.in_ok-note_step.ensures setting fun live (each_at (IsNumbered setting fun) steps i _ are at))
      ∙ sym (last_first steps i _ (changed names c.loop-i.changes live) at)
      ∙ sym (ap (λ (n : ℕ). live_after false (steps_tree (take n steps)) (changed names c.loop-i.changes live)) more)
      ∙ c.loop-i.invariant.1 setting fun live are,
)

pub note_forward-loop-step-preserved : goal.note_forward-loop-step-preserved
note_forward-loop-step-preserved t c = λ setting fun live are.
    let names = numbered_names setting fun in
    let steps = c.args.steps.now in
    let i = c.loop-step.step-index in
    ap (live_after true (steps_tree (drop (i + 1) steps)))
    (c.in_ok-note_step.ensures setting fun live (each_at (IsNumbered setting fun) steps i _ are (slice_get-get_or steps i _ c.loop-step-test.true)))
    ∙ sym (ap (λ (s : StmtTree). live_after true s (changed names c.loop-step.changes live)) (at_drop_more steps_tree steps i _ c.loop-step-test.true))
    ∙ c.loop-step.invariant setting fun live are

pub note_step-returns-in-Let : goal.note_step-returns-in-Let
note_step-returns-in-Let t c =
    on_ok c.set.result
    (λ each setting fun live is.
    each (numbered_names setting fun) live (in_let setting fun c.args.step.now c.in-Let.assigns c.in-Let.target c.in-Let.source c.in-Let.is is).0
    ∙ ap (λ (s : StmtTree). live_after c.args.forward s (changed (numbered_names setting fun) c.args.changes.now live)) (sym (ap (action_tree c.args.step.now.at) c.in-Let.is)))
    c.set.ensures

pub note_step-returns-in-If : goal.note_step-returns-in-If
note_step-returns-in-If t c =
    on_ok c.note_changes.result
    (λ each setting fun live is.
    each setting fun live (in_if setting fun c.args.step.now c.in-If.cond c.in-If.yes c.in-If.no c.in-If.is is).1
    ∙ ap (λ (s : StmtTree). live_after c.args.forward s (changed (numbered_names setting fun) c.args.changes.now live)) (sym (if_is c.args.step.now c.in-If.cond c.in-If.yes c.in-If.no c.in-If.is)))
    c.note_changes.ensures

pub note_step-returns-in_ok-note_changes-in-With-2 : goal.note_step-returns-in_ok-note_changes-in-With-2
note_step-returns-in_ok-note_changes-in-With-2 t c =
    on_ok c.note_changes-in-With-3.result
    (λ each setting fun live is.
    let parts = in_with setting fun c.args.step.now c.in-With.setup c.in-With.work c.in-With.is is in
    each setting fun live parts.0
    ∙ ap (live_after false (steps_tree c.in-With.setup.now)) (c.in_ok-note_changes-in-With-2.ensures setting fun live parts.1)
    ∙ ap (λ l. live_after false (steps_tree c.in-With.setup.now) (live_after c.args.forward (steps_tree c.in-With.work.now) l)) (c.in_ok-note_changes-in-With.ensures setting fun live parts.0)
    ∙ ap (λ (s : StmtTree). live_after c.args.forward s (changed (numbered_names setting fun) c.args.changes.now live)) (sym (with_is c.args.step.now c.in-With.setup c.in-With.work c.in-With.is)))
    c.note_changes-in-With-3.ensures

pub note_step-returns-in-Block : goal.note_step-returns-in-Block
note_step-returns-in-Block t c =
    on_ok c.note_changes-in-Block.result
    (λ each setting fun live is.
    each setting fun live (in_block setting fun c.args.step.now c.in-Block.body c.in-Block.is is)
    ∙ ap (λ (s : StmtTree). live_after c.args.forward s (changed (numbered_names setting fun) c.args.changes.now live)) (sym (block_is c.args.step.now c.in-Block.body c.in-Block.is)))
    c.note_changes-in-Block.ensures
