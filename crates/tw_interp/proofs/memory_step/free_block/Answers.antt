use Rattle.std.proofs.Common.{◌∙◌, ap, sym, refl, List, option_map}
use Rattle.std.proofs.lemmas.Bool.{false≢true}
use Rattle.tw_types.specs.FromCode.{value_of}
use Rattle.tw_types.specs.declared.types.TargetId.{TargetId}
use Rattle.tw_state.specs.States.{Cell}
use Rattle.tw_interp.specs.Machines.{setting_of, state_in}
use Rattle.tw_interp.proofs.Freeing.{frees_wild, frees_dirty, freed}
use Rattle.tw_interp.proofs.Values.{found_as}
use Rattle.tw_interp.proofs.memory_step.free_block.Goals as goal

pub returns-in_default-free_cell : goal.returns-in_default-free_cell
returns-in_default-free_cell c = λ written to_is.
    frees_wild (setting_of c.args.act.now) written c.args.at c.args.block (state_in c.args.act.now c.args.machine.now) c.in-Some.number.0
    (sym (ap (option_map (λ (id : TargetId). id.0)) c.in-Some.is) ∙ to_is) _ _ c.in_default-free_cell.ensures.not_live c.stuck.ensures

pub returns-then-not-same : goal.returns-then-not-same
returns-then-not-same c = λ written to_is.
    frees_dirty (setting_of c.args.act.now) written c.args.at c.args.block (state_in c.args.act.now c.args.machine.now) c.in-Some.number.0
    (sym (ap (option_map (λ (id : TargetId). id.0)) c.in-Some.is) ∙ to_is)
    (value_of c.in-Some-free_cell.content) c.in-Some-free_cell.ensures.live (value_of c.in-Some-2.zero) (found_as c.in_ok-zero.field-0 c.in-Some-2.zero c.in-Some-2.is c.in_ok-zero.ensures) _ _
    (λ equal. false≢true (c.if-not-same.ensures.1 equal)) c.stuck-then-not-same.ensures

pub returns : goal.returns
returns c = λ written to_is.
    let old = state_in c.args.act.now c.args.machine.now in
    freed (setting_of c.args.act.now) written c.args.at c.args.block old c.in-Some.number.0
    (sym (ap (option_map (λ (id : TargetId). id.0)) c.in-Some.is) ∙ to_is)
    (value_of c.in-Some-free_cell.content) c.in-Some-free_cell.ensures.live (value_of c.in-Some-2.zero) (found_as c.in_ok-zero.field-0 c.in-Some-2.zero c.in-Some-2.is c.in_ok-zero.ensures) _
    (c.if-not-same.ensures.0 refl) (ap (λ (cells : List Cell). record old { head = c.args.block; cells = cells }) c.in-Some-free_cell.ensures.free)
