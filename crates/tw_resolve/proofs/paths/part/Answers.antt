use Rattle.std.proofs.Common.{◌∙◌, ◌+◌, ap, sym, Some, drop}
use Rattle.std.proofs.lemmas.List.{at_drop_more}
use Rattle.tw_types.specs.FromCode.{ty_of}
use Rattle.tw_resolve.specs.Expressions.{part}
use Rattle.tw_resolve.proofs.Parts.{part_none}
use Rattle.tw_resolve.proofs.paths.part.Goals as goal

pub returns-in-None : goal.returns-in-None
returns-in-None c =
    let steps = c.args.steps.now in
    let i = c.loop-step.step-index in
    sym (c.loop-step.invariant
    ∙ at_drop_more (λ rest. part rest (Some (ty_of c.loop-step.found))) steps i 0 c.loop-step-test.true
    ∙ ap (part (drop (i + 1) steps)) (sym c.in-None.ensures)
    ∙ part_none (drop (i + 1) steps))
