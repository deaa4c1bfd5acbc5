use Rattle.std.proofs.Common.{◌∙◌, sym, map}
use Rattle.tw_state.specs.FromCode.{cell_of}
use Rattle.tw_state.proofs.FreeChains.{ends_at_once, ends_one_later}
use Rattle.tw_state.proofs.free_cells.ends_after.Goals as goal

pub returns-in_default : goal.returns-in_default
returns-in_default c = (
  λ test. cc,
  λ ends. absurd (ends_at_once (map cell_of c.args.cells.now) c.loop-left.at c.loop-left.left c.loop-left-test.true (sym c.link.ensures ∙ c.in_default.is) (c.loop-left.invariant.0 ends)),
)

pub loop-left-preserved : goal.loop-left-preserved
loop-left-preserved c =
    let step = ends_one_later (map cell_of c.args.cells.now) c.loop-left.at c.in-Some.next c.loop-left.left c.loop-left-test.true (sym c.link.ensures ∙ c.in-Some.is) in
    (λ ends. step.0 (c.loop-left.invariant.0 ends), λ ends. c.loop-left.invariant.1 (step.1 ends))
