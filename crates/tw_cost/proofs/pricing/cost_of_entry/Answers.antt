use Rattle.std.proofs.Common.{subst}
use Rattle.tw_text.specs.declared.limits.TheConstants.{DEPTH_LIMIT}
use Rattle.tw_resolve.specs.Resolved.{resolved_setting}
use Rattle.tw_state.specs.Depth.{EntryIsWithin}
use Rattle.tw_state.proofs.Basics.{same_some}
use Rattle.tw_cost.proofs.pricing.cost_of_entry.Goals as goal

pub returns : goal.returns
returns c = λ within rows has.
    let setting = resolved_setting c.args.checked.now.resolved in
    c.count_entry.ensures has.fun has.at (subst (λ f. EntryIsWithin setting DEPTH_LIMIT f c.args.entry.bound) (same_some within.1 has.at) within.2) rows has.is
