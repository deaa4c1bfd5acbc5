use Rattle.std.proofs.Common.{◌∙◌, ◌*◌, ◌^◌, ◌-◌, min, ap, sym, subst}
use Rattle.tw_code.specs.Rows.{most_controls}
use Rattle.tw_resolve.specs.Resolved.{resolved_setting}
use Rattle.tw_frames.specs.Inventory.{line_total}
use Rattle.tw_frames.specs.Layout.{IsLaidOut}
use Rattle.tw_cost.specs.declared.costs.Cost.{Cost}
use Rattle.tw_cost.proofs.CheckedEntries.{checked_inventory, checked_layout}
use Rattle.tw_cost.proofs.Exact.{t_count_exact, toffolis_exact}
use Rattle.tw_cost.proofs.Limits.{accepted, exact_controls, exact_lines, refused_controls, refused_lines, refused_measure, refused_wires}
use Rattle.tw_cost.proofs.pricing.price.Goals as goal

-- the measure is refused

pub returns-in_err-measured-clause-tried : goal.returns-in_err-measured-clause-tried
returns-in_err-measured-clause-tried c = λ measured rows layout is has laid.
    refused_measure measured (most_controls rows) layout (line_total c.args.level rows) _ c.from_residual.result (c.in_err-measured.ensures.tried measured is) c.from_residual.ensures.1

pub returns-in_err-measured-clause-one_inventory : goal.returns-in_err-measured-clause-one_inventory
returns-in_err-measured-clause-one_inventory c = checked_inventory c.args.checked.now c.args.entry c.args.options c.requires

pub returns-in_err-measured-clause-one_layout : goal.returns-in_err-measured-clause-one_layout
returns-in_err-measured-clause-one_layout c = checked_layout c.args.checked.now c.args.entry c.args.options c.args.level c.measure.ensures.one

-- the controls are refused

pub returns-in_err-need_within-clause-tried : goal.returns-in_err-need_within-clause-tried
returns-in_err-need_within-clause-tried c = λ measured rows layout is has laid.
    let cost = c.cost_of_entry-cost.ensures c.in_ok-measured.ensures.within rows has in
    refused_controls measured (most_controls rows) layout (line_total c.args.level rows) _ (c.in_ok-measured.ensures.tried measured is) (ap (λ (k : Cost). k.most_controls) cost)
    _ c.from_residual-in_err-need_within.result c.in_err-need_within.ensures c.from_residual-in_err-need_within.ensures.1

pub returns-in_err-need_within-clause-one_inventory : goal.returns-in_err-need_within-clause-one_inventory
returns-in_err-need_within-clause-one_inventory c = checked_inventory c.args.checked.now c.args.entry c.args.options c.requires

pub returns-in_err-need_within-clause-one_layout : goal.returns-in_err-need_within-clause-one_layout
returns-in_err-need_within-clause-one_layout c = checked_layout c.args.checked.now c.args.entry c.args.options c.args.level c.measure.ensures.one

-- the wires are refused

pub returns-in-Err-clause-tried : goal.returns-in-Err-clause-tried
returns-in-Err-clause-tried c = λ measured rows layout is has laid.
    let setting = resolved_setting c.args.checked.now.resolved in
    let cost = c.cost_of_entry-cost.ensures c.in_ok-measured.ensures.within rows has in
    let most = ap (λ (k : Cost). k.most_controls) cost in
    let same = (exact_controls (most_controls rows) most c.in_ok-need_within.ensures.kept).0 in
    let placed = c.in-Err.ensures.placed layout (subst (λ k. IsLaidOut setting c.args.entry c.args.options c.args.level k layout) (sym same) laid) in
    refused_wires measured (most_controls rows) layout (line_total c.args.level rows) _ (c.in_ok-measured.ensures.tried measured is) most _ c.in_ok-need_within.ensures c.in-Err.refusal placed.refused

pub returns-in-Err-clause-one_inventory : goal.returns-in-Err-clause-one_inventory
returns-in-Err-clause-one_inventory c = checked_inventory c.args.checked.now c.args.entry c.args.options c.requires

pub returns-in-Err-clause-one_layout : goal.returns-in-Err-clause-one_layout
returns-in-Err-clause-one_layout c = checked_layout c.args.checked.now c.args.entry c.args.options c.args.level c.measure.ensures.one

-- the lines are refused

pub returns-in_err-need_within-2-clause-tried : goal.returns-in_err-need_within-2-clause-tried
returns-in_err-need_within-2-clause-tried c = λ measured rows layout is has laid.
    let setting = resolved_setting c.args.checked.now.resolved in
    let cost = c.cost_of_entry-cost.ensures c.in_ok-measured.ensures.within rows has in
    let most = ap (λ (k : Cost). k.most_controls) cost in
    let same = (exact_controls (most_controls rows) most c.in_ok-need_within.ensures.kept).0 in
    let placed = c.in-Ok.ensures.placed layout (subst (λ k. IsLaidOut setting c.args.entry c.args.options c.args.level k layout) (sym same) laid) in
    refused_lines measured (most_controls rows) layout (line_total c.args.level rows) _ (c.in_ok-measured.ensures.tried measured is) most _ c.in_ok-need_within.ensures placed.kept
    (ap (λ (k : Cost). k.lines) cost) _ c.from_residual-in_err-need_within-2.result c.in_err-need_within-2.ensures c.from_residual-in_err-need_within-2.ensures.1

pub returns-in_err-need_within-2-clause-one_inventory : goal.returns-in_err-need_within-2-clause-one_inventory
returns-in_err-need_within-2-clause-one_inventory c = checked_inventory c.args.checked.now c.args.entry c.args.options c.requires

pub returns-in_err-need_within-2-clause-one_layout : goal.returns-in_err-need_within-2-clause-one_layout
returns-in_err-need_within-2-clause-one_layout c = checked_layout c.args.checked.now c.args.entry c.args.options c.args.level c.measure.ensures.one

-- the price

pub returns-clause-one_inventory : goal.returns-clause-one_inventory
returns-clause-one_inventory c = checked_inventory c.args.checked.now c.args.entry c.args.options c.requires

pub returns-clause-one_layout : goal.returns-clause-one_layout
returns-clause-one_layout c = checked_layout c.args.checked.now c.args.entry c.args.options c.args.level c.measure.ensures.one

pub returns-clause-tried : goal.returns-clause-tried
returns-clause-tried c = λ measured rows layout is has laid.
    let setting = resolved_setting c.args.checked.now.resolved in
    let cost = c.cost_of_entry-cost.ensures c.in_ok-measured.ensures.within rows has in
    let most = ap (λ (k : Cost). k.most_controls) cost in
    let same = (exact_controls (most_controls rows) most c.in_ok-need_within.ensures.kept).0 in
    let placed = c.in-Ok.ensures.placed layout (subst (λ k. IsLaidOut setting c.args.entry c.args.options c.args.level k layout) (sym same) laid) in
    accepted measured (most_controls rows) layout (line_total c.args.level rows) _ (c.in_ok-measured.ensures.tried measured is) most _ c.in_ok-need_within.ensures placed.kept
    (ap (λ (k : Cost). k.lines) cost) _ c.in_ok-need_within-2.ensures

pub returns-clause-priced : goal.returns-clause-priced
returns-clause-priced c =
    let setting = resolved_setting c.args.checked.now.resolved in
    let level = c.args.level in
    let one = returns-clause-one_inventory c in
    let cost = c.cost_of_entry-cost.ensures c.in_ok-measured.ensures.within one.rows one.is in
    let most = exact_controls (most_controls one.rows) (ap (λ (k : Cost). k.most_controls) cost) c.in_ok-need_within.ensures.kept in
    let lines = exact_lines (line_total level one.rows) (ap (λ (k : Cost). k.lines) cost) c.in_ok-need_within-2.ensures.kept in
    let toffolis = ap (λ (k : Cost). k.toffolis) cost ∙ toffolis_exact level one.rows most.1 lines.1 in
    record {
      rows = one.rows;
      inventory = one.is;
      lines = lines.0;
      t_count = c.saturating_mul.ensures ∙ ap (λ n. min (7 * n) (2 ^ 64 - 1)) toffolis ∙ t_count_exact level one.rows most.1 lines.1;
      toffolis = toffolis;
      most = most.0;
      layout = subst (λ k. IsLaidOut setting c.args.entry c.args.options level k c.in-Ok.layout) most.0 c.in-Ok.ensures.laid_out;
    }
