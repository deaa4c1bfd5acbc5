use Rattle.std.proofs.Common.{rules, ◌≡◌, ◌∙◌, ◌+◌, ◌≤◌, arith, sym, subst, ap, inr, length, map, [], ℕ, List}
use Rattle.std.proofs.lemmas.List.{length-map}
use Rattle.std.proofs.lemmas.Result.{err_from_is_err_and}
use Rattle.tw_text.specs.declared.refusal.StateWhy.TheVariants as state_why
use Rattle.tw_syntax.specs.Programs.{FunTree, fun_tree}
use Rattle.tw_types.specs.Types.{block_count}
use Rattle.tw_types.specs.FromCode.{value_of}
use Rattle.tw_resolve.specs.Resolved.{resolved_setting}
use Rattle.tw_state.specs.declared.state_fault.StateFault.TheVariants as fault
use Rattle.tw_state.specs.FromCode.{ListedState, cell_of}
use Rattle.tw_state.specs.StateLines.{AtHead, InState}
use Rattle.tw_state.specs.Reading.{Leads, IsRefusedFrom, partial}
use Rattle.tw_state.proofs.Basics.{same_some, contradiction}
use Rattle.tw_state.proofs.RightLines.{led_by, led_refused}
use Rattle.tw_state.proofs.WholeStates.{sum_more, cells_full, head_shorter, formed_alone, head_led, cells_led, head_refused, chain_refused}
use Rattle.tw_state.proofs.reading.read_state.Goals as goal

pub returns-in_default-clause-refused : goal.returns-in_default-clause-refused
returns-in_default-clause-refused c =
    let setting = resolved_setting c.args.checked.now.resolved in
    inr
    (λ fun states found goes_on.
    subst (IsRefusedFrom setting c.args.side fun (AtHead states) c.args.lines c.args.bytes.now) (sym c.wrong_line.ensures)
    (head_refused setting c.args.side fun states c.args.lines c.args.bytes.now goes_on (λ head rest within e. c.in_default.ensures.none head rest (subst (λ w. head ≤ block_count w) (sym c.widths-widths.ensures) within) e)))

pub returns-in_err-cells-clause-refused : goal.returns-in_err-cells-clause-refused
returns-in_err-cells-clause-refused c =
    let setting = resolved_setting c.args.checked.now.resolved in
    let within = subst (λ w. c.in-Some.free ≤ block_count w) c.widths-widths.ensures c.in-Some.ensures.some.0 in
    let p = err_from_is_err_and c.from_residual.result c.from_residual.ensures.1 in
    rw (p.1, p.2)
    (sum_more
    (λ refused fun states found goes_on.
    led_refused setting c.args.side fun (AtHead states) (InState states (partial c.in-Some.free [] [])) c.args.lines (c.args.lines + 1) c.args.bytes.now c.in-Some.behind.now _
    (head_led setting c.args.side fun states c.args.lines c.args.bytes.now c.in-Some.free c.in-Some.behind.now within c.in-Some.ensures.some.1)
    (refused setting c.args.side fun states c.in-Some.free c.widths-widths.ensures c.targets.ensures)) c.in_err-cells.ensures.refused)

pub read_values-requires-clause-within : goal.read_values-requires-clause-within
read_values-requires-clause-within c =
    let setting = resolved_setting c.args.checked.now.resolved in
    let led = c.in_ok-cells.ensures.read setting c.args.side (fun_tree c.fun_at-fun.result.now) [] c.in-Some.free c.widths-widths.ensures c.targets.ensures in
    omega (arith, led.within, head_shorter c.in-Some.free c.args.bytes.now c.in-Some.behind.now c.in-Some.ensures.some.1, c.requires.within)

pub returns-in_err-store-clause-refused : goal.returns-in_err-store-clause-refused
returns-in_err-store-clause-refused c =
    let setting = resolved_setting c.args.checked.now.resolved in
    let own = fun_tree c.fun_at-fun.result.now in
    let cells = map cell_of c.in_ok-cells.cells.items in
    let within = subst (λ w. c.in-Some.free ≤ block_count w) c.widths-widths.ensures c.in-Some.ensures.some.0 in
    let full = cells_full _ setting.widths c.in_ok-cells.cells.items c.widths-widths.ensures c.in_ok-cells.ensures.counted.0 in
    let p = err_from_is_err_and c.from_residual-in_err-store.result c.from_residual-in_err-store.ensures.1 in
    rw (p.1, p.2)
    (sum_more
    (λ refused fun states found goes_on.
    subst (λ f. IsRefusedFrom setting c.args.side f (AtHead states) c.args.lines c.args.bytes.now c.in_err-store.field-0.0) (same_some c.fun_at-fun.ensures found)
    (led_refused setting c.args.side own (AtHead states) (InState states (partial c.in-Some.free cells [])) c.args.lines c.in_ok-cells.read c.args.bytes.now c.in_ok-cells.behind.now c.in_err-store.field-0.0
    (cells_led setting c.args.side own states c.args.lines c.args.bytes.now c.in-Some.free cells c.in_ok-cells.read c.in-Some.behind.now c.in_ok-cells.behind.now within c.in-Some.ensures.some.1
    (c.in_ok-cells.ensures.read setting c.args.side own states c.in-Some.free c.widths-widths.ensures c.targets.ensures))
    (refused states (partial c.in-Some.free cells []) full))) c.in_err-store.ensures.refused)

pub returns-then-not-well_formed-clause-refused : goal.returns-then-not-well_formed-clause-refused
returns-then-not-well_formed-clause-refused c =
    let setting = resolved_setting c.args.checked.now.resolved in
    let own = fun_tree c.fun_at-fun.result.now in
    let cells = map cell_of c.in_ok-cells.cells.items in
    let values = map value_of c.in_ok-store.store.items in
    let within = subst (λ w. c.in-Some.free ≤ block_count w) c.widths-widths.ensures c.in-Some.ensures.some.0 in
    let full = cells_full _ setting.widths c.in_ok-cells.cells.items c.widths-widths.ensures c.in_ok-cells.ensures.counted.0 in
    inr
    (λ fun states found goes_on.
    subst (λ f. IsRefusedFrom setting c.args.side f (AtHead states) c.args.lines c.args.bytes.now (fault.BadState (c.args.lines + 1) state_why.Chain)) (same_some c.fun_at-fun.ensures found)
    (chain_refused setting c.args.side own states c.args.lines c.args.bytes.now (partial c.in-Some.free cells values) c.in_ok-store.read c.in_ok-store.rest.now
    (led_by setting c.args.side own (AtHead states) (InState states (partial c.in-Some.free cells [])) _ c.args.lines c.in_ok-cells.read c.in_ok-store.read c.args.bytes.now c.in_ok-cells.behind.now c.in_ok-store.rest.now
    (cells_led setting c.args.side own states c.args.lines c.args.bytes.now c.in-Some.free cells c.in_ok-cells.read c.in-Some.behind.now c.in_ok-cells.behind.now within c.in-Some.ensures.some.1
    (c.in_ok-cells.ensures.read setting c.args.side own states c.in-Some.free c.widths-widths.ensures c.targets.ensures))
    (c.in_ok-store.ensures.read states (partial c.in-Some.free cells []) full))
    (record { all_blocks = full; all_names = length-map c.in_ok-store.store.items value_of ∙ c.in_ok-store.ensures.counted.0 })
    (λ formed. contradiction {test = c.well_formed-2.result} (c.well_formed-2.ensures.1 (record { all_blocks = length-map c.in_ok-cells.cells.items cell_of ∙ c.in_ok-cells.ensures.counted.0; well_formed = formed_alone c.args.side own (partial c.in-Some.free cells values) formed })) c.if-not-well_formed.true)
    (omega (arith, c.in_ok-cells.ensures.counted.1, c.in_ok-store.ensures.counted.1, length-map c.in_ok-cells.cells.items cell_of, length-map c.in_ok-store.store.items value_of))))

pub returns-clause-read : goal.returns-clause-read
returns-clause-read c fun states found =
    let setting = resolved_setting c.args.checked.now.resolved in
    let own = fun_tree c.fun_at-fun.result.now in
    let cells = map cell_of c.in_ok-cells.cells.items in
    let values = map value_of c.in_ok-store.store.items in
    let within = subst (λ w. c.in-Some.free ≤ block_count w) c.widths-widths.ensures c.in-Some.ensures.some.0 in
    let full = cells_full _ setting.widths c.in_ok-cells.cells.items c.widths-widths.ensures c.in_ok-cells.ensures.counted.0 in
    subst (λ f. Leads setting c.args.side f (AtHead states) c.args.lines c.args.bytes.now (InState states (partial c.in-Some.free cells values)) c.in_ok-store.read c.in_ok-store.rest.now) (same_some c.fun_at-fun.ensures found)
    (led_by setting c.args.side own (AtHead states) (InState states (partial c.in-Some.free cells [])) _ c.args.lines c.in_ok-cells.read c.in_ok-store.read c.args.bytes.now c.in_ok-cells.behind.now c.in_ok-store.rest.now
    (cells_led setting c.args.side own states c.args.lines c.args.bytes.now c.in-Some.free cells c.in_ok-cells.read c.in-Some.behind.now c.in_ok-cells.behind.now within c.in-Some.ensures.some.1
    (c.in_ok-cells.ensures.read setting c.args.side own states c.in-Some.free c.widths-widths.ensures c.targets.ensures))
    (c.in_ok-store.ensures.read states (partial c.in-Some.free cells []) full))
