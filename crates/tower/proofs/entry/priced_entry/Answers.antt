use Rattle.std.proofs.Common.{refl}
use Rattle.tw_text.specs.declared.diagnostic.Diagnostic.TheVariants as diagnostic
use Rattle.tw_syntax.specs.Programs.{program_tree}
use Rattle.tw_resolve.specs.Resolved.{resolved_setting}
use Rattle.tw_state.proofs.Basics.{contradiction}
use Rattle.tower.specs.Given.{file_request}
use Rattle.tower.specs.Accepted.{IsReady, IsBadEntry}
use Rattle.tower.specs.CircuitEntries.{OnTree, BadEntry, NotBuilt}
use Rattle.tower.proofs.Accepting.{no_program, no_circuit_as}
use Rattle.tower.proofs.Answering.{is_fault, is_past_limit}
use Rattle.tower.proofs.entry.priced_entry.Goals as goal

pub returns-in_err-checked-clause-refused : goal.returns-in_err-checked-clause-refused
returns-in_err-checked-clause-refused c =
    let request = file_request c.args.options.now in
    no_circuit_as request c.args.bytes.now _ c.from_residual.result c.from_residual.ensures.1 (no_program request c.args.bytes.now c.in_err-checked.field-0.0 c.in_err-checked.ensures.refused)

pub returns-in_err-entry-clause-refused : goal.returns-in_err-entry-clause-refused
returns-in_err-entry-clause-refused c =
    let request = file_request c.args.options.now in
    let tree = program_tree c.in_ok-checked.checked.resolved.program.now in
    let bad : IsBadEntry request tree c.in_err-entry.field-0.0 = record { accepted = c.in_ok-checked.ensures.accepted; broken = c.in_err-entry.ensures.refused } in
    no_circuit_as request c.args.bytes.now _ c.from_residual-in_err-entry.result c.from_residual-in_err-entry.ensures.1
    (OnTree tree (diagnostic.Refused c.in_err-entry.field-0.0) c.in_ok-checked.ensures.source (BadEntry c.in_err-entry.field-0.0 bad refl))

pub returns-then-not-is_built-clause-refused : goal.returns-then-not-is_built-clause-refused
returns-then-not-is_built-clause-refused c =
    let tree = program_tree c.in_ok-checked.checked.resolved.program.now in
    let ready : IsReady (file_request c.args.options.now) tree = record { accepted = c.in_ok-checked.ensures.accepted; entry = c.in_ok-entry.ensures.kept } in
    OnTree tree diagnostic.NotBuilt c.in_ok-checked.ensures.source (NotBuilt ready (λ built. contradiction (c.is_built.ensures.1 built) c.if-not-is_built.true) refl)

pub returns-in_err-priced-clause-refused : goal.returns-in_err-priced-clause-refused
returns-in_err-priced-clause-refused c =
    let request = file_request c.args.options.now in
    let checked = c.in_ok-checked.checked in
    let ready : IsReady request (program_tree checked.resolved.program.now) = record { accepted = c.in_ok-checked.ensures.accepted; entry = c.in_ok-entry.ensures.kept } in
    let price = c.in_err-priced.ensures in
    let fault = c.in_err-priced.field-0.0 in
    let past = is_fault (resolved_setting checked.resolved) c.in_ok-entry.entry price.one_inventory fault price.tried price.one_measure.measured price.one_measure.is in
    no_circuit_as request c.args.bytes.now _ c.from_residual-in_err-priced.result c.from_residual-in_err-priced.ensures.1
    (is_past_limit request checked c.in_ok-checked.ensures.widths ready c.in_ok-entry.entry c.in_ok-entry.ensures.found (c.is_built.ensures.0 c.if-not-is_built.false) price.one_measure c.args.bytes.now c.in_ok-checked.ensures.source fault past)

pub returns-clause-priced : goal.returns-clause-priced
returns-clause-priced c =
    let price = c.in_ok-priced.ensures in
    record {
      source = c.in_ok-checked.ensures.source;
      widths = c.in_ok-checked.ensures.widths;
      ready = record { accepted = c.in_ok-checked.ensures.accepted; entry = c.in_ok-entry.ensures.kept };
      is_entry = c.in_ok-entry.ensures.found;
      within_limits = record {
        is_entry = c.in_ok-entry.ensures.found.is_entry;
        built = c.is_built.ensures.0 c.if-not-is_built.false;
        one_measure = price.one_measure;
        price = price.priced;
        within = λ measured measures. (price.tried measured price.priced.rows c.in_ok-priced.priced.layout measures price.priced.inventory price.priced.layout).kept;
        regions = price.regions;
        frames = price.frames;
      };
    }
