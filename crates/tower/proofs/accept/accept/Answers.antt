use Rattle.std.proofs.Common.{◌≡◌, ap, Err}
use Rattle.tw_syntax.specs.Programs.{program_tree}
use Rattle.tower.proofs.Accepting.{no_source, ill_typed, accepted_if_kept, widths_if_kept, broken_if_not, found_as}
use Rattle.tower.proofs.accept.accept.Goals as goal

pub returns-in_err-program-clause-refused : goal.returns-in_err-program-clause-refused
returns-in_err-program-clause-refused c =
    let why = c.in_err-program.field-0.0 in
    found_as c.args.widths c.args.bytes.now why c.from_residual.result c.from_residual.ensures.1 (no_source c.args.widths c.args.bytes.now why (λ refusal e. c.in_err-program.ensures.refused refusal (ap Err e)))

pub returns-in_err-resolved-clause-refused : goal.returns-in_err-resolved-clause-refused
returns-in_err-resolved-clause-refused c =
    let why = c.in_err-resolved.field-0.0 in
    let tree = program_tree c.in_ok-program.program.now in
    found_as c.args.widths c.args.bytes.now why c.from_residual-in_err-resolved.result c.from_residual-in_err-resolved.ensures.1
    (ill_typed c.args.widths c.args.bytes.now tree c.in_ok-program.ensures.tree why c.in_err-resolved.ensures.refused)

pub returns-clause-accepted : goal.returns-clause-accepted
returns-clause-accepted c =
    let same : c.in_ok-resolved.resolved.program ≡ c.in_ok-program.program = c.in_ok-resolved.ensures.program in
    accepted_if_kept c.args.widths c.in_ok-resolved.resolved c.check.result (rw same c.in_ok-resolved.ensures.typed) c.check.ensures.tried c.check.ensures.kept

pub returns-clause-widths : goal.returns-clause-widths
returns-clause-widths c = widths_if_kept c.args.widths c.in_ok-resolved.resolved c.check.result c.in_ok-resolved.ensures.widths c.check.ensures.kept

pub returns-clause-refused : goal.returns-clause-refused
returns-clause-refused c =
    let same : c.in_ok-resolved.resolved.program ≡ c.in_ok-program.program = c.in_ok-resolved.ensures.program in
    broken_if_not c.args.widths c.args.bytes.now (program_tree c.in_ok-resolved.resolved.program.now) (rw same c.in_ok-program.ensures.tree) c.check.result (rw same c.in_ok-resolved.ensures.typed) c.check.ensures.tried
