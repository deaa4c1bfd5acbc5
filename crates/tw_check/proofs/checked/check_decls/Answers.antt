use Rattle.tw_resolve.proofs.Ending.{stopped}
use Rattle.tw_check.proofs.Declarations.{checked_next, checked_until}
use Rattle.tw_check.proofs.checked.check_decls.Goals as goal

pub returns-in_err-check_decl : goal.returns-in_err-check_decl
returns-in_err-check_decl c =
    let why = c.in_err-check_decl.field-0.0 in
    stopped _ why (checked_until c.args.decls.now c.loop-decl.decl-index c.decl-item.result _ why c.loop-decl-test.true c.decl-item.is c.loop-decl.invariant c.in_err-check_decl.ensures.reported) c.from_residual.result c.from_residual.ensures.1

pub loop-decl-preserved : goal.loop-decl-preserved
loop-decl-preserved c =
    checked_next c.args.decls.now c.loop-decl.decl-index c.decl-item.result _ c.loop-decl-test.true c.decl-item.is c.loop-decl.invariant c.in_ok-check_decl.ensures.kept
