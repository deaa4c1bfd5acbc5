use Rattle.tw_resolve.proofs.InOrder.{known_next, known_until}
use Rattle.tw_resolve.proofs.Ending.{stopped}
use Rattle.tw_resolve.proofs.names.aliases_known.Goals as goal

pub returns-in_err-alias_known : goal.returns-in_err-alias_known
returns-in_err-alias_known c =
    let why = c.in_err-alias_known.field-0.0 in
    stopped _ why (known_until _ c.args.decls.now c.loop-decl.decl-index c.decl-item.result _ why c.loop-decl-test.true c.decl-item.is c.loop-decl.invariant c.in_err-alias_known.ensures.reported) c.from_residual.result c.from_residual.ensures.1

pub loop-decl-preserved : goal.loop-decl-preserved
loop-decl-preserved c =
    known_next _ c.args.decls.now c.loop-decl.decl-index c.decl-item.result _ c.loop-decl-test.true c.decl-item.is c.loop-decl.invariant c.in_ok-alias_known.ensures.kept
