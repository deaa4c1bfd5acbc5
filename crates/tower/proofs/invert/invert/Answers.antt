use Rattle.std.proofs.Common.{◌∙◌, sym, subst, ◌+◌, ℕ, List, [], ap, inr, refl}
use Rattle.tw_text.specs.declared.diagnostic.Diagnostic.TheVariants as diagnostic
use Rattle.tw_gatetext.specs.Files.{BeginsWith}
use Rattle.tower.specs.Outcomes.{Refuses}
use Rattle.tower.specs.GateInputs.{OnPrefix}
use Rattle.tower.specs.Invert.{InvertAnswer, AtEnd, GoesOn}
use Rattle.tower.proofs.AfterFiles.{empty, some}
use Rattle.tower.proofs.Doing.{did_gates, did_break, did_print}
use Rattle.tower.proofs.invert.invert.Goals as goal

pub returns-in_err-text : goal.returns-in_err-text
returns-in_err-text g c =
    did_gates g.K.Sink.taken g.K.Sink.faults c.args.output.now c.args.bytes.now InvertAnswer c.in_err-text.field-0.0 c.from_residual.result c.from_residual.ensures.1 (inr c.in_err-text.ensures.refused)

pub returns-else-is_empty : goal.returns-else-is_empty
returns-else-is_empty g c =
    let found = c.in_ok-text.ensures.file in
    rw (c.wrong_after.ensures) (
      OnPrefix found.0 c.in_ok-text.text.rest.now found.1
          (GoesOn (some c.in_ok-text.text.rest.now (sym c.is_empty.ensures ∙ c.if-is_empty.false)) (ap (λ (n : ℕ). Refuses (diagnostic.BadGateText (n + 7))) found.2.gates)),
      refl,
    )

pub returns-in_err-write_inverse : goal.returns-in_err-write_inverse
returns-in_err-write_inverse g c =
    let found = c.in_ok-text.ensures.file in
    let begins = subst (λ (rest : List ℕ). BeginsWith c.args.bytes.now found.0 rest) (empty c.in_ok-text.text.rest.now (sym c.is_empty.ensures ∙ c.if-is_empty.true)) found.1 in
    did_break g.K.Sink.taken g.K.Sink.faults _ _ _ _ c.from_residual-in_err-write_inverse.result _ c.from_residual-in_err-write_inverse.ensures.1 (OnPrefix found.0 [] begins (AtEnd refl refl))
    (c.in_err-write_inverse.ensures.wrote found.0 found.1.valid found.2)

pub returns-in_ok-write_inverse : goal.returns-in_ok-write_inverse
returns-in_ok-write_inverse g c =
    let found = c.in_ok-text.ensures.file in
    let begins = subst (λ (rest : List ℕ). BeginsWith c.args.bytes.now found.0 rest) (empty c.in_ok-text.text.rest.now (sym c.is_empty.ensures ∙ c.if-is_empty.true)) found.1 in
    did_print g.K.Sink.taken g.K.Sink.faults _ _ _ _ _ (OnPrefix found.0 [] begins (AtEnd refl refl)) (c.in_ok-write_inverse.ensures.wrote found.0 found.1.valid found.2)
