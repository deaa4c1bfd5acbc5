use Rattle.std.proofs.Common.{◌∙◌, sym, subst}
use Rattle.tw_gate.specs.Gates.{PlainGate, plain}
use Rattle.tw_gatetext.specs.Valid.{FitsLevel, FitsWires}
use Rattle.tw_gatetext.proofs.OneToOne.{gate-told}
use Rattle.tw_gatetext.proofs.reading.right_gate.Goals as goal
use Rattle.tw_gatetext.proofs.reading.right_gate.Goals.{else-fits_level-via-then-fits_level+else-fits_wires, else-fits_level-via-else-fits_level}

pub returns-else-fits_level-clause-none : goal.returns-else-fits_level-clause-none
returns-else-fits_level-clause-none c = λ gate level wires word numbers.
    let same = gate-told gate (plain c.in_ok-gate.gate) (sym word ∙ c.in_ok-gate.ensures.some.0) (sym numbers ∙ c.in_ok-gate.ensures.some.1) in
    let fits_level = c.fits_level.ensures.1 (subst (λ (g : PlainGate). FitsLevel c.args.header.now.level g) same level) in
    elim c.else-fits_level.branch [
      | else-fits_level-via-then-fits_level+else-fits_wires w ↦
          let fits_wires = w.fits_wires.ensures.1 (subst (λ (g : PlainGate). FitsWires c.args.header.now.wires g) same wires) in cc (fits_wires, w.if-fits_wires.false)
      | else-fits_level-via-else-fits_level w ↦ cc (fits_level, w.if-fits_level.false)
    ]
