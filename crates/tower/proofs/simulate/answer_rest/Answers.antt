use Rattle.std.proofs.Common.{◌≡◌, ◌≢◌, ap, sym, true, false}
use denote.Enum.Bare.{sameb}
use Rattle.tw_gate.specs.declared.gate.Level.{Level}
use Rattle.tw_gate.specs.declared.gate.Level.TheVariants as levels
use Rattle.tw_gate.specs.contracts.gate.Level.{the_type}
use Rattle.tower.specs.Simulate.{OnLines}
use Rattle.tower.proofs.Doing.{did_as}
use Rattle.tower.proofs.simulate.answer_rest.Goals as goal

other_level : (level : Level) → sameb the_type level levels.T ≡ false → level ≢ levels.T
other_level level other e = let same : sameb the_type level levels.T ≡ true = ap (λ (l : Level). sameb the_type l levels.T) e in cc

pub returns-in-Some : goal.returns-in-Some
returns-in-Some g c =
    did_as g.K.Sink.taken g.K.Sink.faults _ _ _ (λ outcome is. OnLines (other_level c.args.file.now.level (sym c.if-eq.ensures)) c.in-Some.lines.now c.in-Some.ensures.some is) c.answer_lines.ensures
