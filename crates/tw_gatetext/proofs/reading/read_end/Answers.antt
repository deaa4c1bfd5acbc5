use Rattle.std.proofs.Common.{◌≡◌, ◌∙◌, ap, sym, Bool, true, false, not, nat_eq, decimal, ◌+◌, refl, arith}
use Rattle.std.specs.Cmp.Lexicographic.{pointwise}
use Rattle.std.proofs.lemmas.Slice.Eq.{bytes_eq-Decides}
use Rattle.tw_gatetext.specs.declared.file.GateFault.TheVariants as fault
use Rattle.tw_gatetext.specs.Lines.{Line}
use Rattle.tw_gatetext.specs.Refused.{WrongLine, WrongTCount}
use Rattle.tw_gatetext.specs.Reading.{head_seen}
use Rattle.tw_gatetext.proofs.WholeFiles.{reaches_file_with}
use Rattle.tw_gatetext.proofs.reading.read_end.Goals as goal

when_not : (k : Bool) → false ≡ not k → k ≡ true
when_not true e = refl
when_not false e = cc

never_not : (k : Bool) → true ≡ not k → k ≡ true → ⊥
never_not true e same = let apart : true ≡ false = e in cc
never_not false e same = cc

pub returns-in_default-clause-refused : goal.returns-in_default-clause-refused
returns-in_default-clause-refused c all gates chain each counted =
    let head = head_seen c.args.header.now in
    WrongLine (5 + head.gates) _ _ chain (c.in_default.ensures.none head gates each) (ap fault.BadGateText (omega arith))

pub returns-then-ne-clause-refused : goal.returns-then-ne-clause-refused
returns-then-ne-clause-refused c all gates chain each counted =
    let head = head_seen c.args.header.now in
    let told = c.as_bytes.ensures.value ∙ c.format.ensures.text ∙ ap decimal counted in
    WrongTCount (5 + head.gates + 1) head gates c.in-Some.rest.now (Line (5 + head.gates) _ _ _ _ chain (c.in-Some.ensures.some head gates each))
    (λ same. never_not (pointwise nat_eq head.t_count c.as_bytes.result.now) c.if-ne.ensures ((bytes_eq-Decides head.t_count c.as_bytes.result.now).1 (same ∙ sym told))) refl

pub returns-clause-file : goal.returns-clause-file
returns-clause-file c all gates chain each counted =
    let head = head_seen c.args.header.now in
    let told = c.as_bytes.ensures.value ∙ c.format.ensures.text ∙ ap decimal counted in
    let same = (bytes_eq-Decides head.t_count c.as_bytes.result.now).0 (when_not (pointwise nat_eq head.t_count c.as_bytes.result.now) c.if-ne.ensures) in
    reaches_file_with all (5 + head.gates + 1) head c.args.sum gates c.in-Some.rest.now (Line (5 + head.gates) _ _ _ _ chain (c.in-Some.ensures.some head gates each)) (same ∙ told) counted
