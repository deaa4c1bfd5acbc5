use Rattle.std.proofs.Common.{ℕ, List, refl}
use Rattle.std.proofs.lemmas.Result.{err_from_is_err_and}
use Rattle.tw_gate.specs.declared.gate.Level.{Level}
use Rattle.tw_gatetext.specs.Lines.{AtVersion, AtLevel, AtWires, AtGates, AtTCount, StepsTo, Reaches, Start, Line}
use Rattle.tw_gatetext.specs.Refused.{WrongLine}
use Rattle.tw_gatetext.proofs.HeaderLines.{refused_after}
use Rattle.tw_gatetext.proofs.header.read_header.Goals as goal

to_level : (bytes rest : List ℕ) → StepsTo AtVersion bytes AtLevel rest → Reaches bytes 1 AtLevel rest
to_level bytes rest version = Line 0 AtVersion bytes AtLevel rest Start version

to_wires : (bytes r1 rest : List ℕ) (level : Level) → StepsTo AtVersion bytes AtLevel r1 → StepsTo AtLevel r1 (AtWires level) rest → Reaches bytes 2 (AtWires level) rest
to_wires bytes r1 rest level version line = Line 1 AtLevel r1 (AtWires level) rest (to_level bytes r1 version) line

to_gates : (bytes r1 r2 rest : List ℕ) (level : Level) (wires : ℕ) → StepsTo AtVersion bytes AtLevel r1 → StepsTo AtLevel r1 (AtWires level) r2
    → ((l : Level) → StepsTo (AtWires l) r2 (AtGates l wires) rest) → Reaches bytes 3 (AtGates level wires) rest
to_gates bytes r1 r2 rest level wires version line_2 line_3 = Line 2 (AtWires level) r2 (AtGates level wires) rest (to_wires bytes r1 r2 level version line_2) (line_3 level)

to_t_count : (bytes r1 r2 r3 rest : List ℕ) (level : Level) (wires gates : ℕ) → StepsTo AtVersion bytes AtLevel r1 → StepsTo AtLevel r1 (AtWires level) r2
    → ((l : Level) → StepsTo (AtWires l) r2 (AtGates l wires) r3) → ((l : Level) (w : ℕ) → StepsTo (AtGates l w) r3 (AtTCount l w gates) rest) → Reaches bytes 4 (AtTCount level wires gates) rest
to_t_count bytes r1 r2 r3 rest level wires gates version line_2 line_3 line_4 =
    Line 3 (AtGates level wires) r3 (AtTCount level wires gates) rest (to_gates bytes r1 r2 r3 level wires version line_2 line_3) (line_4 level wires)

pub returns-in_default-clause-refused : goal.returns-in_default-clause-refused
returns-in_default-clause-refused c = WrongLine 0 AtVersion c.args.bytes.now Start c.in_default.ensures.none refl

pub returns-in_default-level_line-clause-refused : goal.returns-in_default-level_line-clause-refused
returns-in_default-level_line-clause-refused c = WrongLine 1 AtLevel _ (to_level c.args.bytes.now _ c.in-Some.ensures.some) c.in_default-level_line.ensures.none refl

pub returns-in_err-wires-clause-refused : goal.returns-in_err-wires-clause-refused
returns-in_err-wires-clause-refused c =
    let p = err_from_is_err_and c.from_residual.result c.from_residual.ensures.1 in
    let chain = to_wires c.args.bytes.now _ _ c.in-Some-level_line.level c.in-Some.ensures.some c.in-Some-level_line.ensures.some in
    rw (p.1, p.2) (refused_after c.args.bytes.now 2 _ _ _ chain (c.in_err-wires.ensures.refused c.in-Some-level_line.level))

pub returns-in_err-gates-clause-refused : goal.returns-in_err-gates-clause-refused
returns-in_err-gates-clause-refused c =
    let p = err_from_is_err_and c.from_residual-in_err-gates.result c.from_residual-in_err-gates.ensures.1 in
    let chain = to_gates c.args.bytes.now _ _ _ c.in-Some-level_line.level _ c.in-Some.ensures.some c.in-Some-level_line.ensures.some c.in_ok-wires.ensures.right in
    rw (p.1, p.2) (refused_after c.args.bytes.now 3 _ _ _ chain (c.in_err-gates.ensures.refused c.in-Some-level_line.level _))

pub returns-in_default-t_count_line-clause-refused : goal.returns-in_default-t_count_line-clause-refused
returns-in_default-t_count_line-clause-refused c =
    WrongLine 4 _ _ (to_t_count c.args.bytes.now _ _ _ _ c.in-Some-level_line.level _ _ c.in-Some.ensures.some c.in-Some-level_line.ensures.some c.in_ok-wires.ensures.right c.in_ok-gates.ensures.right)
    (c.in_default-t_count_line.ensures.none _ _ _) refl

pub returns-clause-read : goal.returns-clause-read
returns-clause-read c =
    Line 4 _ _ _ _
    (to_t_count c.args.bytes.now _ _ _ _ c.in-Some-level_line.level _ _ c.in-Some.ensures.some c.in-Some-level_line.ensures.some c.in_ok-wires.ensures.right c.in_ok-gates.ensures.right)
    (c.in-Some-t_count_line.ensures.some _ _ _)
