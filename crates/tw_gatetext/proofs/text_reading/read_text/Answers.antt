use Rattle.std.proofs.Common.{◌≡◌, sym, ◌+◌, ◌++◌, length}
use Rattle.std.proofs.lemmas.Result.{err_from_is_err_and}
use Rattle.tw_gatetext.specs.Text.{header, lines}
use Rattle.tw_gatetext.specs.Reading.{head_seen, file_with}
use Rattle.tw_gatetext.proofs.Lists.{front_part, rest_fits}
use Rattle.tw_gatetext.proofs.Refusals.{no_file}
use Rattle.tw_gatetext.proofs.WholeFiles.{text_parts}
use Rattle.tw_gatetext.proofs.text_reading.read_text.Goals as goal

pub returns-in_err-header-clause-refused : goal.returns-in_err-header-clause-refused
returns-in_err-header-clause-refused c =
    let p = err_from_is_err_and c.from_residual.result c.from_residual.ensures.1 in rw (p.1, p.2) c.in_err-header.ensures.refused

pub returns-in_err-sum-clause-refused : goal.returns-in_err-sum-clause-refused
returns-in_err-sum-clause-refused c =
    let p = err_from_is_err_and c.from_residual-in_err-sum.result c.from_residual-in_err-sum.ensures.1 in
    rw (p.1, p.2) (c.in_err-sum.ensures.refused c.args.bytes.now c.in_ok-header.ensures.read)

pub returns-in_err-rest-clause-refused : goal.returns-in_err-rest-clause-refused
returns-in_err-rest-clause-refused c =
    let p = err_from_is_err_and c.from_residual-in_err-rest.result c.from_residual-in_err-rest.ensures.1 in
    let passed = c.in_ok-sum.ensures.passed in
    rw (p.1, p.2) (c.in_err-rest.ensures.refused c.args.bytes.now passed.0 (passed.3 c.args.bytes.now c.in_ok-header.ensures.read) passed.1 passed.2)

-- the parts of the text
parts : (c : goal.In_ok-rest)
    → (c.args.bytes.now ≡ header c.in_ok-header.header.level c.in_ok-header.header.wires (length c.in_ok-sum.ensures.passed.0) c.in_ok-sum.sum ++ c.in_ok-header.behind.now)
    × (c.in_ok-header.behind.now ≡ lines c.in_ok-sum.ensures.passed.0 ++ c.in_ok-sum.end.now)
parts c =
    let head = head_seen c.in_ok-header.header in
    let passed = c.in_ok-sum.ensures.passed in
    let chain = passed.3 c.args.bytes.now c.in_ok-header.ensures.read in
    text_parts c.args.bytes.now (5 + head.gates) head passed.0 c.in_ok-header.behind.now c.in_ok-sum.end.now c.in_ok-rest.rest.now c.in_ok-sum.sum c.in_ok-header.ensures.read chain c.in_ok-rest.ensures.line
    (c.in_ok-rest.ensures.file c.args.bytes.now passed.0 chain passed.1 passed.2)

pub slice_bounds-result-count : goal.slice_bounds-result-count
slice_bounds-result-count c = rest_fits _ _ _ (parts c).0

pub slice_bounds-result-count-2 : goal.slice_bounds-result-count-2
slice_bounds-result-count-2 c = rest_fits _ _ _ (parts c).1

pub returns-clause-file : goal.returns-clause-file
returns-clause-file c =
    let passed = c.in_ok-sum.ensures.passed in (
      file_with c.in_ok-header.header c.in_ok-sum.sum passed.0,
      c.in_ok-rest.ensures.file c.args.bytes.now passed.0 (passed.3 c.args.bytes.now c.in_ok-header.ensures.read) passed.1 passed.2,
      record { header = front_part _ _ _ (parts c).0; lines = front_part _ _ _ (parts c).1; gates = sym passed.1 },
    )

pub returns-clause-accepted : goal.returns-clause-accepted
returns-clause-accepted c why refused =
    let passed = c.in_ok-sum.ensures.passed in
    no_file c.args.bytes.now why (file_with c.in_ok-header.header c.in_ok-sum.sum passed.0) c.in_ok-rest.rest.now refused
    (c.in_ok-rest.ensures.file c.args.bytes.now passed.0 (passed.3 c.args.bytes.now c.in_ok-header.ensures.read) passed.1 passed.2)
