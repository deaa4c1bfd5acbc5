use Rattle.std.proofs.Common.{◌∙◌, sym, arith}
use Rattle.std.proofs.lemmas.Str.{IsCharBoundary-start, IsCharBoundary-after_ascii}
use Rattle.tw_lex.specs.Scans.{goes_on}
use Rattle.tw_lex.proofs.AsciiPrefixes.{ascii_at, run_at_end, run_before}
use Rattle.tw_lex.proofs.Runs.{runs_none, runs_more}
use Rattle.tw_lex.proofs.run.after_run.Goals.{then-loop-count-test+then-bytes-count-lt128+else-goes_on, then-loop-count-test+else-bytes-count-lt128, else-loop-count-test, else-count-bytes-via-then-count-bytes+else-bytes-count-ge128, else-count-bytes-via-else-count-bytes}
use Rattle.tw_lex.proofs.run.after_run.Goals as goal

pub loop-count-init : goal.loop-count-init
loop-count-init c = record { suffix = IsCharBoundary-start c.args.text.now c.utf8.text; runs = runs_none (goes_on c.args.run) c.args.text.now }

pub loop-count-preserved : goal.loop-count-preserved
loop-count-preserved c =
    let more = rw c.as_bytes-bytes.ensures.value at c.loop-count-test.true in
    let small = rw c.as_bytes-bytes.ensures.value at c.if-bytes-count-lt128.true in
    record {
      suffix = IsCharBoundary-after_ascii c.args.text.now c.loop-count.count c.utf8.text more small;
      runs = runs_more (goes_on c.args.run) c.args.text.now _ _ _ c.loop-count.count c.loop-count.invariant.runs (ascii_at c.args.text.now c.loop-count.count c.utf8.text c.loop-count.invariant.suffix more small)
          (rw c.as_bytes-bytes.ensures.value at (sym c.goes_on.ensures ∙ c.if-goes_on.true));
    }

pub returns : goal.returns
returns c =
    rw c.range_from.ensures.value
    (elim c.loop-count-test.branch [
      | then-loop-count-test+then-bytes-count-lt128+else-goes_on w ↦
          run_before (goes_on c.args.run) c.args.text.now _ _ c.loop-count.count c.loop-count.invariant.runs
          (ascii_at c.args.text.now c.loop-count.count c.utf8.text c.loop-count.invariant.suffix (rw c.as_bytes-bytes.ensures.value at w.loop-count-test.true) (rw c.as_bytes-bytes.ensures.value at w.if-bytes-count-lt128.true))
          (rw c.as_bytes-bytes.ensures.value at (sym w.goes_on.ensures ∙ w.if-goes_on.false))
      | then-loop-count-test+else-bytes-count-lt128 w ↦ absurd (elim c.else-count-bytes.branch [
        | else-count-bytes-via-then-count-bytes+else-bytes-count-ge128 v ↦ omega (arith, w.if-bytes-count-lt128.false, v.if-bytes-count-ge128.false)
        | else-count-bytes-via-else-count-bytes v ↦ omega (arith, w.loop-count-test.true, v.if-count-bytes.false)
      ])
      | else-loop-count-test w ↦ run_at_end (goes_on c.args.run) c.args.text.now c.loop-count.count c.loop-count.invariant.runs (rw c.as_bytes-bytes.ensures.value at w.loop-count-test.false)
    ])
