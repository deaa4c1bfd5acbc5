use Rattle.std.proofs.Common.{◌-◌, drop, length}
use Rattle.std.specs.Str.{IsCharBoundary}
use Rattle.tw_lex.specs.Scans.{goes_on, Runs}
use Rattle.tw_lex.proofs.run.after_run.Given as goal

abbrev pub invariant-loop-count : goal.invariant-loop-count
invariant-loop-count l = record {
  suffix : IsCharBoundary l.text l.count;
  runs : Runs (goes_on l.run) l.text (drop l.count l.text) l.count;
}

abbrev pub decreases-loop-count : goal.decreases-loop-count
decreases-loop-count l = length l.text - l.count
