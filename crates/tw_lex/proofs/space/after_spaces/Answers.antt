use Rattle.std.proofs.Common.{rules, arith}
use Rattle.tw_lex.proofs.Growing.{join}
use Rattle.tw_lex.proofs.space.after_spaces.Goals as goal

pub loop-following-preserved : goal.loop-following-preserved
loop-following-preserved c = record {
  text = search rules;
  spaces = join (join c.loop-following.invariant.spaces c.in-Some.ensures.some) c.after_gap-rest-in-Some.ensures.spaces;
  short = omega (arith, c.after_gap-rest-in-Some.ensures.shorter, c.in-Some.ensures.shorter, c.loop-following.invariant.short);
}
