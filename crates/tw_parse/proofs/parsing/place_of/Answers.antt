use Rattle.std.proofs.Common.{◌≡◌, ◌-◌, [], drop, length, refl, arith}
use Rattle.std.proofs.Math.ListN.{drop_of_length-le}
use Rattle.std.specs.Str.{chars}
use Rattle.tw_text.specs.Places.{first_place}
use Rattle.tw_lex.specs.Left.{left_of}
use Rattle.tw_lex.proofs.Splits.{one_reading}
use Rattle.tw_parse.proofs.parsing.place_of.Goals as goal

pub returns-then-left-eq0 : goal.returns-then-left-eq0
returns-then-left-eq0 c toks has =
    let none : drop (length toks - c.args.left) toks ≡ [] = drop_of_length-le toks (omega (arith, c.if-left-eq0.true)) in
    rw none c.place_after.ensures

pub returns-in-Some : goal.returns-in-Some
returns-in-Some c toks has =
    let ts = left_of c.new-cursor.result in
    let same : ts ≡ toks = one_reading (chars c.args.text.now) first_place toks ts has c.new-cursor.ensures in
    let passed : c.saturating_sub-passed.result ≡ length ts - c.args.left = omega (arith, c.left.ensures, c.saturating_sub-passed.ensures) in
    rw (← same, ← passed, ← c.skip.ensures, c.in-Some.ensures.some) refl

pub returns-in-None : goal.returns-in-None
returns-in-None c toks has =
    let ts = left_of c.new-cursor.result in
    let same : ts ≡ toks = one_reading (chars c.args.text.now) first_place toks ts has c.new-cursor.ensures in
    let passed : c.saturating_sub-passed.result ≡ length ts - c.args.left = omega (arith, c.left.ensures, c.saturating_sub-passed.ensures) in
    rw (← same, ← passed, ← c.skip.ensures, c.in-None.ensures.none) c.place_after-in-None.ensures
