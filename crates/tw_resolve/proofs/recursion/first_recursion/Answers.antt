use Rattle.tw_syntax.specs.Programs.{alias_tree}
use Rattle.tw_resolve.specs.Declarations.{declared_as}
use Rattle.tw_resolve.specs.Entries.{aliases_in}
use Rattle.tw_resolve.specs.Programs.{IsFinite}
use Rattle.tw_resolve.proofs.TextOrder.{first_here, first_later, recursion_later}
use Rattle.tw_resolve.proofs.recursion.first_recursion.Goals as goal

pub returns-then-branch : goal.returns-then-branch
returns-then-branch c =
    let aliases = aliases_in c.args.aliases.now.table.entries in
    let alias = alias_tree c.alias_at-alias.result.now in
    let here = first_here (declared_as aliases) aliases c.loop-place.place alias c.alias_at-alias.ensures (c.in_ok-contains_itself.ensures.0 c.if-branch.true) in
    (alias.name, c.loop-place.invariant.first alias.name here, c.broken.ensures)

pub loop-place-preserved : goal.loop-place-preserved
loop-place-preserved c =
    let aliases = aliases_in c.args.aliases.now.table.entries in
    let declared = declared_as aliases in
    let alias = alias_tree c.alias_at-alias.result.now in
    let finite : IsFinite declared alias = λ recursive. absurd (let is = c.in_ok-contains_itself.ensures.1 recursive in let not = c.if-branch.false in cc (is, not)) in
    record {
      left = recursion_later declared aliases c.loop-place.place alias c.alias_at-alias.ensures finite c.loop-place.invariant.left;
      first = λ name later. c.loop-place.invariant.first name (first_later declared aliases c.loop-place.place alias c.alias_at-alias.ensures finite name later);
    }
