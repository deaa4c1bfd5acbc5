use Rattle.std.proofs.Common.{drop}
use Rattle.tw_syntax.specs.Names.{NameTree}
use Rattle.tw_resolve.specs.Declarations.{declared_as}
use Rattle.tw_resolve.specs.Entries.{aliases_in}
use Rattle.tw_resolve.specs.Programs.{IsFirstRecursive}
use Rattle.tw_resolve.proofs.TextOrder.{HasRecursionFrom}
use Rattle.tw_resolve.proofs.recursion.first_recursion.Given as goal

abbrev pub invariant-loop-place : goal.invariant-loop-place
invariant-loop-place l =
    let aliases = aliases_in l.aliases.table.entries in
    let declared = declared_as aliases in
    record {
      left : HasRecursionFrom declared (drop l.place aliases);
      first : (name : NameTree) → IsFirstRecursive declared (drop l.place aliases) name → IsFirstRecursive declared aliases name;
    }
