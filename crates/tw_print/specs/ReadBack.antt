-- The promise of printing: the printed form of a tree is parsed as the same tree.
use Rattle.std.specs.Prelude.{◌≡◌}
use Rattle.tw_syntax.specs.Programs.{ProgramTree}
use Rattle.tw_syntax.specs.Unplaced.{unplaced_program}
use Rattle.tw_parse.specs.Sources.{IsSource}
use Rattle.tw_print.specs.Programs.{program_print}

-- the printed form of the tree is the source of a tree that is equal but for places
pub record ReadsBack (tree : ProgramTree) : Type 0 where
  pub again : ProgramTree
  pub source : IsSource (program_print tree) again
  pub same : unplaced_program again ≡ unplaced_program tree
