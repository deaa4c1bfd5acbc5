-- The answer to `format`, and what it promises.
use Rattle.std.specs.Prelude.{◌≡◌, ℕ, List, Option}
use Rattle.tw_io.specs.Devices.{Appends}
use Rattle.tw_syntax.specs.Programs.{ProgramTree}
use Rattle.tw_parse.specs.Sources.{IsSource}
use Rattle.tw_print.specs.Programs.{program_print}
use Rattle.tw_print.specs.ReadBack.{ReadsBack}
use Rattle.tower.specs.Outcomes.{Outcome, Prints}

-- a program is answered by its printed form
abbrev pub FormatAnswer : ProgramTree → Outcome → Type 0
FormatAnswer tree outcome = outcome ≡ Prints (program_print tree)

-- the input is the source of a program, and the sink took its printed form, which reads back as the same program
pub record Formatted (bytes : List ℕ) (before now : Option (List ℕ)) : Type 0 where
  pub tree : ProgramTree
  pub source : IsSource bytes tree
  pub printed : Appends before now (program_print tree)
  pub reads_back : ReadsBack tree
