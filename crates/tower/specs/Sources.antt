-- The answer to an input that is read as a source.
use Rattle.std.specs.Prelude.{◌≡◌, ℕ, List}
use Rattle.tw_text.specs.declared.refusal.Refusal.{Refusal}
use Rattle.tw_text.specs.declared.diagnostic.Diagnostic.TheVariants as diagnostic
use Rattle.tw_syntax.specs.Programs.{ProgramTree}
use Rattle.tw_parse.specs.Sources.{IsSource, IsRefused}
use Rattle.tower.specs.Outcomes.{Outcome, Refuses}

-- the answer to the program of a source, or the refusal of an input that is no source
pub data SourceAnswer (bytes : List ℕ) (OnProgram : ProgramTree → Outcome → Type 0) (outcome : Outcome) : Type 0 where
  OnTree : (tree : ProgramTree) → IsSource bytes tree → OnProgram tree outcome → SourceAnswer bytes OnProgram outcome
  NoProgram : (refusal : Refusal) → IsRefused bytes refusal → outcome ≡ Refuses (diagnostic.Refused refusal) → SourceAnswer bytes OnProgram outcome
