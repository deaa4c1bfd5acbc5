-- The answer to `check`, and what it promises.
use Rattle.std.specs.Prelude.{◌≡◌, ℕ, List, Option, codes}
use Rattle.tw_io.specs.Devices.{Appends}
use Rattle.tw_text.specs.declared.refusal.Refusal.{Refusal}
use Rattle.tw_text.specs.declared.diagnostic.Diagnostic.TheVariants as diagnostic
use Rattle.tw_syntax.specs.Programs.{ProgramTree}
use Rattle.tw_parse.specs.Sources.{IsSource}
use Rattle.tw_types.specs.Types.{Widths}
use Rattle.tower.specs.Accepted.{IsAccepted, BreaksFirst}
use Rattle.tower.specs.Outcomes.{Outcome, Prints, Refuses}

-- an accepted program is answered by `ok`; any other by its first broken rule
pub data CheckAnswer (widths : Widths) (tree : ProgramTree) (outcome : Outcome) : Type 0 where
  Accepted : IsAccepted widths tree → outcome ≡ Prints (codes "ok\n") → CheckAnswer widths tree outcome
  Broken : (refusal : Refusal) → BreaksFirst widths tree refusal → outcome ≡ Refuses (diagnostic.Refused refusal) → CheckAnswer widths tree outcome

-- the input is the source of an accepted program, and the sink took `ok`
pub record Checked (widths : Widths) (bytes : List ℕ) (before now : Option (List ℕ)) : Type 0 where
  pub tree : ProgramTree
  pub source : IsSource bytes tree
  pub accepted : IsAccepted widths tree
  pub printed : Appends before now (codes "ok\n")
