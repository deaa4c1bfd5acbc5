-- What a check of statements answers, and the variables that it leaves.
use Rattle.std.specs.Prelude.{◌≡◌, ℕ, List, Result, OnOk}
use Rattle.tw_text.specs.declared.refusal.Fault.{Fault}
use Rattle.tw_syntax.specs.Programs.{FunTree}
use Rattle.tw_syntax.specs.Statements.{StmtTree}
use Rattle.tw_resolve.specs.Demands.{Demand, Tries}
use Rattle.tw_resolve.specs.Setting.{Setting}
use Rattle.tw_resolve.specs.Expressions.{Variables}
use Rattle.tw_resolve.specs.Statements.{variables_after, stmt_rules}

-- a call tries these demands, and if all hold, the variables are the wanted ones
pub record TriesInto {A : Type 0} (demands : List Demand) (wanted new : Variables) (result : Result A Fault) : Type 0 where
  pub tried : Tries demands result
  pub after : OnOk result (new ≡ wanted)

-- a call tries the rules of a statement in the function of this number, and if all hold, declares its variables
abbrev pub Checks : {A : Type 0} → Setting → ℕ → FunTree → StmtTree → Variables → Variables → Result A Fault → Type 0
Checks setting number fun stmt old new result =
    TriesInto (stmt_rules setting number fun old stmt) (variables_after setting old stmt) new result
