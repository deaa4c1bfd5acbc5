-- Targets that are added to a table.
use denote.Bor.{Bor}
use Rattle.std.specs.Prelude.{◌≡◌, ℕ, List, fold}
use Rattle.tw_syntax.specs.declared.written.Written.{Written}
use Rattle.tw_syntax.specs.Types.{WrittenTree}
use Rattle.tw_resolve.specs.Declarations.{with_target}
use Rattle.tw_resolve.specs.Entries.{table_targets}

-- the second table has the targets of the first, and these, each that is new
pub record Collects (old new : List (Bor (List ℕ) × Bor Written)) (targets : List WrittenTree) : Type 0 where
  pub all : table_targets new ≡ fold with_target (table_targets old) targets
