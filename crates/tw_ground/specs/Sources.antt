-- The texts of programs.
use Rattle.std.specs.Prelude.{ℕ, List}
use Rattle.tw_ground.specs.declared.source.Ground.{Ground}
use Rattle.tw_ground.specs.declared.source.Ground.TheVariants as ground
use Rattle.tw_ground.specs.declared.source.TheConstants.{LIST_SOURCE}

-- the source of the program of a kind
abbrev pub source_text : Ground → List ℕ
source_text ground.List = LIST_SOURCE.now
