-- Which gate files are valid.
use Rattle.std.specs.Prelude.{◌≡◌, ℕ, ◌≤◌, length}
use Rattle.std.specs.List.{AllByRecursion}
use Rattle.tw_gate.specs.declared.gate.Level.{Level}
use Rattle.tw_gate.specs.declared.gate.Level.TheVariants as levels
use Rattle.tw_gate.specs.Gates.{PlainGate, X, IsProper, HasWiresBelow}
use Rattle.tw_gate.specs.Weight.{t_count}
use Rattle.tw_text.specs.declared.limits.TheConstants.{CONTROLS_LIMIT, WIRES_LIMIT, LINES_LIMIT}
use Rattle.tw_gatetext.specs.Text.{File}

-- which kinds of gates a level allows, with how many controls
abbrev pub FitsLevel : Level → PlainGate → Type 0
FitsLevel levels.Mcx (X controls target) = length controls ≤ CONTROLS_LIMIT
FitsLevel levels.Tof (X controls target) = length controls ≤ 2
FitsLevel levels.T (X controls target) = length controls ≤ 1
FitsLevel levels.T gate = Unit {0}
FitsLevel level gate = ⊥

-- a proper gate whose wires are all below this number
abbrev pub FitsWires : ℕ → PlainGate → Type 0
FitsWires wires gate = IsProper gate × HasWiresBelow wires gate

-- a valid file: its numbers are within their limits, each gate fits, and its T-count is that of its gates
pub record IsValid (file : File) : Type 0 where
  pub some_wires : 1 ≤ file.wires
  pub few_wires : file.wires ≤ WIRES_LIMIT
  pub few_gates : length file.gates ≤ LINES_LIMIT
  pub fit_level : AllByRecursion (FitsLevel file.level) file.gates
  pub fit_wires : AllByRecursion (FitsWires file.wires) file.gates
  pub counted : file.t_count ≡ t_count file.gates
