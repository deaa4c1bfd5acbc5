-- What X gates cost at a level: sums over the rows of an inventory.
use Rattle.std.specs.Prelude.{◌≡◌, ◌+◌, max, List, [], ◌∷◌, refl}
use Rattle.tw_gate.specs.declared.gate.Level.{Level}
use Rattle.tw_gate.specs.declared.gate.Level.TheVariants as levels
use Rattle.tw_code.specs.Rows.{Row, row, most_controls, Load, both_loads}
use Rattle.tw_resolve.specs.Setting.{reported}
use Rattle.tw_frames.specs.Inventory.{line_total, toffoli_total}
use Rattle.tw_cost.specs.declared.costs.Cost.{Cost}

-- there are no gates
abbrev pub no_cost : Cost
no_cost = record { lines = 0; toffolis = 0; most_controls = 0 }

-- two circuits, one after the other
abbrev pub in_turn : Cost → Cost → Cost
in_turn first rest = record {
  lines = first.lines + rest.lines;
  toffolis = first.toffolis + rest.toffolis;
  most_controls = max first.most_controls rest.most_controls;
}

-- the cost of the gates of these rows
abbrev pub exact_cost : Level → List Row → Cost
exact_cost level rows = record { lines = line_total level rows; toffolis = toffoli_total rows; most_controls = most_controls rows }

-- the counts that are reported: a greater one than a `u64` holds is the greatest `u64`
abbrev pub capped_cost : Cost → Cost
capped_cost cost = record { lines = reported cost.lines; toffolis = reported cost.toffolis; most_controls = reported cost.most_controls }

-- the cost of these rows, as it is reported
abbrev pub cost_of : Level → List Row → Cost
cost_of level rows = capped_cost (exact_cost level rows)

-- this cost and that of the loads of two operands are the cost of these rows
abbrev pub AddsToLoads : Level → (Load → Load → List Row) → Cost → Type 0
AddsToLoads level rows found = (x y : Load) → capped_cost (in_turn (cost_of level (both_loads x y)) found) ≡ cost_of level (rows x y)

-- two gates of three controls and one of none
pub three_gates : cost_of levels.Tof (row 2 3 ∷ row 1 0 ∷ row 0 9 ∷ []) ≡ record { lines = 7; toffolis = 6; most_controls = 3 }
three_gates = refl
