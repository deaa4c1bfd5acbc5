-- The price of an entry: the sums of its inventory, and its layout.
use Rattle.std.specs.Prelude.{◌≡◌, ℕ, List, [], ◌∷◌, ◌++◌, slice_get, Some, None, refl}
use Rattle.tw_text.specs.declared.refusal.Counted.TheVariants as counted
use Rattle.tw_text.specs.Places.{first_place}
use Rattle.tw_text.specs.Refusals.{passed}
use Rattle.tw_syntax.specs.Programs.{FunTree}
use Rattle.tw_gate.specs.declared.gate.Level.{Level}
use Rattle.tw_code.specs.declared.code.Options.{Options}
use Rattle.tw_code.specs.Rows.{Row, most_controls}
use Rattle.tw_resolve.specs.Demands.{Demand, first_broken}
use Rattle.tw_resolve.specs.Setting.{Setting}
use Rattle.tw_check.specs.declared.entry.Entry.{Entry}
use Rattle.tw_frames.specs.declared.measured.Measured.{Measured}
use Rattle.tw_frames.specs.declared.regions.WireLayout.{WireLayout}
use Rattle.tw_frames.specs.Inventory.{InventoryOf, t_total, line_total, toffoli_total}
use Rattle.tw_frames.specs.Layout.{IsLaidOut, wire_rules}
use Rattle.tw_frames.specs.LayoutExamples.{wires}
use Rattle.tw_frames.specs.MeasureExamples.{measure}
use Rattle.tw_frames.specs.Measures.{within_limit, limit_rules}
use Rattle.tw_cost.specs.declared.pricing.Priced.{Priced}

-- this is the inventory of an entry of the program, with these options
pub record HasInventory (setting : Setting) (entry : Entry) (options : Options) (rows : List Row) : Type 0 where
  pub fun : FunTree
  pub at : slice_get setting.funs entry.fun ≡ Some fun
  pub is : InventoryOf setting options fun entry.bound rows

-- an entry has one inventory
pub record HasOneInventory (setting : Setting) (entry : Entry) (options : Options) : Type 0 where
  pub rows : List Row
  pub is : HasInventory setting entry options rows
  pub only : (other : List Row) → HasInventory setting entry options other → rows ≡ other

-- this is the price of an entry of the program, with these options, at this level
pub record IsPriced (setting : Setting) (entry : Entry) (options : Options) (level : Level) (priced : Priced) : Type 0 where
  pub rows : List Row
  pub inventory : HasInventory setting entry options rows
  pub lines : priced.lines ≡ line_total level rows
  pub t_count : priced.t_count ≡ t_total rows
  pub toffolis : priced.toffolis ≡ toffoli_total rows
  pub most : priced.most_controls ≡ most_controls rows
  pub layout : IsLaidOut setting entry options level (most_controls rows) priced.layout

-- the demands on the price of an entry, for its measure, the most controls of its gates, its layout and its lines: first those on the
-- measure, then those on the controls, the wires and the lines
abbrev pub price_rules : Measured → (most : ℕ) → WireLayout → (lines : ℕ) → List Demand
price_rules measured most layout lines =
    limit_rules measured ++ (within_limit counted.Controls most ∷ (wire_rules layout ++ (within_limit counted.Lines lines ∷ [])))

-- the greatest counts are accepted, and the first that is greater is refused
abbrev on_wires : ℕ → WireLayout
on_wires all = wires 1 2 3 4 5 6 7 all

pub limits_are_accepted : first_broken (price_rules (measure 1000000 1000 0) 64 (on_wires 1048576) 4194304) ≡ None
limits_are_accepted = refl

pub controls_come_before_wires : first_broken (price_rules (measure 1000000 1000 0) 65 (on_wires 1048577) 4194305) ≡ Some (passed counted.Controls 65 first_place)
controls_come_before_wires = refl

pub wires_come_before_lines : first_broken (price_rules (measure 1000000 1000 0) 64 (on_wires 1048577) 4194305) ≡ Some (passed counted.Wires 1048577 first_place)
wires_come_before_lines = refl

pub lines_are_refused : first_broken (price_rules (measure 1000000 1000 0) 64 (on_wires 1048576) 4707787) ≡ Some (passed counted.Lines 4707787 first_place)
lines_are_refused = refl
